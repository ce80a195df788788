-- How the router stands for a log.
use Rattle.std.specs.Prelude.{◌≡◌, ◌||◌, ℕ, Bool, length, nat_eq, [], ◌∷◌, ◌++◌, Option, Some, None, IsSome}
use Rattle.std.specs.BTreeSet.{keys}
use Rattle.std.specs.List.{list_any}
use Rattle.std.specs.Option.{option_map_or}
use Rattle.admin_port.specs.Staged.{StagedRows}
use Rattle.query_rules.specs.Passing.{rules_of}
use Rattle.query_rules.specs.declared.rules.Rules.{Rules}
use Rattle.core_promises.specs.Administers.{Administered}
use Rattle.mx_wire.specs.Log.{AreMarks, Log, accepted_links}
use Rattle.mx_wire.specs.Tells.{IsOpen, MayFollow}
use Rattle.mx_wire.specs.declared.entry.Entry.{Entry}
use Rattle.mx_wire.specs.declared.entry.Entry.TheVariants.{Closed, Ended, ReadFailed, WriteFailed}
use Rattle.private_model.specs.Names.{ClientNo, LinkId}
use Rattle.core_service.specs.Serves.{rules_in}
use Rattle.core_service.specs.declared.service.Service.{Service}
use Rattle.core_tables.specs.Arrivals.{forgotten}
use Rattle.core_tables.specs.Parting.{lost_in, unlinked}
use Rattle.core_tables.specs.Tables.{IsSame, Tabled, tables_of}
use Rattle.core_texts.specs.declared.texts.Texts.{Texts}
use Rattle.router_laws.specs.decisions.Routers.{IsRouter}
use Rattle.core_laws.specs.entry.Cores.{with_entry}
use Rattle.marked_tables.specs.Goes.{GoesOn, sends_on}
use Rattle.marked_tables.specs.declared.marked.MarkedTables.{MarkedTables}
use Rattle.ready_loop.specs.Machine.{IsFarewell}
use Rattle.ready_loop.specs.declared.machines.Act.{Act}
use Rattle.ready_loop.specs.declared.machines.Act.TheVariants as act
use Rattle.router_laws.specs.wakes.Settling.{Settles}
use Rattle.shared_core.specs.Came.{HaveCome}
use Rattle.shared_core.specs.declared.came.Came.{Came}
use Rattle.shared_core.specs.declared.roomy.Roomy.{Roomy}
use Rattle.shared_core.specs.declared.router.Router.{Router}

-- What administrators work on: the rows that are staged, and the rules that are to come in force.
pub record Work : Type 0 where
  pub staged : StagedRows
  pub loaded : Option Rules

abbrev pub work_of : Router → Work
work_of r = record { staged = r.admin.staged; loaded = r.admin.loaded }

-- with the rules that are in force until then
abbrev pub worked : Service → Work → Administered
worked service work = record { staged = work.staged; rules = option_map_or rules_of work.loaded (rules_in service) }

-- all that were loaded are in force
abbrev pub IsSettled : Router → Type 0
IsSettled r = r.admin.loaded ≡ None

-- What it stands for a log by: its tables, who has room again, how many clients came, what is being closed, the texts that are kept, and what
-- administrators work on.
pub record Shown : Type 0 where
  pub marked : MarkedTables
  pub roomy : Roomy
  pub came : Came
  pub leaving : Option ClientNo
  pub closing : Option LinkId
  pub texts : Texts
  pub work : Work

abbrev pub shown : Router → Shown
shown r = record { marked = r.marked; roomy = r.roomy; came = r.came; leaving = r.leaving; closing = r.closing; texts = r.texts; work = work_of r }

abbrev pub tables_in : Shown → Tabled
tables_in s = tables_of s.marked.tables

abbrev pub tables : Router → Tabled
tables r = tables_in (shown r)

abbrev pub is_roomy : Roomy → ClientNo → Bool
is_roomy roomy c = roomy.all || list_any (nat_eq c.0) (keys roomy.some)

pub record StandsBy (service : Service) (log : Log) (t : Tabled) (s : Shown) : Type 0 where
  pub router : IsRouter service s.texts (worked service s.work) log t (is_roomy s.roomy)
  pub counted : HaveCome log s.came

abbrev pub StandsFor : Service → Log → Router → Type 0
StandsFor service log r = StandsBy service log (tables r) (shown r)

-- Whatever log the router stood for, it stands for that log with this entry, where the entry may follow.
abbrev pub Carries : Service → Entry → (old new : Router) → Type 0
Carries service e old new = (log : Log) → MayFollow log e → StandsFor service log old → StandsFor service (with_entry log e) new

-- So it does with each log of which this is so.
abbrev pub CarriesWhere : (Log → Type 0) → Service → Entry → (old new : Router) → Type 0
CarriesWhere Is service e old new =
    (log : Log) → Is log → MayFollow log e → StandsFor service log old → StandsFor service (with_entry log e) new

-- so it does with each entry by which a link is lost
pub record Loses (service : Service) (link : LinkId) (old new : Router) : Type 0 where
  pub ended : Carries service (Ended link) old new
  pub unread : Carries service (ReadFailed link) old new
  pub unwritten : Carries service (WriteFailed link) old new

-- What an event and a write leave as it was: which close is under way; and the links that aren't marked say no more than before.
pub record Moves (old new : Router) : Type 0 where
  pub goes : GoesOn old.marked new.marked
  pub client : new.leaving ≡ old.leaving
  pub link : new.closing ≡ old.closing

-- Links are lent, and what goes to them next is looked for: nothing of it is told.
pub record SettlesSo (old new : Router) : Type 0 where
  pub settles : Settles old.texts (tables old) (tables new)
  pub roomy : new.roomy ≡ old.roomy
  pub came : new.came ≡ old.came
  pub texts : new.texts ≡ old.texts
  pub work : work_of new ≡ work_of old

-- Only what is chosen by changes, and when the router is to be woken.
pub record Chooses (old new : Router) : Type 0 where
  pub same : shown new ≡ shown old
  pub asked : new.asked ≡ old.asked

-- Nothing is being closed.
pub record IsClosed (s : Shown) : Type 0 where
  pub client : s.leaving ≡ None
  pub link : s.closing ≡ None

-- A client that is being closed is forgotten at once, and a link to a server lost before; their rows stay for the farewell alone.

abbrev pub without_client : Option ClientNo → Tabled → Tabled
without_client None t = t
without_client (Some c) t = forgotten c t

abbrev pub without_link : Option LinkId → Tabled → Tabled
without_link None t = t
without_link (Some l) t = unlinked l (lost_in l t)

abbrev pub parted : Shown → Tabled
parted s = without_link s.closing (without_client s.leaving (tables_in s))

-- what is left, once that is closed
abbrev pub PartsFor : Service → Log → Shown → Type 0
PartsFor service log s = StandsBy service log (parted s) s

pub record Forgets (old new : Router) : Type 0 where
  pub tables : IsSame (tables new) (parted (shown old))
  pub closed : IsClosed (shown new)
  pub roomy : new.roomy ≡ old.roomy
  pub came : new.came ≡ old.came
  pub texts : new.texts ≡ old.texts
  pub work : work_of new ≡ work_of old

-- A close is asked for of a link that is open: by its end, behind a farewell or without one, the router stands for the log with it. `Before` is
-- how it stood for the log.
pub record ClosesBy (Before : Service → Log → Type 0) (new : Shown) (link : LinkId) : Type 0 where
  pub opened : (service : Service) (log : Log) → Before service log → IsOpen link log
  pub plain : sends_on new.marked link ≡ None → (service : Service) (log : Log) → MayFollow log (Closed link) → Before service log
      → PartsFor service (log ++ Closed link ∷ []) new
  pub offered : IsSome (sends_on new.marked link) → (service : Service) (log : Log) (e : Entry) (marks : Log)
      → IsFarewell (sends_on new.marked link) link e → AreMarks marks → MayFollow log e → MayFollow (log ++ e ∷ [] ++ marks) (Closed link)
      → Before service log → PartsFor service (log ++ e ∷ [] ++ marks ++ Closed link ∷ []) new

-- With no close it stands for what it stood for, and nothing is being closed.
pub record StandsStill (Before : Service → Log → Type 0) (new : Shown) : Type 0 where
  pub stands : (service : Service) (log : Log) → Before service log → PartsFor service log new
  pub closed : IsClosed new

abbrev pub ActsBy : (Before : Service → Log → Type 0) → (new : Shown) → Option Act → Type 0
ActsBy Before new (Some (act.Close link)) = ClosesBy Before new link
ActsBy Before new (Some (act.Open server address)) = StandsStill Before new
ActsBy Before new None = StandsStill Before new

abbrev pub ActsSo : (old new : Router) → Option Act → Type 0
ActsSo old new result = ActsBy (λ service log. PartsFor service log (shown old)) (shown new) result
