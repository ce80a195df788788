-- What the machine tells its router, and what the router asks for.
use Rattle.std.specs.Prelude.{◌≡◌, ℕ, Bool, true, false, is_some, List, Option, Some, None, IsSome}
use Rattle.std.specs.Option.{option_copied, option_map}
use Rattle.std.proofs.Common.{Bor, refl, sym, ap, ◌∙◌, subst, inl, inr}
use Rattle.std.proofs.lemmas.Bool.{true≢false}
use Rattle.std.proofs.lemmas.Option.{none-some, same_Some}
use Rattle.mx_base.specs.declared.names.Address.{Address}
use Rattle.mx_base.specs.declared.names.LinkId.{LinkId}
use Rattle.mx_base.specs.declared.names.Port.{Port}
use Rattle.mx_base.specs.declared.names.ServerId.{ServerId}
use Rattle.mx_wire.specs.Log.{Log}
use Rattle.mx_wire.specs.declared.entry.Entry.{Entry}
use Rattle.mx_wire.specs.declared.entry.Entry.TheVariants as entry
use Rattle.ready_loop.specs.Machine.{IsToldOf, Target}
use Rattle.ready_loop.specs.declared.machines.Act.{Act}
use Rattle.ready_loop.specs.declared.machines.Act.TheVariants as act
use Rattle.ready_loop.specs.declared.machines.Event.{Event}
use Rattle.ready_loop.specs.declared.machines.Event.TheVariants as event
use Rattle.core_laws.specs.entry.Cores.{with_entry}
use Rattle.router_laws.specs.decisions.Routers.{IsRouter}
use Rattle.router_laws.specs.waits.Drained.{IsDrainedFor}
use Rattle.core_policy.specs.declared.asks.Asked.{Asked}
use Rattle.core_service.specs.declared.service.Service.{Service}
use Rattle.core_tables.specs.Tables.{Tabled}
use Rattle.marked_tables.proofs.Going.{goes_along}
use Rattle.marked_tables.specs.Goes.{GoesOn, reads_on}
use Rattle.marked_tables.specs.declared.marked.MarkedTables.{MarkedTables}
use Rattle.core_texts.specs.declared.texts.Texts.{Texts}
use Rattle.core_texts.specs.Texts.{AreLess}
use Rattle.router_laws.specs.decisions.Held.{KeepsTexts}
use Rattle.router_laws.proofs.OfDecisions.Learning.{forgets}
use Rattle.shared_core.proofs.Coming.{come_as}
use Rattle.shared_core.specs.Machine.{IsDueIn, Tells}
use Rattle.shared_core.specs.Noted.{HasNoted}
use Rattle.shared_core.specs.Says.{target_of}
use Rattle.shared_core.specs.Stands.{ActsBy, Carries, CarriesWhere, Chooses, IsClosed, Loses, Moves, PartsFor, SettlesSo, Shown, StandsBy, StandsFor, Work}
use Rattle.shared_core.specs.Stands.{IsSettled, is_roomy, parted, shown, tables, tables_in, without_client, without_link, work_of, worked}
use Rattle.shared_core.specs.declared.router.Router.{Router}
use Rattle.shared_core.proofs.Carrying.{shown_stands}
use Rattle.shared_core.proofs.Keeping.{keeps_moves, keeps_still}

-- A close, and no close: how it stood before may be said by more.
pub acts_from : (A B : Service → Log → Type 0) (new : Shown) (result : Option Act) → ((service : Service) (log : Log) → A service log → B service log)
    → ActsBy B new result → ActsBy A new result
acts_from A B new (Some (act.Close link)) to by = record {
  opened = λ service log was. by.opened service log (to service log was);
  plain = λ none service log may was. by.plain none service log may (to service log was);
  offered = λ some service log e marks farewell are may then was. by.offered some service log e marks farewell are may then (to service log was);
}
acts_from A B new (Some (act.Open server address)) to by =
    record { stands = λ service log was. by.stands service log (to service log was); closed = by.closed }
acts_from A B new None to by = record { stands = λ service log was. by.stands service log (to service log was); closed = by.closed }

pub acts_shown : (Before : Service → Log → Type 0) (old new : Shown) (result : Option Act) → new ≡ old → ActsBy Before old result → ActsBy Before new result
acts_shown Before old new result same acts = subst (λ (s : Shown). ActsBy Before s result) (sym same) acts

-- nothing is being closed

pub nothing_parted : (s : Shown) → IsClosed s → parted s ≡ tables_in s
nothing_parted s closed =
    ap (λ l. without_link l (without_client s.leaving (tables_in s))) closed.link ∙ ap (λ c. without_client c (tables_in s)) closed.client

-- that it stands for what it stood for as it settles
abbrev pub SettlesRouters : Type 0
SettlesRouters = (service : Service) (old new : Router) → SettlesSo old new → (log : Log) → StandsFor service log old → StandsFor service log new

pub stands_parted : (service : Service) (log : Log) (s : Shown) → IsClosed s → PartsFor service log s → StandsBy service log (tables_in s) s
stands_parted service log s closed stands = subst (λ (t : Tabled). StandsBy service log t s) (nothing_parted s closed) stands

pub parted_stands : (service : Service) (log : Log) (s : Shown) → IsClosed s → StandsBy service log (tables_in s) s → PartsFor service log s
parted_stands service log s closed stands = subst (λ (t : Tabled). StandsBy service log t s) (sym (nothing_parted s closed)) stands

-- Whoever has room again, how many came, and the texts are all that it is by beside the tables.
pub stands_as : (service : Service) (log : Log) (t : Tabled) (a b : Shown) → b.roomy ≡ a.roomy → b.came ≡ a.came → b.texts ≡ a.texts → b.work ≡ a.work → StandsBy service log t a
    → StandsBy service log t b
stands_as service log t a b roomy came texts work stands = record {
  router = subst (λ (x : Texts). IsRouter service x (worked service b.work) log t (is_roomy b.roomy)) (sym texts)
      (subst (λ (w : Work). IsRouter service a.texts (worked service w) log t (is_roomy b.roomy)) (sym work)
      (subst (λ r. IsRouter service a.texts (worked service a.work) log t (is_roomy r)) (sym roomy) stands.router));
  counted = come_as log a.came b.came came stands.counted;
}

-- An entry by which a link was opened is that of the open which was asked for.

pub opened_so : (service : Service) (link : LinkId) (server : ServerId) (asked : Option Asked) (old new : Router)
    → ((a : Asked) → asked ≡ Some a → Carries service (entry.Opened a.server a.address link) old new) → (e : Entry)
    → (address : Address) × (option_map target_of asked ≡ Some (record { server = server; address = address })) × (e ≡ entry.Opened server address link)
    → Carries service e old new
opened_so service link server None old new carries e told = absurd (none-some _ told.1)
opened_so service link server (Some a) old new carries e told =
    let same : target_of a ≡ record { server = server; address = told.0 } = same_Some _ _ told.1 in
    let is : entry.Opened a.server a.address link ≡ e = ap (λ (t : Target). entry.Opened t.server t.address link) same ∙ sym told.2 in
    subst (λ (x : Entry). Carries service x old new) is (carries a refl)

-- by an entry that is this one
pub carried_as : (service : Service) (one e : Entry) (old new : Router) → e ≡ one → Carries service one old new → Carries service e old new
carried_as service one e old new is carries = subst (λ (x : Entry). Carries service x old new) (sym is) carries

pub where_as : (Is : Log → Type 0) (service : Service) (one e : Entry) (old new : Router) → e ≡ one → CarriesWhere Is service one old new
    → CarriesWhere Is service e old new
where_as Is service one e old new is carries = subst (λ (x : Entry). CarriesWhere Is service x old new) (sym is) carries

-- what is told of another event that is this one
pub tells_as : (service : Service) (event at : Event) (bytes : List ℕ) (old new : Router) → event ≡ at → Tells service at bytes old new
    → Tells service event bytes old new
tells_as service event at bytes old new is tells = subst (λ (x : Event). Tells service x bytes old new) (sym is) tells

-- What each kind of event tells.

module _ (service : Service) (bytes : List ℕ) (old new : Router) where
  pub woke_tells : (now_ms : ℕ) → ((until_ms : ℕ) → IsSettled old → CarriesWhere (IsDrainedFor (tables old)) service (entry.Woke until_ms now_ms) old new)
      → Tells service (event.Woke now_ms) bytes old new
  woke_tells now_ms carries loaded until_ms e told =
      where_as (IsDrainedFor (tables old)) service (entry.Woke until_ms now_ms) e old new told (carries until_ms loaded)

  pub accepted_tells : (port : Port) (link : LinkId) (salt : List ℕ) → Carries service (entry.Accepted port link salt) old new
      → Tells service (event.Accepted port link salt) bytes old new
  accepted_tells port link salt carries loaded until_ms e told log due = carried_as service (entry.Accepted port link salt) e old new told carries log

  pub opened_tells : (server : ServerId) (link : LinkId)
      → ((a : Asked) → old.asked ≡ Some a → Carries service (entry.Opened a.server a.address link) old new)
      → Tells service (event.Opened server link) bytes old new
  opened_tells server link carries loaded until_ms e told log due = opened_so service link server old.asked old new carries e told log

  pub failed_tells : (server : ServerId) → ((address : Address) → IsSettled old → Carries service (entry.OpenFailed server address) old new)
      → Tells service (event.OpenFailed server) bytes old new
  failed_tells server carries loaded until_ms e told log due =
      carried_as service (entry.OpenFailed server told.0) e old new told.2 (carries told.0 loaded) log

  pub got_tells : (link : LinkId) → (reads_on old.marked link ≡ true → IsSettled old → Carries service (entry.Got link bytes) old new)
      → Tells service (event.Got link) bytes old new
  got_tells link carries loaded until_ms e told log due = carried_as service (entry.Got link bytes) e old new told (carries due loaded) log

  pub ended_tells : (link : LinkId) → (IsSettled old → Loses service link old new) → Tells service (event.Ended link) bytes old new
  ended_tells link loses loaded until_ms e told log due = carried_as service (entry.Ended link) e old new told (loses loaded).ended log

  pub broken_tells : (link : LinkId) → (IsSettled old → Loses service link old new) → Tells service (event.Failed link) bytes old new
  broken_tells link loses loaded until_ms e told log due = elim told [
    | inl is ↦ carried_as service (entry.ReadFailed link) e old new is (loses loaded).unread log
    | inr is ↦ carried_as service (entry.WriteFailed link) e old new is (loses loaded).unwritten log
  ]

-- Texts that nobody needs are forgotten.

pub forgets_stands : (service : Service) (log : Log) (a b : Router) → AreLess a.texts b.texts → KeepsTexts a.texts b.texts (tables a)
    → b ≡ record a { texts = b.texts } → StandsFor service log a → StandsFor service log b
forgets_stands service log a b less keeps same stands =
    subst (λ (r : Router). StandsFor service log r) (sym same) (record {
      router = forgets service a.texts b.texts (worked service (work_of a)) log (tables a) (is_roomy a.roomy) stands.router less keeps;
      counted = stands.counted;
    })

pub moves_forgot : (old forgot new : Router) → forgot ≡ record old { texts = forgot.texts } → Moves forgot new → Moves old new
moves_forgot old forgot new same moves =
    let from : Moves (record old { texts = forgot.texts }) new = subst (λ (r : Router). Moves r new) same moves in
    record { goes = from.goes; client = from.client; link = from.link }

-- what is told of a router that forgot some is told of it before
pub tells_forgot : (service : Service) (event : Event) (bytes : List ℕ) (old forgot new : Router) → AreLess old.texts forgot.texts
    → KeepsTexts old.texts forgot.texts (tables old) → forgot ≡ record old { texts = forgot.texts } → Tells service event bytes forgot new
    → Tells service event bytes old new
tells_forgot service event bytes old forgot new less keeps same tells loaded until_ms e told log due may stands =
    tells (subst IsSettled (sym same) loaded) until_ms e
    (subst (λ (r : Router). IsToldOf until_ms (option_map target_of r.asked) event bytes e) (sym same) told) log
    (subst (λ (r : Router). IsDueIn r event log) (sym same) due) may (forgets_stands service log old forgot less keeps same stands)

-- An event goes through, something is noted, and the router settles.

pub tells_noted : (service : Service) (event : Event) (bytes : List ℕ) (old mid noted : Router) → Tells service event bytes old mid → HasNoted mid noted
    → Tells service event bytes old noted
tells_noted service event bytes old mid noted tells has loaded until_ms e told log due may stands =
    has.stands service (with_entry log e) (tells loaded until_ms e told log due may stands)

pub tells_along : SettlesRouters → (service : Service) (event : Event) (bytes : List ℕ) (old mid settled new : Router)
    → Tells service event bytes old mid → SettlesSo mid settled → Chooses settled new → Tells service event bytes old new
tells_along law service event bytes old mid settled new tells settles chosen loaded until_ms e told log due may stands =
    shown_stands service (with_entry log e) settled new chosen.same
    (law service mid settled settles (with_entry log e) (tells loaded until_ms e told log due may stands))

pub moves_along : (old mid settled new : Router) → Moves old mid → Moves mid settled → Chooses settled new → Moves old new
moves_along old mid settled new first next chosen = record {
  goes = goes_along old.marked mid.marked new.marked first.goes
      (subst (λ (m : MarkedTables). GoesOn mid.marked m) (sym (ap (λ (s : Shown). s.marked) chosen.same)) next.goes);
  client = ap (λ (s : Shown). s.leaving) chosen.same ∙ next.client ∙ first.client;
  link = ap (λ (s : Shown). s.closing) chosen.same ∙ next.link ∙ first.link;
}

pub moves_chosen : (a b c : Router) → Moves a b → Chooses b c → Moves a c
moves_chosen a b c moves chosen = moves_along a a b c (keeps_moves a a (keeps_still a)) moves chosen

-- what is found is there, or not

pub copied_none : {A : Type 0} → (o : Option (Bor A)) (x : Option A) → option_copied o ≡ x → is_some o ≡ false → x ≡ None
copied_none None x is none = sym is
copied_none (Some a) x is none = absurd (true≢false none)

pub copied_some : {A : Type 0} → (o : Option (Bor A)) (x : Option A) → option_copied o ≡ x → is_some o ≡ true → IsSome x
copied_some None x is some = absurd (true≢false (sym some))
copied_some (Some a) x is some = sym (ap (λ (y : Option _). is_some y) is)
