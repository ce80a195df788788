-- The core as a machine, by what its router does.
use Rattle.std.specs.Prelude.{◌≡◌, ◌&&◌, ℕ, Bool, true, false, is_some, if◌then◌else◌, length, take, List, [], ◌∷◌, ◌++◌, Option, Some, None, IsSome, IfNone, IfSome, OnOk, Result, Ok, Err}
use Rattle.std.specs.Option.{option_map, option_map_or}
use Rattle.std.proofs.Common.{refl, sym, ap, ◌∙◌, subst, append-nil}
use Rattle.std.proofs.lemmas.Bool.{true≢false}
use Rattle.std.proofs.lemmas.List.Elements.{filter_map-append}
use Rattle.std.proofs.lemmas.Option.{none-some}
use Rattle.mx_base.specs.declared.names.LinkId.{LinkId}
use Rattle.mx_base.specs.Sent.{MayTake, Sent}
use Rattle.mx_wire.specs.Log.{Log, accepted_link, accepted_links, is_open}
use Rattle.mx_wire.specs.Tells.{MayFollow}
use Rattle.mx_wire.specs.declared.entry.Entry.{Entry}
use Rattle.mx_wire.specs.declared.entry.Entry.TheVariants as entry
use Rattle.ready_loop.specs.Changes.{SaysSame}
use Rattle.ready_loop.specs.Drained.{IsDue, MayWait}
use Rattle.ready_loop.specs.Machine.{Acts, CarriesOver, HasActed, IsAwaited, IsHeard, IsQuiet, IsToldOf, Keeps, OwesFarewell, Target}
use Rattle.ready_loop.specs.declared.machines.Act.{Act}
use Rattle.ready_loop.specs.declared.machines.Act.TheVariants as act
use Rattle.ready_loop.specs.declared.machines.Event.{Event}
use Rattle.ready_loop.specs.declared.machines.Event.TheVariants as event
use Rattle.private_model.specs.Names.{ClientNo}
use Rattle.core_policy.specs.declared.asks.Asked.{Asked}
use Rattle.core_service.specs.Serves.{rules_in}
use Rattle.core_service.specs.declared.service.Service.{Service}
use Rattle.core_says.specs.Says.{reads_in, sends_in}
use Rattle.core_tables.specs.Tables.{Tabled, no_tables, IsSame, tables_of}
use Rattle.core_tables.specs.declared.tables.Tables.{Tables}
use Rattle.link_marks.specs.Marks.{is_known}
use Rattle.core_laws.specs.entry.Cores.{with_entry}
use Rattle.router_laws.specs.decisions.Routers.{IsRouter}
use Rattle.router_laws.specs.waits.Drained.{IsDrainedAt, IsDrainedFor}
use Rattle.marked_tables.specs.Goes.{AreKnown, GoesOn, reads_on, sends_on}
use Rattle.marked_tables.proofs.Going.{named_known}
use Rattle.marked_tables.specs.declared.marked.MarkedTables.{MarkedTables}
use Rattle.core_texts.specs.declared.texts.Texts.{Texts}
use Rattle.core_texts.specs.Texts.{key_at, noted_at}
use Rattle.query_rules.specs.Passing.{rules_of}
use Rattle.query_rules.specs.declared.rules.Rules.{Rules}
use Rattle.core_promises.specs.Administered.{IsFirst}
use Rattle.core_promises.specs.Administers.{Administered, AreRulesOf}
use Rattle.shared_core.proofs.Coming.{BringsNone, come_as, come_on}
use Rattle.shared_core.specs.declared.came.Came.{Came}
use Rattle.shared_core.specs.Machine.{IsDueIn, IsStanding, Tells, is_stopped}
use Rattle.shared_core.specs.Says.{IsAskedFor, awaits, reads, sends, target_of}
use Rattle.shared_core.specs.Stands.{ActsSo, Carries, Chooses, IsClosed, Moves, PartsFor, Shown, StandsBy, StandsFor}
use Rattle.shared_core.specs.Stands.{IsSettled, is_roomy, parted, shown, tables, without_client, without_link, work_of, worked}
use Rattle.shared_core.specs.declared.roomy.Roomy.{Roomy}
use Rattle.shared_core.specs.declared.router.Router.{Router}
use Rattle.shared_core.specs.declared.whole.Core.{Core}
use Rattle.shared_core.proofs.Carrying.{shown_stands}
use Rattle.shared_core.proofs.Machining.{nothing_parted, parted_stands, stands_parted}
use Rattle.shared_core.proofs.Tabling.{tables_are}

abbrev pub asks : Core → Bool
asks core = core.router.acting

abbrev pub due_in : Core → Log → Entry → Type 0
due_in = IsDue reads sends asks

some_of : (asked : Option Asked) (target : Target) → option_map target_of asked ≡ Some target → IsSome asked
some_of None target is = absurd (none-some target is)
some_of (Some asked) target is = refl

-- By the time that it is told of an event nothing is being closed.
closed_by : (core : Core) (event : Event) (log : Log) → IsHeard (awaits core) event → HasActed (asks core) event → IsStanding core log
    → IsClosed (shown core.router)
closed_by core (event.Opened server link) log heard acted was = was.opening (some_of core.router.asked _ heard.1)
closed_by core (event.OpenFailed server) log heard acted was = was.opening (some_of core.router.asked _ heard.1)
closed_by core (event.Woke now_ms) log heard acted was = was.acted acted
closed_by core (event.Accepted port link salt) log heard acted was = was.acted acted
closed_by core (event.Got link) log heard acted was = was.acted acted
closed_by core (event.Ended link) log heard acted was = was.acted acted
closed_by core (event.Failed link) log heard acted was = was.acted acted

-- Where the loop waits nothing is left to read or to write: each link that is open has a row, and so is known to the marks.

drained_for : (core : Core) (log : Log) → IsStanding core log → MayWait (reads core) (sends core) (asks core) log
    → IsDrainedFor (tables core.router) log
drained_for core log was may =
    let stood : StandsFor core.service log core.router = stands_parted core.service log (shown core.router) (was.acted may.acted) was.stands in
    let known : (l : LinkId) → is_open l log ≡ true → is_known core.router.marked.changed l ≡ true =
    λ l opened. was.known l (sym (stood.router.open_just l) ∙ opened) in
    record {
      accepted = may.drained.accepted;
      named = may.drained.named;
      read = λ l opened wants.
          may.drained.read l opened (ap (λ (b : Bool). b && reads_in (tables core.router) l) (known l opened) ∙ wants);
      written = λ l opened some.
          may.drained.written l opened
          (subst (λ (b : Bool). IsSome (if b then sends_in (tables core.router) l else None)) (sym (known l opened)) some);
    }

parted_drained : (core : Core) (log : Log) → IsStanding core log → MayWait (reads core) (sends core) (asks core) log
    → IsDrainedFor (parted (shown core.router)) log
parted_drained core log was may =
    subst (λ (t : Tabled). IsDrainedFor t log) (sym (nothing_parted (shown core.router) (was.acted may.acted))) (drained_for core log was may)

due_by : (core : Core) (event : Event) (log : Log) (until_ms : ℕ) (bytes : List ℕ) (e : Entry)
    → IsToldOf until_ms (awaits core) event bytes e → IsStanding core log → due_in core log e → IsDueIn core.router event log
due_by core (event.Got link) log until_ms bytes e told was due = subst (λ (x : Entry). due_in core log x) told due
due_by core (event.Woke now_ms) log until_ms bytes e told was due =
    drained_for core log was (subst (λ (x : Entry). due_in core log x) told due)
due_by core _ log until_ms bytes e told was due = tt

-- Behind an event, and behind a write, nothing is.
stands_moved : (core : Core) (router : Router) (log : Log) → Moves core.router router → IsClosed (shown core.router) → AreKnown core.router.marked
    → StandsFor core.service log router → IsStanding (record core { router = router }) log
stands_moved core router log moves closed known stands =
    let then_closed : IsClosed (shown router) = record { client = moves.client ∙ closed.client; link = moves.link ∙ closed.link } in
    record {
      stands = parted_stands core.service log (shown router) then_closed stands;
      acted = λ off. then_closed;
      opening = λ some. then_closed;
      known = moves.goes.known known;
    }

pub take_one : (core : Core) (router : Router) (event : Event) (bytes : List ℕ) → IsSettled core.router → IsHeard (awaits core) event
    → HasActed (asks core) event → Tells core.service event bytes core.router router → Moves core.router router → (e : Entry)
    → IsToldOf core.router.until (awaits core) event bytes e → CarriesOver IsStanding due_in core (record core { router = router }) e
take_one core router event bytes loaded heard acted tells moves e told = record {
  carried = λ log may due was.
      let closed : IsClosed (shown core.router) = closed_by core event log heard acted was in
      stands_moved core router (log ++ e ∷ []) moves closed was.known
      (tells loaded core.router.until e told log (due_by core event log core.router.until bytes e told was due) may
      (stands_parted core.service log (shown core.router) closed was.stands));
}

-- It is told of an event once the rules that were loaded are in force, which changes nothing else of the router.
module _ (core one : Core) (same : one.router ≡ record core.router { admin = one.router.admin }) where
  marked_same : core.router.marked ≡ one.router.marked
  marked_same = sym (ap (λ (r : Router). r.marked) same)

  acting_same : core.router.acting ≡ one.router.acting
  acting_same = sym (ap (λ (r : Router). r.acting) same)

  awaits_same : awaits core ≡ awaits one
  awaits_same = sym (ap (λ (r : Router). option_map target_of r.asked) same)

  waits_same : (log : Log) → MayWait (reads core) (sends core) (asks core) log → MayWait (reads one) (sends one) (asks one) log
  waits_same log may =
      subst (λ (a : Bool). MayWait (reads_on one.router.marked) (sends_on one.router.marked) a log) acting_same
      (subst (λ (m : MarkedTables). MayWait (reads_on m) (sends_on m) (asks core) log) marked_same may)

  due_same : (log : Log) (e : Entry) → due_in core log e → due_in one log e
  due_same log (entry.Woke until_ms now_ms) due = waits_same log due
  due_same log entry.WaitFailed due = waits_same log due
  due_same log entry.Over due = waits_same log due
  due_same log (entry.Got link bytes) due = subst (λ (m : MarkedTables). reads_on m link ≡ true) marked_same due
  due_same log _ due = tt

  pub take_ruled : (router : Router) (event : Event) (bytes : List ℕ) → IsSettled one.router → IsHeard (awaits core) event → HasActed (asks core) event
      → Tells one.service event bytes one.router router → Moves one.router router → (e : Entry) → IsToldOf core.router.until (awaits core) event bytes e
      → (log : Log) → MayFollow log e → due_in core log e → IsStanding one log → IsStanding (record one { router = router }) (log ++ e ∷ [])
  take_ruled router event bytes loaded heard acted tells moves e told log may due was =
      let told_one : IsToldOf one.router.until (awaits one) event bytes e =
      subst (λ (a : Option Target). IsToldOf one.router.until a event bytes e) awaits_same
      (subst (λ (n : ℕ). IsToldOf n (awaits core) event bytes e) (sym (ap (λ (r : Router). r.until) same)) told) in
      (take_one one router event bytes loaded (subst (λ (a : Option Target). IsHeard a event) awaits_same heard)
      (subst (λ (b : Bool). HasActed b event) acting_same acted) tells moves e told_one).carried log may (due_same log e due) was

-- Bytes were written.
pub wrote_carries : (core : Core) (wrote router : Router) (link : LinkId) (n : ℕ) (sent : Sent) → asks core ≡ false → sends core link ≡ Some sent
    → ((service : Service) (sent : Sent) → sends_on core.router.marked link ≡ Some sent
    → Carries service (entry.Wrote link sent.tag (take n sent.bytes)) core.router wrote)
    → Moves core.router router → shown router ≡ shown wrote
    → CarriesOver IsStanding due_in core (record core { router = router }) (entry.Wrote link sent.tag (take n sent.bytes))
wrote_carries core wrote router link n sent acted is carries moves same = record {
  carried = λ log may due was.
      let closed : IsClosed (shown core.router) = was.acted acted in
      stands_moved core router (with_entry log (entry.Wrote link sent.tag (take n sent.bytes))) moves closed was.known
      (shown_stands core.service (with_entry log (entry.Wrote link sent.tag (take n sent.bytes))) wrote router same
      (carries core.service sent is log may (stands_parted core.service log (shown core.router) closed was.stands)));
}

-- What is asked for.
pub acts_stand : (core : Core) (router : Router) (result : Option Act) → ActsSo core.router router result → GoesOn core.router.marked router.marked
    → IsAskedFor router.asked result → router.acting ≡ is_some result → Acts IsStanding due_in sends core (record core { router = router }) result
acts_stand core router None acts goes asked acting = record {
  kept = λ log was. record {
    stands = acts.stands core.service log was.stands;
    acted = λ off. acts.closed;
    opening = λ some. acts.closed;
    known = goes.known was.known;
  };
}
acts_stand core router (Some (act.Open server address)) acts goes asked acting = record {
  kept = λ log was. record {
    stands = acts.stands core.service log was.stands;
    acted = λ off. acts.closed;
    opening = λ some. acts.closed;
    known = goes.known was.known;
  };
}
acts_stand core router (Some (act.Close link)) acts goes asked acting = record {
  opened = λ log was. acts.opened core.service log was.stands;
  plain = λ none. record { carried = λ log may due was. closing (log ++ entry.Closed link ∷ []) was.known (acts.plain none core.service log may was.stands) };
  offered = λ some log e marks farewell are may last was.
      closing (log ++ e ∷ [] ++ marks ++ entry.Closed link ∷ []) was.known (acts.offered some core.service log e marks farewell are may last was.stands);
} where
  closing : (log : Log) → AreKnown core.router.marked → PartsFor core.service log (shown router) → IsStanding (record core { router = router }) log
  closing log known stands = record {
    stands = stands;
    acted = λ off. absurd (true≢false (sym acting ∙ off));
    opening = λ some. absurd (true≢false (sym some ∙ ap (λ (a : Option Asked). is_some a) asked));
    known = goes.known known;
  }

pub acts_awaited : (core : Core) (result : Option Act) → IsAskedFor core.router.asked result → IfSome result (IsAwaited (awaits core))
acts_awaited core None asked = tt
acts_awaited core (Some (act.Open server address)) asked = asked
acts_awaited core (Some (act.Close link)) asked = tt

pub owes_none : (core now : Core) (result : Option Act)
    → OwesFarewell IsStanding (λ (log : Log) (link : LinkId) (piece : List ℕ). Unit {0}) sends core now result
owes_none core now None = tt
owes_none core now (Some (act.Open server address)) = tt
owes_none core now (Some (act.Close link)) = λ log sent was is. tt

pub none_asks : (core : Core) (result : Option Act) → asks core ≡ is_some result → IfNone result (asks core ≡ false)
none_asks core None is = is
none_asks core (Some result) is = tt

-- A link is named that may have something new.

pub named_keeps : (core : Core) (m : MarkedTables) → m.tables ≡ core.router.marked.tables
    → ((link : LinkId) → is_known m.changed link ≡ is_known core.router.marked.changed link)
    → Keeps IsStanding core (record core { router = record core.router { marked = m } })
named_keeps core m same known = record {
  kept = λ log was. record {
    stands = record {
      router = subst (λ (t : Tables). IsRouter core.service core.router.texts (worked core.service (work_of core.router)) log
          (without_link core.router.closing (without_client core.router.leaving (tables_of t))) (is_roomy core.router.roomy)) (sym same)
          was.stands.router;
      counted = was.stands.counted;
    };
    acted = λ off. same_closed (was.acted off);
    opening = λ some. same_closed (was.opening some);
    known = named_known core.router.marked m same known was.known;
  };
} where
  same_closed : IsClosed (shown core.router) → IsClosed (shown (record core.router { marked = m }))
  same_closed closed = record { client = closed.client; link = closed.link }

pub named_says : (core : Core) (m : MarkedTables) → m.tables ≡ core.router.marked.tables
    → ((link : LinkId) → is_known m.changed link ≡ is_known core.router.marked.changed link)
    → SaysSame reads sends (λ (core : Core). core.router.until) is_stopped core (record core { router = record core.router { marked = m } })
named_says core m same known = record {
  read = λ link i. known link i && reads_in (tables_of (same i)) link;
  written = λ link i. if known link i then sends_in (tables_of (same i)) link else None;
  until_ms = refl;
  stopped = refl;
}

-- It stands still where it is told of nothing.

abbrev pub Quiet : Type 0
Quiet = (service : Service) (texts : Texts) (admin : Administered) (log : Log) (e : Entry) (t : Tabled) (roomy : ClientNo → Bool) → IsRouter service texts admin log t roomy
    → MayFollow log e → IsQuiet e → IsDrainedAt t log e → IsRouter service texts admin (with_entry log e) t roomy

-- where it waits, all is drained
drained_at : (core : Core) (log : Log) (e : Entry) → IsStanding core log → IsQuiet e → due_in core log e
    → IsDrainedAt (parted (shown core.router)) log e
drained_at core log entry.WaitFailed was quiet due = parted_drained core log was due
drained_at core log entry.Over was quiet due = parted_drained core log was due
drained_at core log (entry.Woke until_ms now_ms) was quiet due = absurd quiet
drained_at core log _ was quiet due = tt

none_comes : (e : Entry) → IsQuiet e → BringsNone (e ∷ [])
none_comes (entry.Accepted port link salt) quiet = absurd quiet
none_comes (entry.Woke until_ms now_ms) quiet = absurd quiet
none_comes _ quiet = (refl, λ moment. refl)

pub quiet_carries : Quiet → (core : Core) (e : Entry) → IsQuiet e → CarriesOver IsStanding due_in core core e
quiet_carries law core e quiet = record {
  carried = λ log may due was. record {
    stands = record {
      router = law core.service core.router.texts (worked core.service (work_of core.router)) log e (parted (shown core.router)) (is_roomy core.router.roomy) was.stands.router may
          quiet (drained_at core log e was quiet due);
      counted = come_on log (e ∷ []) core.router.came (none_comes e quiet) was.stands.counted;
    };
    acted = was.acted;
    opening = was.opening;
    known = was.known;
  };
}

-- Rules are loaded: nothing else changes.

abbrev pub LoadsRules : Type 0
LoadsRules = (service : Service) (texts : Texts) (admin : Administered) (log : Log) (t : Tabled) (roomy : ClientNo → Bool) (loaded : Rules)
    → IsRouter service texts admin log t roomy → IsRouter (record service { loaded = Some loaded }) texts admin log t roomy

abbrev pub with_loaded : Router → Option Rules → Router
with_loaded r left = record r { admin = record r.admin { loaded = left } }

pub loads_stand : LoadsRules → (core : Core) (rules : Rules) (left : Option Rules) → Some rules ≡ core.router.admin.loaded → left ≡ None → (log : Log)
    → IsStanding core log → IsStanding (record { service = record core.service { loaded = Some rules }; router = with_loaded core.router left }) log
loads_stand law core rules left loaded none log was =
    subst (λ (o : Option Rules). IsStanding (record { service = record core.service { loaded = Some rules }; router = with_loaded core.router o }) log)
    (sym none) (record {
      stands = record {
        router = subst (λ (o : Option Rules). IsRouter (record core.service { loaded = Some rules }) core.router.texts
            (worked core.service (record { staged = core.router.admin.staged; loaded = o })) log (parted (shown core.router)) (is_roomy core.router.roomy))
            (sym loaded)
            (law core.service core.router.texts (worked core.service (work_of core.router)) log (parted (shown core.router)) (is_roomy core.router.roomy) rules
            was.stands.router);
        counted = was.stands.counted;
      };
      acted = λ off. same_closed (was.acted off);
      opening = λ some. same_closed (was.opening some);
      known = was.known;
    }) where
      same_closed : IsClosed (shown core.router) → IsClosed (shown (with_loaded core.router None))
      same_closed closed = record { client = closed.client; link = closed.link }

-- None are.
pub still_stand : (core : Core) (left : Option Rules) → None ≡ core.router.admin.loaded → left ≡ None → (log : Log) → IsStanding core log
    → IsStanding (record core { router = with_loaded core.router left }) log
still_stand core left was none log stands =
    subst (λ (o : Option Rules). IsStanding (record core { router = with_loaded core.router o }) log) (sym was ∙ sym none) stands

-- It begins.

abbrev pub First : Type 0
First = (service : Service) (texts : Texts) (admin : Administered) → IsFirst (rules_of service.configured) admin → (roomy : ClientNo → Bool) → service.loaded ≡ None → ((number : ℕ) → key_at texts number ≡ None)
    → ((c : ClientNo) → noted_at texts c ≡ None) → IsRouter service texts admin [] no_tables roomy

abbrev pub nobody : Came
nobody = record { clients = 0; administrator = false; clock = 0 }

pub first_stands : First → (service : Service) (r : Router) → IsSame (tables r) no_tables → r.came ≡ nobody
    → ((number : ℕ) → key_at r.texts number ≡ None) → ((c : ClientNo) → noted_at r.texts c ≡ None)
    → AreRulesOf r.admin.staged.rules (rules_of service.configured) → r.admin.loaded ≡ None → service.loaded ≡ None → StandsFor service [] r
first_stands law service r none came untold unnoted staged settled unloaded = record {
  router = subst (λ (t : Tabled). IsRouter service r.texts (worked service (work_of r)) [] t (is_roomy r.roomy)) (sym (tables_are (tables r) no_tables none))
      (law service r.texts (worked service (work_of r))
      (record {
        force = ap (λ (o : Option Rules). option_map_or rules_of o (rules_in service)) settled
            ∙ ap (λ (o : Option Rules). option_map_or rules_of o (rules_of service.configured)) unloaded;
        staged = staged;
      }) (is_roomy r.roomy) unloaded untold unnoted);
  counted = come_as [] nobody r.came came (record { clients = refl; administrator = λ is. absurd (let no : false ≡ true = is in cc); clock = refl });
}

pub first_core : (core : Core) → StandsFor core.service [] core.router → IsClosed (shown core.router) → AreKnown core.router.marked
    → IsStanding core []
first_core core stands closed known = record {
  stands = parted_stands core.service [] (shown core.router) closed stands;
  acted = λ off. closed;
  opening = λ some. closed;
  known = known;
}
