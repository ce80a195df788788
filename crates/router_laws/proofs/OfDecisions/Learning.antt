-- A router stays one as texts come, and as some are forgotten.
use Rattle.std.specs.Prelude.{◌≡◌, ◌⊎◌, ◌<◌, ◌≤◌, ℕ, Bool, length, List, Option, Some, None, ◌-◌, zero, suc, true, false, is_some, not, slice_index_or, if◌then◌else◌}
use Rattle.std.specs.Option.{option_or, option_and_then, option_map}
use Rattle.std.proofs.Common.{refl, sym, ap, ◌∙◌, subst, arith, inl, inr}
use Rattle.std.proofs.lemmas.Bool.{le-leb, true≢false}
use Rattle.std.proofs.lemmas.Option.{none-some, same_Some}
use Rattle.mx_wire.specs.Log.{Log}
use Rattle.core_service.specs.declared.service.Service.{Service}
use Rattle.private_model.specs.Names.{ClientNo}
use Rattle.private_model.specs.Story.{Key}
use Rattle.private_model.specs.View.{Setup}
use Rattle.link_laws.specs.Stands.{Codes}
use Rattle.log_story.specs.Clients.{is_answered}
use Rattle.log_story.specs.Executes.{Prepared, prepared_by}
use Rattle.log_story.specs.Headline.{tale_of}
use Rattle.log_story.specs.Owed.{messages, name_of, number_of}
use Rattle.log_story.specs.Plan.{Plan, Route}
use Rattle.log_story.specs.Tale.{Client, Tale}
use Rattle.client_desk.specs.declared.work.Work.{Work}
use Rattle.client_seat.specs.Numbers.{number_in, numbered}
use Rattle.client_seat.specs.Seats.{is_ended}
use Rattle.stmt_map.specs.Client.{statement_at}
use Rattle.stmt_map.specs.declared.client.ClientStatements.{ClientStatements}
use Rattle.stmt_map.specs.declared.statement.Statement.{Statement}
use Rattle.step_laws.proofs.Seating.{counted_seats}
use Rattle.step_laws.specs.Seats.{IsSeated}
use Rattle.tale_world.specs.Decided.{Decided}
use Rattle.core_tables.specs.Tables.{Tabled}
use Rattle.core_texts.specs.Texts.{AreLess, AreMore, HasBegun, key_at}
use Rattle.core_texts.specs.declared.texts.Texts.{Texts}
use Rattle.client_session.specs.Setups.{Setup as Serving}
use Rattle.core_stands.specs.Clients.{IsPhase, IsWorkingOr}
use Rattle.core_stands.specs.Grounds.{Ground, view_on}
use Rattle.core_stands.specs.Stands.{KnowsFirst, Stands}
use Rattle.core_laws.proofs.OfPrepared.Keeping.{going_within}
use Rattle.core_laws.proofs.OfPrepared.Knowing.{knows_behind, knows_none, knows_statement, none_replied}
use Rattle.core_laws.proofs.OfPrepared.Rows.{unanswered_row}
use Rattle.core_laws.proofs.OfWriting.Numbering.{number_routed}
use Rattle.core_laws.specs.entry.Tells.{Fits, IsOf, ground}
use Rattle.router_promises.specs.Statements.{is_live, known_statement}
use Rattle.router_promises.specs.Terms.{plan_in, setup_in}
use Rattle.router_laws.proofs.OfDecisions.Held.{HasRow, served}
use Rattle.router_laws.proofs.OfDecisions.Listing.{is_tale_of}
use Rattle.router_laws.proofs.OfDecisions.Recording.{or_stays}
use Rattle.router_laws.specs.decisions.Held.{AreHeld, IsHeld, KeepsTexts, keys_since}
use Rattle.router_laws.specs.decisions.Records.{IsRecorded}
use Rattle.core_promises.specs.Administers.{Administered}
use Rattle.router_laws.specs.decisions.Routers.{AreKnown, IsLearned, IsRouter}

-- What is found is there, or nothing is.

found : {A : Type 0} (o : Option A) (P : Option A → Type 0) → P None → ((a : A) → o ≡ Some a → P (Some a)) → P o
found None P none some = none
found (Some a) P none some = some a refl

-- More keys are decided.

abbrev keyed : Decided → (keys : (number : ℕ) → Option Key) → Decided
keyed d keys = record d { keys = λ number. option_or (d.keys number) (keys number) }

module _ (d : Decided) (keys : (number : ℕ) → Option Key) where
  of_less : (moment : ℕ) (plan : Plan) → IsOf (keyed d keys) moment plan → IsOf d moment plan
  of_less moment plan of = record {
    agrees = record {
      service = of.agrees.service;
      room = of.agrees.room;
      logins = of.agrees.logins;
      routes = of.agrees.routes;
      answered = of.agrees.answered;
      unanswered = of.agrees.unanswered;
      ended = of.agrees.ended;
      going = of.agrees.going;
      steps = of.agrees.steps;
    };
    told = of.told;
    untold = of.untold;
  }

  fits_less : (setup : Setup) (codes : Codes) (plan : Plan) (default : List ℕ) (tale : Tale) → Fits (keyed d keys).keys setup codes plan default tale
      → Fits d.keys setup codes plan default tale
  fits_less setup codes plan default tale fits = record {
    classes = fits.classes;
    named = fits.named;
    keyed = λ number key was. fits.keyed number key (or_stays (d.keys number) (keys number) key was);
    who = fits.who;
    single = fits.single;
  }

-- Those that come have numbers of which nothing was decided.

module _ (d : Decided) (old new : Texts) (known : AreKnown old d.keys) (more : AreMore old new) where
  abbrev later : Decided
  later = keyed d (key_at new)

  told_by : (number : ℕ) (key : Key) → key_at new number ≡ Some key
      → (key_at old number ≡ Some key) ⊎ ((old.last < number) × (number ≤ new.last)) → later.keys number ≡ Some key
  told_by number key is (inl was) = or_stays (d.keys number) (key_at new number) key (known.told number key was)
  told_by number key is (inr fresh) =
      ap (λ (o : Option Key). option_or o (key_at new number)) (known.later number fresh.0) ∙ is

  beyond_by : (number : ℕ) (key : Key) → new.last < number
      → (key_at old number ≡ Some key) ⊎ ((old.last < number) × (number ≤ new.last)) → Some key ≡ None
  beyond_by number key beyond (inl was) =
      sym (known.told number key was) ∙ known.later number (let less : old.last ≤ new.last = more.last in omega (arith, less, beyond))
  beyond_by number key beyond (inr fresh) = let within : number ≤ new.last = fresh.1 in absurd (omega (arith, within, beyond))

  none_beyond : (number : ℕ) → new.last < number → key_at new number ≡ None
  none_beyond number beyond =
      found (key_at new number) (λ (o : Option Key). o ≡ None) refl (λ key is. beyond_by number key beyond (more.fresh number key is))

  all_known : AreKnown new later.keys
  all_known = record {
    told = λ number key is. told_by number key is (more.fresh number key is);
    later = λ number beyond.
        (λ i. option_or (known.later number (let less : old.last ≤ new.last = more.last in omega (arith, less, beyond)) i) (none_beyond number beyond i));
  }

-- More texts are kept.

some_more : (old new : Texts) → AreMore old new → (number : ℕ) (found : Option Key) → key_at old number ≡ found → is_some found ≡ true
    → is_some (key_at new number) ≡ true
some_more old new more number None at is = absurd (true≢false (sym is))
some_more old new more number (Some key) at is = ap is_some (more.kept number key at)

held_more : (old new : Texts) → AreMore old new → (d : Decided) (setup : Setup) (plan : Plan) (tale : Tale) → AreHeld (key_at old) d setup plan tale
    → AreHeld (key_at new) d setup plan tale
held_more old new more d setup plan tale held = λ k dflt within on.
    let was = held k dflt within on in
    record {
      known = λ number made some is. some_more old new more made.key (key_at old made.key) refl (was.known number made some is);
      asked = λ route routed some is. some_more old new more route.key (key_at old route.key) refl (was.asked route routed some is);
    }

-- those that were kept as they began are so since
module _ (old new : Texts) (begun : HasBegun old) (more : AreMore old new) where
  some_since : (number : ℕ) (found : Option Key) → key_at old number ≡ found → is_some found ≡ true
      → is_some (keys_since new.since (key_at new) number) ≡ true
  some_since number None at is = absurd (true≢false (sym is))
  some_since number (Some key) at is =
      let within : number ≤ old.last = old.counted number key at in
      let since : new.since ≡ old.since = more.since in
      let all : old.since ≡ old.last = begun in
      ap (λ (b : Bool). is_some (if b then key_at new number else None)) (le-leb number new.since (omega (arith, within, since, all)))
      ∙ ap is_some (more.kept number key at)

  held_since : (d : Decided) (setup : Setup) (plan : Plan) (tale : Tale) → AreHeld (key_at old) d setup plan tale
      → AreHeld (keys_since new.since (key_at new)) d setup plan tale
  held_since d setup plan tale held = λ k dflt within on.
      let was = held k dflt within on in
      record {
        known = λ number made some is. some_since made.key (key_at old made.key) refl (was.known number made some is);
        asked = λ route routed some is. some_since route.key (key_at old route.key) refl (was.asked route routed some is);
      }

module _ (service : Service) (old new : Texts) (admin : Administered) (log : Log) (t : Tabled) (roomy : ClientNo → Bool) (router : IsRouter service old admin log t roomy) where
  abbrev d : Decided
  d = router.core.decided

  less : (plan : Plan) → IsOf (keyed d (key_at new)) (length log) plan → IsOf d (length log) plan
  less plan of = of_less d (key_at new) (length log) plan of

  fit : (setup : Setup) (codes : Codes) (plan : Plan) (tale : Tale) → Fits (keyed d (key_at new)).keys setup codes plan service.default_schema tale
      → Fits d.keys setup codes plan service.default_schema tale
  fit setup codes plan tale fits = fits_less d (key_at new) setup codes plan service.default_schema tale fits

  recorded_so : IsRecorded (keyed d (key_at new)) router.counts log
  recorded_so = record {
    until = router.recorded.until;
    taken_up = λ m within. record { routed = (router.recorded.taken_up m within).routed; owned = (router.recorded.taken_up m within).owned };
    to_come = λ m beyond. record { unrouted = (router.recorded.to_come m beyond).unrouted; unowned = (router.recorded.to_come m beyond).unowned };
    nowhere = router.recorded.nowhere;
    alone = router.recorded.alone;
    answered = router.recorded.answered;
    ended = router.recorded.ended;
    told = router.recorded.told;
    silent = router.recorded.silent;
    strangers = λ c beyond. record { untaken = (router.recorded.strangers c beyond).untaken; going = (router.recorded.strangers c beyond).going };
    unopened = λ l shut. record { nobody = (router.recorded.unopened l shut).nobody; unbegun = (router.recorded.unopened l shut).unbegun };
    unbegun = router.recorded.unbegun;
  }

  pub learns : AreMore old new → IsRouter service new admin log t roomy
  learns more = record {
    core = record {
      decided = keyed d (key_at new);
      rests = λ setup codes plan of fits. router.core.rests setup codes plan (less plan of) (fit setup codes plan _ fits);
      safe = λ setup codes plan of fits. router.core.safe setup codes plan (less plan of) (fit setup codes plan _ fits);
      written = λ setup codes plan of fits. router.core.written setup codes plan (less plan of) (fit setup codes plan _ fits);
      opened = router.core.opened;
    };
    counts = router.counts;
    recorded = recorded_so;
    counted = λ setup codes plan of fits. router.counted setup codes plan (less plan of) (fit setup codes plan _ fits);
    known = all_known d old new router.known more;
    lawful = router.lawful;
    open_just = router.open_just;
    rules = router.rules;
    first = router.first;
    began = router.began;
    administers = λ setup codes plan of fits. router.administers setup codes plan (less plan of) (fit setup codes plan _ fits);
    spoken = record { own = router.spoken.own; words = router.spoken.words };
    waited = λ terms codes of fits. router.waited terms codes (less (plan_in terms) of) (fit (setup_in terms) codes (plan_in terms) _ fits);
    judged = λ setup codes plan of fits. router.judged setup codes plan (less plan of) (fit setup codes plan _ fits);
    noted = λ setup codes plan of fits c one at.
        router.noted setup codes plan (less plan of) (fit setup codes plan _ fits) c one (sym (more.noted c) ∙ at);
    caused = λ setup codes plan of fits. router.caused setup codes plan (less plan of) (fit setup codes plan _ fits);
    ended = λ setup codes plan of fits. router.ended setup codes plan (less plan of) (fit setup codes plan _ fits);
    held = λ setup codes plan of fits.
        held_more old new more d setup plan (tale_of setup plan log) (router.held setup codes plan (less plan of) (fit setup codes plan _ fits));
  }

  pub learned : HasBegun old → AreMore old new → IsLearned service new admin log t roomy
  unfolding learns
  learned begun more = record {
    router = learns more;
    since = λ setup codes plan of fits.
        held_since old new begun more d setup plan (tale_of setup plan log) (router.held setup codes plan (less plan of) (fit setup codes plan _ fits));
  }

-- What was decided stays so, and no text is forgotten that a client may still name.

module _ (service : Serving) (g : Ground) (t : Tabled) (stands : Stands service g t) (client : Client) (seated : IsSeated g.tale client)
    (on : g.over client.number ≡ false) (old new : Texts) (keeps : KeepsTexts old new t) (held : IsHeld (key_at old) g.setup g.plan g.tale client) where
  has : HasRow g t client
  has = served service g t client stands seated on

  abbrev statements : ClientStatements
  statements = has.row.desk.seat.statements

  -- what it knows stands there

  past : (k : ℕ) → client.taken < k → (view_on g).replies (name_of client k) ≡ None
  past k later = has.is.coming.unanswered k (omega (arith, later))

  within : client.taken ≤ length (messages g.plan client)
  within = going_within g client has.row has.is (going_on (is_ended has.row.desk.seat.phase) refl has.is.phase) where
    going_on : (ended : Bool) → is_ended has.row.desk.seat.phase ≡ ended → IsPhase ended g client has.row → is_ended has.row.desk.seat.phase ≡ false
    going_on true at is = absurd (true≢false (sym is.over ∙ on))
    going_on false at is = at

  knows_by : (answered : Bool) → has.row.desk.seat.answered ≡ answered → (n : ℕ) → client.taken ≡ n
      → KnowsFirst (view_on g) g.plan client statements n
  knows_by true at n same = subst (λ (k : ℕ). KnowsFirst (view_on g) g.plan client statements k) same (has.prepared.stands at)
  knows_by false at zero same = knows_none (view_on g) g.plan client statements
  knows_by false at (suc n) same =
      let before : client.taken - 1 ≡ n = omega (arith, same) in
      let last : (view_on g).replies (name_of client (suc n)) ≡ None =
      ap (λ (k : ℕ). (view_on g).replies (name_of client k)) (sym same) ∙ unanswered_row g client has.row has.going at in
      knows_behind (view_on g) g.plan client statements n (omega (arith, same, within))
      (λ number payload some. none_replied number (suc n) payload (g.plan.routes (name_of client (suc n))) ((view_on g).replies (name_of client (suc n))) last)
      (subst (λ (k : ℕ). KnowsFirst (view_on g) g.plan client statements k) before has.prepared.known)

  module _ (number : ℕ) (made : Prepared) (some : 0 < number)
      (is : known_statement (view_on g) g.plan client number (suc client.taken) ≡ Some made) where
    stands_there : is_some (number_in statements number) ≡ true
    stands_there =
        knows_statement (view_on g) g.plan client statements past (knows_by has.row.desk.seat.answered refl client.taken refl) number made some is

    same_made : (p : Prepared) → prepared_by (view_on g) g.plan client number 1 (messages g.plan client) ≡ Some p → p ≡ made
    same_made p at =
        by (is_live g.plan client number (suc client.taken) p)
        (sym (ap (option_and_then (λ (q : Prepared). if is_live g.plan client number (suc client.taken) q then Some q else None)) at) ∙ is) where
          by : (b : Bool) → (if b then Some p else None) ≡ Some made → p ≡ made
          by true same = same_Some p made same
          by false none = absurd (none-some made none)

    by_statement : (found : Option Statement) → statement_at statements number ≡ found → is_some (option_map numbered found) ≡ true
        → is_some (key_at new made.key) ≡ true
    by_statement None at there = absurd (true≢false (sym there))
    by_statement (Some s) at there =
        let its = has.prepared.each number (numbered s) (ap (option_map numbered) at) in
        let key : s.prepared.key ≡ made.key =
        ap (λ (p : Prepared). p.key)
        (same_made (record { key = s.prepared.key; params = s.prepared.params; ordinal = its.ordinal }) its.prepared) in
        ap (λ (k : ℕ). is_some (key_at new k)) (sym key)
        ∙ ap is_some (keeps.statements client.number has.row number s has.there at)
        ∙ ap (λ (k : ℕ). is_some (key_at old k)) key ∙ held.known number made some is

    known_stays : is_some (key_at new made.key) ≡ true
    known_stays = by_statement (statement_at statements number) refl stands_there

  -- and what is being prepared is in work

  not_true : (b : Bool) → b ≡ false → not b ≡ true
  not_true b isnt = ap not isnt

  module _ (route : Route) (routed : g.plan.routes (name_of client client.taken) ≡ Some route) (some : 0 < route.number)
      (open_so : is_answered g.plan g.tale (view_on g) client client.taken ≡ false) where
    busy : is_some has.row.desk.work ≡ true
    busy = has.going.busy ∙ not_true has.row.desk.seat.answered (has.going.answered ∙ open_so)

    by_work : (found : Option Work) → has.row.desk.work ≡ found → is_some found ≡ true → IsWorkingOr g client has.row found
        → is_some (key_at new route.key) ≡ true
    by_work None at there is = absurd (true≢false (sym there))
    by_work (Some work) at there is =
        let number : number_of g.plan (name_of client work.ordinal) ≡ route.number =
        ap (λ (k : ℕ). number_of g.plan (name_of client k)) is.last ∙ number_routed g.plan (name_of client client.taken) route routed in
        let key : route.key ≡ work.key = is.keyed (is.only (omega (arith, some, number))) route routed in
        ap (λ (k : ℕ). is_some (key_at new k)) key ∙ ap is_some (keeps.works client.number has.row work has.there at)
        ∙ ap (λ (k : ℕ). is_some (key_at old k)) (sym key) ∙ held.asked route routed some open_so

    asked_stays : is_some (key_at new route.key) ≡ true
    asked_stays = by_work has.row.desk.work refl busy has.going.working

  held_stays : IsHeld (key_at new) g.setup g.plan g.tale client
  held_stays = record { known = λ number made some is. known_stays number made some is; asked = λ route routed some is. asked_stays route routed some is }

pub forgets : (service : Service) (old new : Texts) (admin : Administered) (log : Log) (t : Tabled) (roomy : ClientNo → Bool) → IsRouter service old admin log t roomy
    → AreLess old new → KeepsTexts old new t → IsRouter service new admin log t roomy
forgets service old new admin log t roomy router less keeps = record {
  core = router.core;
  counts = router.counts;
  recorded = router.recorded;
  counted = router.counted;
  known = record {
    told = λ number key is. router.known.told number key (less.there number key is);
    later = λ number beyond. router.known.later number (subst (λ (last : ℕ). last < number) less.last beyond);
  };
  lawful = router.lawful;
  open_just = router.open_just;
  rules = router.rules;
  first = router.first;
  began = router.began;
  administers = router.administers;
  spoken = router.spoken;
  waited = router.waited;
  judged = router.judged;
  noted = λ setup codes plan of fits c one at. router.noted setup codes plan of fits c one (less.noted c one at);
  caused = router.caused;
  ended = router.ended;
  held = λ setup codes plan of fits k dflt within on.
      let tale : Tale = tale_of setup plan log in
      held_stays service.setup (ground setup codes plan router.core.decided log) t (router.core.rests setup codes plan of fits).stands
      (slice_index_or tale.clients k dflt) (counted_seats tale (is_tale_of setup plan log).counted k dflt within) on old new keeps
      (router.held setup codes plan of fits k dflt within on);
}
