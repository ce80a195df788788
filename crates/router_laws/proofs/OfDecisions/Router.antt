-- The core goes on with an entry by its deeds.
use Rattle.std.specs.Prelude.{true, false, ◌≡◌, ◌<◌, ℕ, zero, suc, Bool, All, is_some, length, take, List, [], Option, Some, None}
use Rattle.std.proofs.Common.{refl, sym, ◌∙◌, subst, arith}
use Rattle.std.proofs.lemmas.List.Elements.{All-nil, All-weaker}
use Rattle.mx_wire.specs.Log.{Log}
use Rattle.mx_wire.specs.Moments.{lawful-more}
use Rattle.mx_wire.specs.Tells.{MayFollow}
use Rattle.mx_wire.specs.declared.entry.Entry.{Entry}
use Rattle.core_service.specs.Serves.{rules_in}
use Rattle.core_service.specs.declared.service.Service.{Service}
use Rattle.core_texts.specs.Texts.{key_at, noted_at}
use Rattle.core_texts.specs.declared.texts.Texts.{Texts}
use Rattle.client_session.specs.Setups.{Setup as Serving}
use Rattle.query_rules.specs.declared.rule.Rule.{Rule}
use Rattle.private_model.specs.Names.{ClientNo, MessageName}
use Rattle.private_model.specs.View.{Setup}
use Rattle.link_laws.specs.Stands.{Codes}
use Rattle.log_story.specs.Headline.{WritesDue, tale_of}
use Rattle.log_story.specs.Plan.{Plan, is_by_now}
use Rattle.log_story.specs.Tale.{Client}
use Rattle.tale_world.specs.Decided.{Decided}
use Rattle.core_tables.specs.Tables.{Tabled, no_tables}
use Rattle.core_stands.specs.Grounds.{Ground, first_ground}
use Rattle.core_stands.specs.Stands.{IsCalm, Rests}
use Rattle.core_laws.proofs.OfEntry.Deciding.{all_before, of_before}
use Rattle.core_laws.specs.entry.Cores.{with_entry}
use Rattle.core_laws.specs.entry.Dues.{AreWrittenTo, IsWrittenTo}
use Rattle.core_laws.specs.entry.Grows.{IsHeardMore, IsMoreBy}
use Rattle.core_laws.specs.entry.Safe.{IsSafe}
use Rattle.core_laws.specs.entry.Tells.{Fits, IsOf, ground}
use Rattle.router_laws.proofs.OfDecisions.Ending.{ended_then, halts_say}
use Rattle.router_laws.proofs.OfDecisions.Causing.{caused_then}
use Rattle.router_laws.proofs.OfDecisions.Noting.{taken_later}
use Rattle.router_laws.proofs.OfDecisions.Held.{held_then}
use Rattle.router_laws.proofs.OfDecisions.Judging.{judged_then}
use Rattle.router_laws.proofs.OfDecisions.Administering.{administers_then, agreed}
use Rattle.router_laws.specs.decisions.Administering.{AdministersSoFar}
use Rattle.query_rules.specs.Passing.{rules_of}
use Rattle.router_laws.proofs.OfDecisions.Fates.{false_true, none_some}
use Rattle.router_laws.proofs.OfDecisions.Gathering.{plans_so}
use Rattle.router_laws.proofs.OfDecisions.Keeping.{first_so, recorded_then}
use Rattle.router_laws.proofs.OfDecisions.Recording.{is_more, one_more}
use Rattle.core_promises.specs.Ruled.{book_of}
use Rattle.router_promises.specs.Terms.{plan_in, setup_in}
use Rattle.core_promises.specs.Waits.{AreDoneBy, WaitsSo}
use Rattle.router_laws.proofs.OfDecisions.Speaking.{first_spoken, ours_alone, spoken_then}
use Rattle.core_promises.specs.Causes.{AreCaused, CausedBy}
use Rattle.core_promises.specs.Endings.{EndedBy, EndsForCause}
use Rattle.router_promises.specs.Takings.{takings_at}
use Rattle.core_promises.specs.Judges.{AreJudged, JudgesBy}
use Rattle.router_laws.specs.decisions.Held.{AreHeldBy, IsHeld}
use Rattle.router_laws.specs.decisions.Judges.{JudgesThen, judging_by}
use Rattle.router_laws.specs.decisions.Noted.{AreNotedBy, message}
use Rattle.router_laws.specs.decisions.Force.{rules_then}
use Rattle.router_laws.specs.decisions.Speaks.{AreOurs}
use Rattle.router_laws.specs.decisions.Deeds.{Counts, Deeds, among, counts_with, decided_with, known_with, no_counts}
use Rattle.router_laws.specs.decisions.Records.{AreCountsOf, IsRecorded, first_deciding}
use Rattle.core_promises.specs.Administered.{IsFirst}
use Rattle.core_promises.specs.Administers.{Administered}
use Rattle.router_laws.specs.decisions.Routers.{AreOpenJust, IsBefore, GoesSo, GoesSoBy, IsRouter, WaitsThen}
use Rattle.run_laws.proofs.Telling.{first_tells}

pub more_with : (d : Decided) (n : Counts) (log : Log) (e : Entry) (deeds : Deeds) → IsRecorded d n log
    → IsMoreBy (length log) d (decided_with deeds n log e d)
more_with d n log e deeds recorded = is_more d n log e (among (known_with log e) deeds) (length (with_entry log e)) recorded (sym (one_more log e))

pub plan_before : (d : Decided) (n : Counts) (log : Log) (e : Entry) (deeds : Deeds) (plan : Plan) → IsRecorded d n log
    → IsOf (decided_with deeds n log e d) (length (with_entry log e)) plan → IsOf d (length log) plan
plan_before d n log e deeds plan recorded of =
    of_before d (decided_with deeds n log e d) (length log) plan (more_with d n log e deeds recorded)
    (subst (λ (k : ℕ). IsOf (decided_with deeds n log e d) k plan) (one_more log e) of)

pub fits_before : (d : Decided) (n : Counts) (log : Log) (e : Entry) (deeds : Deeds) (setup : Setup) (codes : Codes) (plan : Plan) (default : List ℕ)
    → IsRecorded d n log
    → All (λ (client : Client). IsHeardMore (tale_of setup plan (with_entry log e)) client) (tale_of setup plan log).clients
    → Fits (decided_with deeds n log e d).keys setup codes plan default (tale_of setup plan (with_entry log e))
    → Fits d.keys setup codes plan default (tale_of setup plan log)
fits_before d n log e deeds setup codes plan default recorded heard fits = record {
  classes = fits.classes;
  named = fits.named;
  keyed = λ k key was. fits.keyed k key ((more_with d n log e deeds recorded).keys k key was);
  who = all_before setup plan default (tale_of setup plan log) (tale_of setup plan (with_entry log e)) heard fits.who;
  single = fits.single;
}

module _ {texts : Texts} {was is : Administered} (service : Service) (log : Log) (e : Entry) (deeds : Deeds) (t now : Tabled) (roomy room : ClientNo → Bool)
    (router : IsRouter service texts was log t roomy) (may : MayFollow log e) (ours : AreOurs (rules_in service) texts deeds)
    (waits : WaitsThen service log e router.core.decided) (judges : JudgesThen service log e router.core.decided router.counts deeds was is)
    (goes : GoesSoBy service.setup service.default_schema log e router.core.decided router.counts deeds t now roomy room) where
  abbrev new : Decided
  new = decided_with deeds router.counts log e router.core.decided

  module _ (setup : Setup) (codes : Codes) (plan : Plan) (of : IsOf new (length (with_entry log e)) plan)
      (fits : Fits new.keys setup codes plan service.default_schema (tale_of setup plan (with_entry log e))) where
    so : GoesSo service.setup setup codes plan log e router.core.decided router.counts deeds t now roomy room
    so = goes setup codes plan of fits

    of_then : IsOf router.core.decided (length log) plan
    of_then = plan_before router.core.decided router.counts log e deeds plan router.recorded of

    fits_then : Fits router.core.decided.keys setup codes plan service.default_schema (tale_of setup plan log)
    fits_then =
        fits_before router.core.decided router.counts log e deeds setup codes plan service.default_schema router.recorded so.goes.heard fits

    rests_then : Rests service.setup (ground setup codes plan router.core.decided log) t roomy
    rests_then = router.core.rests setup codes plan of_then fits_then

    rests_now : Rests service.setup (ground setup codes plan new (with_entry log e)) now room
    rests_now = so.goes.rests rests_then

    written_now : AreWrittenTo (ground setup codes plan new (with_entry log e)) (with_entry log e)
    written_now = so.goes.written rests_then rests_now (router.core.written setup codes plan of_then fits_then)

    safe_now : IsSafe setup plan (with_entry log e)
    safe_now = so.goes.safe rests_then rests_now written_now (router.core.safe setup codes plan of_then fits_then)

    counts_now : AreCountsOf (counts_with deeds router.counts log e) (tale_of setup plan (with_entry log e))
    counts_now = so.counts

  waited_now : AreDoneBy service.default_schema new (with_entry log e)
  waited_now terms codes of fits =
      let then : IsOf router.core.decided (length log) (plan_in terms) = of_then (setup_in terms) codes (plan_in terms) of fits in
      let fitted = fits_then (setup_in terms) codes (plan_in terms) of fits in
      lawful-more (WaitsSo terms) log e (router.waited terms codes then fitted) (waits terms codes then fitted)

  abbrev then_rules : MessageName → List Rule
  then_rules = rules_then router.counts router.rules (rules_in service)

  judged_now : JudgesBy (book_of service) then_rules service.default_schema new (with_entry log e)
  judged_now setup codes plan of fits =
      let then : IsOf router.core.decided (length log) plan = of_then setup codes plan of fits in
      let fitted : Fits router.core.decided.keys setup codes plan service.default_schema (tale_of setup plan log) = fits_then setup codes plan of fits in
      judged_then service log e router.core.decided router.counts deeds router.recorded router.rules setup plan of (router.counted setup codes plan then fitted)
      (counts_now setup codes plan of fits) (router.judged setup codes plan then fitted) was is (judges setup codes plan of fits)

  administers_now : AdministersSoFar then_rules service.default_schema new (with_entry log e) router.first is
  administers_now setup codes plan of fits outcomes agree =
      let then : IsOf router.core.decided (length log) plan = of_then setup codes plan of fits in
      let fitted : Fits router.core.decided.keys setup codes plan service.default_schema (tale_of setup plan log) = fits_then setup codes plan of fits in
      let counted = router.counted setup codes plan then fitted in
      let judged = judges setup codes plan of fits in
      administers_then service log e router.core.decided router.counts deeds router.recorded router.rules setup plan of counted
      (counts_now setup codes plan of fits) router.first was is judged outcomes agree
      (router.administers setup codes plan then fitted outcomes
      (agreed service log e router.core.decided router.counts deeds router.recorded router.rules setup plan of counted (counts_now setup codes plan of fits)
      router.first was is judged outcomes agree))

  held_now : AreHeldBy (key_at texts) service.default_schema new (with_entry log e)
  held_now setup codes plan of fits =
      let then : IsOf router.core.decided (length log) plan = of_then setup codes plan of fits in
      let fitted : Fits router.core.decided.keys setup codes plan service.default_schema (tale_of setup plan log) = fits_then setup codes plan of fits in
      held_then (rules_in service) texts service.setup log e router.core.decided router.counts deeds t now roomy room router.recorded ours setup codes
      plan of (router.counted setup codes plan then fitted) (counts_now setup codes plan of fits) (rests_then setup codes plan of fits)
      (rests_now setup codes plan of fits) (router.held setup codes plan then fitted)

  noted_now : AreNotedBy (noted_at texts) service.default_schema new (with_entry log e)
  noted_now setup codes plan of fits =
      let then : IsOf router.core.decided (length log) plan = of_then setup codes plan of fits in
      let fitted : Fits router.core.decided.keys setup codes plan service.default_schema (tale_of setup plan log) = fits_then setup codes plan of fits in
      λ c one at. taken_later setup plan log e (message c one.ordinal) one.by_ms (router.noted setup codes plan then fitted c one at)

  caused_now : CausedBy service.wait_ms service.default_schema new (with_entry log e)
  caused_now setup codes plan of fits =
      let then : IsOf router.core.decided (length log) plan = of_then setup codes plan of fits in
      let fitted : Fits router.core.decided.keys setup codes plan service.default_schema (tale_of setup plan log) = fits_then setup codes plan of fits in
      caused_then service.wait_ms log e router.core.decided router.counts deeds router.recorded setup plan of (router.counted setup codes plan then fitted)
      (counts_now setup codes plan of fits) (router.caused setup codes plan then fitted) (judges setup codes plan of fits).why

  ended_now : EndedBy service.buffer_budget service.default_schema new (with_entry log e)
  ended_now setup codes plan of fits =
      let then : IsOf router.core.decided (length log) plan = of_then setup codes plan of fits in
      let fitted : Fits router.core.decided.keys setup codes plan service.default_schema (tale_of setup plan log) = fits_then setup codes plan of fits in
      let judged = judges setup codes plan of fits in
      ended_then service.buffer_budget log e router.core.decided router.counts deeds router.recorded setup plan of (router.ended setup codes plan then fitted)
      (λ client seated.
      halts_say setup plan client (takings_at setup plan (tale_of setup plan log) e) (deeds.calls client.number) (deeds.halts client.number)
      (judging_by service (judged.states client.number.0) (judged.states (suc client.number.0))) (router.counts.taken client.number) (judged.takes client seated))
      judged.parts

  pub router_goes_on : AreOpenJust (with_entry log e) now → IsRouter service texts is (with_entry log e) now room
  router_goes_on open_just = record {
    core = record { decided = new; rests = rests_now; safe = safe_now; written = written_now; opened = λ l there. sym (open_just l) ∙ there };
    counts = counts_with deeds router.counts log e;
    recorded = recorded_then router.core.decided router.counts log e deeds router.recorded (ours_alone (rules_in service) texts deeds ours);
    counted = counts_now;
    known = record { told = router.known.told; later = router.known.later };
    lawful = lawful-more MayFollow log e router.lawful may;
    open_just = open_just;
    rules = then_rules;
    first = router.first;
    began = router.began;
    administers = administers_now;
    spoken = spoken_then (rules_in service) texts router.core.decided router.counts log e deeds router.recorded router.rules router.spoken ours;
    waited = waited_now;
    judged = judged_now;
    held = held_now;
    noted = noted_now;
    caused = caused_now;
    ended = ended_now;
  }

module _ {texts : Texts} {admin : Administered} (service : Service) (log : Log) (e : Entry) (t : Tabled) (roomy : ClientNo → Bool) (deeds : Deeds) (setup : Setup)
    (codes : Codes) (plan : Plan) (router : IsRouter service texts admin log t roomy) (may : MayFollow log e)
    (of : IsOf (decided_with deeds router.counts log e router.core.decided) (length (with_entry log e)) plan)
    (fits : Fits (decided_with deeds router.counts log e router.core.decided).keys setup codes plan service.default_schema (tale_of setup plan (with_entry log e)))
    (heard : All (λ (client : Client). IsHeardMore (tale_of setup plan (with_entry log e)) client) (tale_of setup plan log).clients) where
  of_old : IsOf router.core.decided (length log) plan
  of_old = plan_before router.core.decided router.counts log e deeds plan router.recorded of

  fits_old : Fits router.core.decided.keys setup codes plan service.default_schema (tale_of setup plan log)
  fits_old = fits_before router.core.decided router.counts log e deeds setup codes plan service.default_schema router.recorded heard fits

  pub stood_before : IsBefore service texts admin log e t roomy router deeds setup codes plan
  stood_before = record {
    of = of_old;
    fits = fits_old;
    rests = router.core.rests setup codes plan of_old fits_old;
    written = router.core.written setup codes plan of_old fits_old;
    safe = router.core.safe setup codes plan of_old fits_old;
    counts = router.counted setup codes plan of_old fits_old;
    so = plans_so service.default_schema router.core.decided router.counts log e deeds setup codes plan router.recorded may of fits_old
        (router.counted setup codes plan of_old fits_old);
  }

pub changed : {texts : Texts} {admin : Administered} (service : Service) (log : Log) (t now : Tabled) (roomy room : ClientNo → Bool)
    → IsRouter service texts admin log t roomy → ((g : Ground) → Rests service.setup g t roomy → Rests service.setup g now room) → AreOpenJust log now
    → IsRouter service texts admin log now room
changed service log t now roomy room router rests open_just = record {
  core = record {
    decided = router.core.decided;
    rests = λ setup codes plan of fits.
        rests (ground setup codes plan router.core.decided log) (router.core.rests setup codes plan of fits);
    safe = router.core.safe;
    written = router.core.written;
    opened = λ l there. sym (open_just l) ∙ there;
  };
  counts = router.counts;
  recorded = router.recorded;
  counted = router.counted;
  known = router.known;
  lawful = router.lawful;
  open_just = open_just;
  rules = router.rules;
  first = router.first;
  began = router.began;
  administers = router.administers;
  spoken = router.spoken;
  waited = router.waited;
  judged = router.judged;
  held = router.held;
  noted = router.noted;
  caused = router.caused;
  ended = router.ended;
}

roomier : (service : Serving) (g : Ground) (t : Tabled) (roomy room : ClientNo → Bool) → ((c : ClientNo) → roomy c ≡ true → room c ≡ true)
    → Rests service g t roomy → Rests service g t room
roomier service g t roomy room more rests = record {
  stands = rests.stands;
  over = rests.over;
  looked = rests.looked;
  rested = rests.rested;
  calm = All-weaker (IsCalm g roomy) (IsCalm g room)
      (λ client calm going full. calm going (by client.number full (roomy client.number) refl)) g.tale.clients rests.calm;
} where
  by : (c : ClientNo) → room c ≡ false → (b : Bool) → roomy c ≡ b → roomy c ≡ false
  by c full true is = false_true (room c) full (more c is)
  by c full false is = is

pub grows_roomier : {texts : Texts} {admin : Administered} (service : Service) (log : Log) (t : Tabled) (roomy room : ClientNo → Bool)
    → IsRouter service texts admin log t roomy → ((c : ClientNo) → roomy c ≡ true → room c ≡ true) → IsRouter service texts admin log t room
grows_roomier service log t roomy room router more =
    changed service log t t roomy room router (λ g rests. roomier service.setup g t roomy room more rests) router.open_just

-- The empty log.

none_taken : (P : Log → Type 0) → P [] → (n : ℕ) → P (take n [])
none_taken P is zero = is
none_taken P is (suc n) = is

none_due : (setup : Setup) (plan : Plan) → WritesDue setup plan []
none_due setup plan = λ k d within. absurd (omega (arith, within))

first_safe : (setup : Setup) (plan : Plan) → IsSafe setup plan []
first_safe setup plan = record {
  tested = tt;
  unbroken = refl;
  told = first_tells setup plan;
  said = λ l there. false_true false refl there;
  written = none_taken (WritesDue setup plan) (none_due setup plan);
}

not_by_now : (at : Option ℕ) → ((n : ℕ) → at ≡ Some n → 0 < n) → is_by_now 0 at ≡ false
not_by_now None later = refl
not_by_now (Some n) later = let more : 0 < n = later n refl in grind arith

pub router_of_none : (service : Service) (texts : Texts) (admin : Administered) → IsFirst (rules_of service.configured) admin → (roomy : ClientNo → Bool) → service.loaded ≡ None → ((number : ℕ) → key_at texts number ≡ None)
    → ((c : ClientNo) → noted_at texts c ≡ None)
    → ((setup : Setup) (codes : Codes) (plan : Plan) → plan.service ≡ service.setup → plan.room ≡ 1048576
    → ((c : ClientNo) → is_by_now 0 (plan.ends c) ≡ false) → Rests service.setup (first_ground setup codes plan) no_tables roomy)
    → IsRouter service texts admin [] no_tables roomy
router_of_none service texts admin begins roomy unloaded none unnoted stands = record {
  core = record {
    decided = first_deciding service.setup;
    rests = λ setup codes plan of fits.
        stands setup codes plan of.agrees.service of.agrees.room (λ c. not_by_now (plan.ends c) (λ n is. of.agrees.going c n refl is));
    safe = λ setup codes plan of fits. first_safe setup plan;
    written = λ setup codes plan of fits. All-nil (IsWrittenTo (ground setup codes plan (first_deciding service.setup) []) []);
    opened = λ l there. false_true false refl there;
  };
  counts = no_counts;
  recorded = first_so service.setup;
  counted = λ setup codes plan of fits.
      record { taken = All-nil (λ (client : Client). client.taken ≡ 0); begun = λ l. refl };
  known = record { told = λ number key is. none_some (key_at texts number) key (none number) is; later = λ number beyond. refl };
  lawful = tt;
  open_just = λ l. refl;
  rules = λ name. rules_in service;
  first = admin;
  began = begins;
  administers = λ setup codes plan of fits outcomes agree. refl;
  spoken = first_spoken (λ name. rules_in service) service.setup;
  waited = λ terms codes of fits. tt;
  judged = λ setup codes plan of fits. All-nil (AreJudged (book_of service) (λ name. rules_in service) setup plan []);
  held = λ setup codes plan of fits.
      All-nil (λ (client : Client). is_some ((first_deciding service.setup).ends client.number) ≡ false → IsHeld (key_at texts) setup plan (tale_of setup plan []) client);
  noted = λ setup codes plan of fits c one at. none_some (noted_at texts c) one (unnoted c) at;
  caused = λ setup codes plan of fits. All-nil (AreCaused service.wait_ms setup plan []);
  ended = λ setup codes plan of fits. All-nil (EndsForCause service.buffer_budget setup plan []);
}
