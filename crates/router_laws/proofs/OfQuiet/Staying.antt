-- A router goes on with an entry that tells it nothing, or that a server makes.
use Rattle.std.specs.Prelude.{◌≡◌, ◌<◌, ◌+◌, ◌||◌, ℕ, suc, Bool, true, false, if◌then◌else◌, length, List, [], ◌∷◌, ◌++◌, None}
use Rattle.std.proofs.Common.{refl, sym, ap, ◌∙◌, subst, arith, append-nil, append_assoc, inl, length-append}
use Rattle.std.proofs.lemmas.List.Elements.{All-nil}
use Rattle.mx_wire.specs.Log.{AreMarks, IsMark, Log, is_link, is_open, link_of, open_step}
use Rattle.mx_wire.specs.Tells.{MayFollow}
use Rattle.mx_wire.specs.declared.entry.Entry.{Entry}
use Rattle.mx_wire.specs.declared.entry.Entry.TheVariants as entry
use Rattle.core_service.specs.Serves.{rules_in}
use Rattle.core_service.specs.declared.service.Service.{Service}
use Rattle.core_texts.specs.declared.texts.Texts.{Texts}
use Rattle.client_session.specs.Setups.{Setup as Serving}
use Rattle.private_model.specs.Names.{ClientNo, LinkId}
use Rattle.private_model.specs.View.{Setup}
use Rattle.link_laws.specs.Stands.{Codes}
use Rattle.log_story.specs.Headline.{tale_of}
use Rattle.log_story.specs.Plan.{Plan, word_at}
use Rattle.log_story.specs.Tale.{Client, Tale, counted, is_to_server}
use Rattle.log_story.specs.Telling.{tale_step, told}
use Rattle.step_laws.specs.Seats.{IsSeated}
use Rattle.tale_world.proofs.Lawfully.{sound_so}
use Rattle.tale_world.specs.Decided.{Decided}
use Rattle.core_tables.specs.Tables.{Tabled}
use Rattle.core_stands.specs.Grounds.{Ground, on}
use Rattle.core_stands.specs.Stands.{Rests, Stands}
use Rattle.core_laws.proofs.OfEntry.Lists.{seated_of}
use Rattle.core_laws.proofs.OfEntry.Uneventful.{Counting, Testing}
use Rattle.core_laws.specs.entry.Cores.{with_entry}
use Rattle.core_laws.specs.entry.Entries.{behind}
use Rattle.core_laws.specs.entry.Kinds.{IsUneventful}
use Rattle.core_laws.specs.entry.Tells.{Fits, IsOf, ground}
use Rattle.router_laws.proofs.OfClients.Entering.{entered_goes_on, heard_always}
use Rattle.router_laws.specs.clients.Behind.{IsDueBehind, IsEntered}
use Rattle.router_laws.specs.clients.Plans.{IsDecided, nobody, over_by}
use Rattle.router_laws.proofs.OfDecisions.Fates.{false_true, none_told, none_some}
use Rattle.router_laws.proofs.OfDecisions.Gathering.{over_then, silent_at, uneventful}
use Rattle.router_laws.proofs.OfDecisions.Keeping.{recorded_then}
use Rattle.router_laws.proofs.OfDecisions.Listing.{is_tale_of, open_with}
use Rattle.router_laws.proofs.OfDecisions.Recording.{one_more}
use Rattle.router_laws.proofs.OfDecisions.Judging.{judges_none}
use Rattle.router_laws.proofs.OfDecisions.Router.{router_goes_on, stood_before}
use Rattle.router_laws.proofs.OfDecisions.Speaking.{ours_of_none}
use Rattle.router_laws.proofs.OfDecisions.Tallying.{counts_then}
use Rattle.router_laws.proofs.OfDecisions.Working.{none_given}
use Rattle.router_laws.specs.decisions.Deeds.{IsAlone, counts_with, decided_with, no_deeds}
use Rattle.router_laws.specs.decisions.Plans.{EndsNone, PlansSo}
use Rattle.core_promises.specs.Administers.{Administered}
use Rattle.router_laws.specs.decisions.Routers.{AreOpenJust, GoesSo, IsBefore, IsRouter, WaitsThen}
use Rattle.router_laws.proofs.OfQuiet.Making.{IsMade, IsOfNoLink, is_made, none_written, open_alike, of_no_link, rests_then, step_is}
use Rattle.router_laws.specs.quiet.Quiet.{is_quiet}
use Rattle.router_laws.specs.waits.Drained.{IsDrainedAt}

-- What is known of the tables' standing.
pub record Knows (service : Serving) : Type 0 where
  pub counting : Counting service
  pub testing : Testing service
  pub runs : (g : Ground) (t : Tabled) (l : LinkId) → Stands service g t → is_to_server g.tale l ≡ true
      → Stands service (on g (told g.setup g.plan g.tale (entry.Exec l))) t
  pub drops : (g : Ground) (t : Tabled) (l : LinkId) → Stands service g t → Stands service (on g (told g.setup g.plan g.tale (entry.Drop l))) t

none_end : EndsNone no_deeds
none_end = record { given = λ c. refl; ends = λ c. refl }

module _ {texts : Texts} {admin : Administered} (service : Service) (knows : Knows service.setup) (log : Log) (e : Entry) (t : Tabled) (roomy : ClientNo → Bool)
    (router : IsRouter service texts admin log t roomy) (may : MayFollow log e) (quiet : is_quiet e ≡ true)
    (waits : WaitsThen service log e router.core.decided) where
  abbrev d : Decided
  d = router.core.decided

  abbrev new : Decided
  new = decided_with no_deeds router.counts log e d

  module _ (setup : Setup) (codes : Codes) (plan : Plan) (of : IsOf new (length (with_entry log e)) plan)
      (fits : Fits new.keys setup codes plan service.default_schema (tale_of setup plan (with_entry log e))) where
    abbrev g : Ground
    g = ground setup codes plan d log

    stood : IsBefore service texts admin log e t roomy router no_deeds setup codes plan
    stood = stood_before service log e t roomy no_deeds setup codes plan router may of fits (heard_always setup plan log e)

    so : PlansSo g log e no_deeds
    so = stood.so (none_told d.keys no_deeds (λ c. refl)) (none_given g (λ c. None) (λ c. refl))

    calm : IsUneventful g
    calm = uneventful g log e no_deeds so none_end

    aside : IsOfNoLink setup no_deeds g.tale e
    aside = of_no_link setup no_deeds g.tale e quiet

    made : IsMade service.setup g t e
    made =
        is_made service.setup g t calm stood.rests.stands stood.rests.rested e quiet (sound_so setup plan log stood.safe.tested).outside
        (λ l server. knows.runs g t l stood.rests.stands server) (λ l. knows.drops g t l stood.rests.stands)

    steps : tale_step setup plan g.tale e ≡ counted made.made
    steps = step_is service.setup knows.counting knows.testing g t roomy e stood.rests calm made aside.of_none aside.aside

    over_is : (c : ClientNo) → over_by new c ≡ (g.over c || nobody c)
    over_is c = over_then d router.counts log e no_deeds setup codes plan router.recorded of c ∙ ap (λ (b : Bool). g.over c || b) (calm.endless c)

    or_nobody : (a : Bool) → (a || false) ≡ a
    or_nobody true = refl
    or_nobody false = refl

    over_same : over_by new ≡ g.over
    over_same = λ i. λ c. (over_is c ∙ or_nobody (g.over c)) i

    decided : IsDecided g nobody (over_by new)
    decided = record {
      still = calm.still;
      ends = calm.endless;
      overs = over_is;
      wordless = λ c going.
          ap (λ (m : ℕ). word_at plan m c) (ap suc (is_tale_of setup plan log).moment ∙ sym (one_more log e))
          ∙ silent_at new (counts_with no_deeds router.counts log e) (with_entry log e) plan
          (recorded_then d router.counts log e no_deeds router.recorded (λ c. All-nil IsAlone)) of c going;
    }

    due : IsDueBehind g log e nobody (over_by new) t
    due = record {
      writes = λ client seated. inl (none_written client.link e aside.unwritten);
      unread = λ client seated over. aside.unread client.link;
      says = λ was client seated on ends. false_true false refl ends;
      there = λ client seated ends. false_true false refl ends;
      comes = λ client seated come. absurd (aside.uncome client come);
    }

    behind_rests : Rests service.setup (behind g e (over_by new)) t roomy
    behind_rests =
        subst (λ (over : ClientNo → Bool). Rests service.setup (behind g e over) t roomy) (sym over_same)
        (rests_then service.setup knows.counting knows.testing g t roomy e stood.rests calm made aside.of_none aside.aside)

    entered : IsEntered service.setup g log e nobody (over_by new) t t roomy roomy
    entered = record {
      rests = λ rests. behind_rests;
      due = λ rests. due;
      off = λ rests. aside.off;
    }

    taken_by_none : (client : Client) → IsSeated (tale_step setup plan g.tale e) client → client.taken ≡ router.counts.taken client.number + 0
    taken_by_none client seated =
        let before : IsSeated (record g.tale { clients = made.made.clients }) client = subst (λ (tale : Tale). IsSeated tale client) steps seated in
        let there : IsSeated g.tale client =
        subst (λ (xs : List Client). IsSeated (record g.tale { clients = xs }) client) made.clients before in
        let same : client.taken ≡ router.counts.taken client.number =
        seated_of (λ (x : Client). x.taken ≡ router.counts.taken x.number) g.tale client there stood.counts.taken in
        omega (arith, same)

    goes_so : GoesSo service.setup setup codes plan log e d router.counts no_deeds t t roomy roomy
    goes_so = record {
      goes = entered_goes_on service.setup setup codes plan log e d new t t roomy roomy nobody decided entered;
      counts = counts_then setup plan d router.counts log e no_deeds router.recorded stood.counts may taken_by_none aside.begins;
    }

  open_by : (l : LinkId) (b : Bool) → (if b then open_step (is_open l log) e else is_open l log) ≡ is_open l log
  open_by l true = open_alike e quiet (is_open l log)
  open_by l false = refl

  open_same : AreOpenJust (with_entry log e) t
  open_same l = open_with log e l ∙ open_by l (is_link l (link_of e)) ∙ router.open_just l

  pub quiet_router : IsRouter service texts admin (with_entry log e) t roomy
  quiet_router = router_goes_on service log e no_deeds t t roomy roomy router may (ours_of_none (rules_in service) texts) waits
      (judges_none service log e d router.counts no_deeds admin (λ c. refl) (λ c. refl) (λ c. refl)
      (λ setup codes plan of fits c end is. none_some None end refl is)) goes_so open_same

-- As many marks as a log may have.

mark_quiet : (e : Entry) → IsMark e → is_quiet e ≡ true
mark_quiet (entry.Exec link) mark = refl
mark_quiet (entry.Drop link) mark = refl
mark_quiet _ mark = absurd mark

mark_may : (log : Log) (e : Entry) → IsMark e → length log + 1 < 281474976710656 → MayFollow log e
mark_may log (entry.Exec link) mark few = record { bounded = few; fits = tt }
mark_may log (entry.Drop link) mark few = record { bounded = few; fits = tt }
mark_may log _ mark few = absurd mark

mark_drained : (t : Tabled) (log : Log) (e : Entry) → IsMark e → IsDrainedAt t log e
mark_drained t log (entry.Exec link) mark = tt
mark_drained t log (entry.Drop link) mark = tt
mark_drained t log _ mark = absurd mark

pub with_marks : (service : Service) (texts : Texts) (admin : Administered) (t : Tabled) (roomy : ClientNo → Bool)
    → ((log : Log) (e : Entry) → IsRouter service texts admin log t roomy → MayFollow log e → is_quiet e ≡ true → IsDrainedAt t log e
    → IsRouter service texts admin (with_entry log e) t roomy)
    → (log marks : Log) → IsRouter service texts admin log t roomy → AreMarks marks → length (log ++ marks) < 281474976710656
    → IsRouter service texts admin (log ++ marks) t roomy
with_marks service texts admin t roomy quiets log [] router are few =
    subst (λ (all : Log). IsRouter service texts admin all t roomy) (sym (append-nil log)) router
with_marks service texts admin t roomy quiets log (e ∷ marks) router are few =
    let size : length (log ++ e ∷ marks) ≡ length log + length (e ∷ marks) = length-append log (e ∷ marks) in
    let next : IsRouter service texts admin (with_entry log e) t roomy =
    quiets log e router (mark_may log e are.0 (omega (arith, size, few))) (mark_quiet e are.0) (mark_drained t log e are.0) in
    let same : (log ++ e ∷ []) ++ marks ≡ log ++ e ∷ marks = append_assoc log (e ∷ []) marks in
    subst (λ (all : Log). IsRouter service texts admin all t roomy) same
    (with_marks service texts admin t roomy quiets (with_entry log e) marks next are.1 (subst (λ (all : Log). length all < 281474976710656) (sym same) few))
