-- A router goes on with an entry that tells nothing, at which statements are given up, and clients are called.
use Rattle.std.specs.Prelude.{◌≡◌, ◌⊎◌, ◌+◌, ◌<◌, ◌≤◌, ◌||◌, ◌&&◌, not, ℕ, suc, Bool, true, false, All, cond, is_some, nat_le, if◌then◌else◌, length, List, [], ◌∷◌, Option, Some, None}
use Rattle.std.specs.List.{flat_map}
use Rattle.std.specs.Option.{option_map, option_map_or}
use Rattle.std.proofs.Common.{refl, sym, ap, ◌∙◌, subst, arith, inl, inr}
use Rattle.std.proofs.lemmas.Bool.{and_right, leb-false, leb-true, true≢false}
use Rattle.std.proofs.lemmas.List.Elements.{All-weaker}
use Rattle.mx_base.specs.declared.names.LinkId.{LinkId}
use Rattle.mx_wire.specs.Log.{Log, is_link, is_open, link_of, open_step, wrote_bytes}
use Rattle.mx_wire.specs.Moments.{AllLawful}
use Rattle.mx_wire.specs.Tells.{MayFollow}
use Rattle.mx_wire.specs.declared.entry.Entry.{Entry}
use Rattle.client_session.specs.Setups.{Setup as Serving}
use Rattle.private_model.specs.Names.{ClientNo}
use Rattle.private_model.specs.View.{Setup}
use Rattle.link_laws.specs.Stands.{Codes}
use Rattle.log_story.specs.Headline.{tale_of}
use Rattle.log_story.specs.Owed.{name_of}
use Rattle.log_story.specs.Plan.{Behind, Plan, WordPlace, is_before, is_by_now, word_at}
use Rattle.log_story.specs.Said.{ClosesFirst}
use Rattle.log_story.specs.Tale as tales
use Rattle.log_story.specs.Tale.{Tale, counted, is_to_server}
use Rattle.log_story.specs.Telling.{tale_step, told}
use Rattle.step_laws.specs.Freed.{Ascend, NoneDone}
use Rattle.step_laws.specs.Seats.{IsSeated, seats}
use Rattle.step_laws.specs.Steps.{ends_now}
use Rattle.step_laws.specs.Taken.{GivesUpNone, IsPassed, is_called as is_called_by}
use Rattle.tale_world.specs.Decided.{Decided}
use Rattle.tale_world.specs.Tested.{Passes}
use Rattle.core_tables.specs.Parting.{given_up_in}
use Rattle.core_tables.specs.Tables.{IsSame, Tabled}
use Rattle.core_stands.specs.Grounds.{Ground, known_on, on, view_on}
use Rattle.core_stands.specs.Stands.{Rests, Stands}
use Rattle.core_laws.specs.parting.Partings.{AreCounted, AreGivenUp, IsCounted as IsCountedAt}
use Rattle.core_laws.proofs.OfEntry.Going.{tale_more}
use Rattle.core_laws.proofs.OfEntry.Lists.{seated_of}
use Rattle.core_laws.proofs.OfEntry.Safely.{log_goes_on}
use Rattle.core_laws.proofs.OfEntry.Uneventful.{Testing}
use Rattle.core_laws.specs.entry.Cores.{GoesOn, IsSafely, with_entry}
use Rattle.core_laws.specs.entry.Dues.{AreSilent, AreWrittenTo, EndsSaying, IsSaidLast, written_by}
use Rattle.core_laws.specs.entry.Entries.{behind}
use Rattle.core_laws.specs.entry.Speaks.{IsSilentOrSpoken}
use Rattle.core_laws.specs.entry.Tells.{AreWhoTheySay, Fits, IsOf, ground}
use Rattle.core_laws.proofs.OfClients.Keeping.{keeps_all_freed, keeps_along, keeps_itself, keeps_same, part_keeps, turns_keep}
use Rattle.core_laws.specs.clients.Chosen.{PlanHas}
use Rattle.core_laws.specs.clients.Keeps.{KeepsRows}
use Rattle.core_laws.specs.clients.Turns.{Rests as Resting, count_by}
use Rattle.core_promises.specs.Causes.{IsCause}
use Rattle.router_laws.proofs.OfClients.Continuing.{all_were}
use Rattle.router_laws.proofs.OfClients.Duing.{moment_more, written_with}
use Rattle.router_laws.proofs.OfClients.Entering.{heard_always, off_gets, off_spoken}
use Rattle.router_laws.proofs.OfClients.LetIn.{let_in_then}
use Rattle.router_laws.specs.clients.Behind.{IsDueBehind, IsOffServers}
use Rattle.router_laws.specs.clients.Continues.{HasCome, IsContinued, WasThere, is_read_on}
use Rattle.router_laws.specs.clients.Plans.{over_by}
use Rattle.router_laws.proofs.OfDecisions.JudgedOn.{TurnsJudge, judged_on}
use Rattle.router_laws.proofs.OfDecisions.KeptOn.{held_before}
use Rattle.router_laws.specs.decisions.Held.{AreHeldSince, keys_since}
use Rattle.router_laws.proofs.OfDecisions.Gathering.{all_kept, all_silent, over_then}
use Rattle.router_laws.proofs.OfDecisions.Keeping.{recorded_then}
use Rattle.router_laws.proofs.OfDecisions.Listing.{open_with}
use Rattle.router_laws.proofs.OfDecisions.Router.{router_goes_on, stood_before}
use Rattle.core_promises.specs.Judges.{Rulebook}
use Rattle.core_promises.specs.Ruled.{book_of, ruling_of}
use Rattle.router_promises.specs.Takings.{Taking, takings_at}
use Rattle.core_service.specs.Serves.{rules_in}
use Rattle.core_service.specs.declared.service.Service.{Service}
use Rattle.core_texts.specs.declared.texts.Texts.{Texts}
use Rattle.router_laws.proofs.OfDecisions.Speaking.{ours_alone, ours_told}
use Rattle.router_laws.proofs.OfWakes.Saying.{ours_of_calls}
use Rattle.router_laws.specs.decisions.Speaks.{AreOurs, IsGivenOurs}
use Rattle.router_laws.proofs.OfDecisions.Tallying.{counts_then}
use Rattle.router_laws.proofs.OfDecisions.Working.{all_sent, none_replied, ungiven}
use Rattle.router_laws.proofs.OfDecisions.Stating.{IsNumbered, numbered_then}
use Rattle.router_laws.proofs.OfWakes.States.{called_all, early_state, late_state, others_state, state_of}
use Rattle.router_laws.specs.decisions.Judges.{IsJudgedThen, JudgedFrom, JudgesThen, judging_by}
use Rattle.router_laws.specs.decisions.Counting.{BeginsSo}
use Rattle.router_laws.specs.decisions.Deeds as deeds
use Rattle.router_laws.specs.decisions.Deeds.{AreAlone, Deeds, counts_with, decided_with, ends_in, known_with, taken_by, word_of, Word}
use Rattle.router_laws.specs.decisions.Goings.{end_of}
use Rattle.router_laws.specs.decisions.Plans.{HasDeeds, PlansSo}
use Rattle.core_promises.specs.Administers.{Administered}
use Rattle.router_laws.specs.decisions.Routers.{AreOpenJust, GoesSo, IsBefore, IsRouter, WaitsThen}
use Rattle.router_laws.specs.decisions.Rulings.{AreRuledAll}
use Rattle.router_laws.proofs.OfReading.Judged.{one_seated}
use Rattle.router_laws.proofs.OfWakes.Judged.{judged_of}
use Rattle.router_laws.proofs.OfWakes.Called.{Frees, IsCalling, IsCounted, counts, keeps_seats, rests_behind}
use Rattle.router_laws.specs.reading.Hearing.{TellsFor}
use Rattle.router_laws.proofs.OfWakes.Aligned.{called_of}
use Rattle.router_laws.proofs.OfWakes.Callers.{IsCaller}
use Rattle.router_laws.proofs.OfWakes.Fated.{all_found, ends_same, none_found, parted_by, said_behind}
use Rattle.router_laws.proofs.OfWakes.Given.{all_given, all_unsent, given_rests, some_given}
use Rattle.router_laws.proofs.OfWakes.Going.{Laws}
use Rattle.router_laws.specs.wakes.Calling.{AllGoOn, Caller, CallsSo, GivesUpAll, IsThere, IsUnsent, is_called, is_given}
use Rattle.router_laws.specs.wakes.Deciding.{IsCallerOurs, calls_deeds, found_in, payload_in}
use Rattle.core_laws.specs.clients.Going.{GivenUp}
use Rattle.core_texts.specs.Texts.{key_at}
use Rattle.router_laws.proofs.OfDecisions.Speaking.{known_keys}
use Rattle.router_laws.specs.decisions.Partings.{IsPartCause}

-- The entry tells nothing, and is of no link.
pub record IsOfNoLink (e : Entry) : Type 0 where
  pub told_same : (setup : Setup) (plan : Plan) (tale : Tale) → told setup plan tale e ≡ tale
  pub unread : (l : LinkId) → is_read_on e l ≡ false
  pub unwritten : wrote_bytes e ≡ []
  pub uncome : (tale : Tale) (client : tales.Client) → HasCome tale e client → ⊥
  pub off : (tale : Tale) → IsOffServers tale e
  pub passes : (setup : Setup) (plan : Plan) (tale : Tale) → Passes setup plan tale e
  pub closes : (setup : Setup) (tale : Tale) → ClosesFirst setup tale e
  pub begins : (setup : Setup) (tale : Tale) (made : Deeds) → BeginsSo setup tale e made
  pub opens : (was : Bool) → open_step was e ≡ was

-- What is known of the tables' standing.
pub record Knows (service : Serving) : Type 0 where
  pub laws : Laws
  pub frees : Frees
  pub testing : Testing service
  pub counting : (g : Ground) (t : Tabled) (given : ClientNo → Option (List ℕ)) → Stands service g t → AreGivenUp given (λ l. false) t
      → AreCounted g given → Stands service (on g (counted g.tale)) (given_up_in given t)
  pub aside : (g : Ground) (t : Tabled) (given : ClientNo → Option (List ℕ)) → Stands service g t
      → ((c : ClientNo) (payload : List ℕ) → given c ≡ Some payload → IsUnsent c t) → AreGivenUp given (λ l. false) t
  pub rises : (setup : Setup) (plan : Plan) (log : Log) → AllLawful MayFollow log → Ascend (λ l. l.0) (tale_of setup plan log).links

-- By one plan: who is called goes on, nobody else takes up anything, and who has room is called or still has.
pub record AreCalled (g : Ground) (e : Entry) (called roomy room : ClientNo → Bool) : Type 0 where
  pub calls : All (λ (x : tales.Client). g.over x.number ≡ false → called x.number ≡ true → is_called_by g.plan (suc g.tale.moment) (view_on g) e x ≡ true)
      g.tale.clients
  pub passes : All (λ (x : tales.Client). called x.number ≡ false → g.over x.number ≡ false → IsPassed g.setup g.plan (view_on g) e (counted g.tale) x)
      g.tale.clients
  pub rooms : All (λ (x : tales.Client). called x.number ≡ false → g.over x.number ≡ false → room x.number ≡ false → roomy x.number ≡ false) g.tale.clients

pub before_by : (moment : ℕ) (at : Option ℕ) → is_before (suc moment) at ≡ is_by_now moment at
before_by moment None = refl
before_by moment (Some n) = grind arith

none_written : (l : LinkId) (e : Entry) → wrote_bytes e ≡ [] → written_by l e ≡ []
none_written l e none = by (is_link l (link_of e)) where
  by : (b : Bool) → flat_map wrote_bytes (cond b (e ∷ []) []) ≡ []
  by true = ap (λ (bytes : List ℕ). flat_map (λ (x : List ℕ). x) (bytes ∷ [])) none
  by false = refl

-- No client and no link comes or goes.

all_keep : (service : Serving) (default : List ℕ) (callers : List Caller) (t now : Tabled) → AllGoOn callers service default t now → KeepsRows t now
all_keep service default [] t now same = keeps_same t t now (keeps_itself t) same
all_keep service default (k ∷ ks) t now goes =
    keeps_along t goes.0 now
    (keeps_along t goes.1.turned goes.0 (turns_keep service default k.client k.choices k.halt t goes.1.turned goes.1.turns)
    (part_keeps service default k.client k.parting goes.1.turned goes.0 goes.1.parts))
    (all_keep service default ks goes.0 now goes.2)

calls_keep : (service : Serving) (default : List ℕ) (callers : List Caller) (links : List LinkId) (t now : Tabled) → CallsSo service default callers links t now
    → KeepsRows t now
calls_keep service default callers links t now so =
    keeps_along t so.turned now (all_keep service default callers t so.turned so.going)
    (keeps_same so.turned _ now (keeps_all_freed links so.turned) so.freed)

some_mapped : {A B : Type 0} (f : A → B) (o : Option A) → is_some (option_map f o) ≡ is_some o
some_mapped f None = refl
some_mapped f (Some a) = refl

given_keep : (given : ClientNo → Option (List ℕ)) (t late : Tabled) → IsSame late (given_up_in given t) → KeepsRows t late
given_keep given t late same = keeps_same t (given_up_in given t) late (record {
  clients = λ c. some_mapped _ (t.clients c);
  links = λ l. refl;
  numbers = λ l. refl;
}) same

module _ {texts : Texts} {admin : Administered} (service : Service) (knows : Knows service.setup) (log : Log) (e : Entry) (is_entry : IsOfNoLink e) (t mid now : Tabled)
    (roomy room : ClientNo → Bool) (given : List GivenUp) (callers : List Caller) (links : List LinkId) (router : IsRouter service texts admin log t roomy)
    (may : MayFollow log e) (gives : GivesUpAll given t mid) (theirs : (c : ClientNo) → is_given given c ≡ true → is_called callers c ≡ true)
    (so_calls : CallsSo service.setup service.default_schema callers links mid now) (given_ours : All IsGivenOurs given)
    (ours : All (IsCallerOurs (rules_in service) texts) callers) (waits : WaitsThen service log e router.core.decided) (judges : TurnsJudge)
    (caused : (setup : Setup) (codes : Codes) (plan : Plan) → IsOf router.core.decided (length log) plan
    → Fits router.core.decided.keys setup codes plan service.default_schema (tale_of setup plan log) → (c : ClientNo) (payload : List ℕ)
    → payload_in given c ≡ Some payload → IsCause service.wait_ms setup plan log e (record { client = c; ordinal = router.counts.taken c }) payload)
    (parted : (setup : Setup) (codes : Codes) (plan : Plan) → IsOf router.core.decided (length log) plan
    → Fits router.core.decided.keys setup codes plan service.default_schema (tale_of setup plan log) → (c : ClientNo) (end : Option Word)
    → (calls_deeds given callers).ends c ≡ Some end → IsPartCause service.buffer_budget setup plan log e c end)
    (is : Administered) (settled : admin.rules ≡ rules_in service)
    (ruled : AreRuledAll (ruling_of service texts.since (key_at texts) admin is) callers service.setup service.default_schema mid so_calls.turned so_calls.going)
    (since : AreHeldSince texts service.default_schema router.core.decided log)
    (tells : All (λ (k : Caller). TellsFor k.parting service.setup k.client) callers)
    (called_so : (g : Ground) → Rests service.setup g t roomy → PlansSo g log e (calls_deeds given callers) → AreCalled g e (is_called callers) roomy room) where
  abbrev made : Deeds
  made = calls_deeds given callers

  abbrev d : Decided
  d = router.core.decided

  abbrev new : Decided
  new = decided_with made router.counts log e d

  abbrev called : ClientNo → Bool
  called = is_called callers

  abbrev given_of : ClientNo → Option (List ℕ)
  given_of = payload_in given

  all_ours : AreOurs (rules_in service) texts made
  all_ours = ours_of_calls (rules_in service) texts given callers given_ours ours

  all_alone : AreAlone made
  all_alone = ours_alone (rules_in service) texts made all_ours

  -- who isn't called isn't given up
  none_given : (c : ClientNo) → called c ≡ false → is_some (given_of c) ≡ false
  none_given c other = some_given given c ∙ by (is_given given c) refl where
    by : (b : Bool) → is_given given c ≡ b → is_given given c ≡ false
    by false is = is
    by true is = absurd (true≢false (sym (theirs c is) ∙ other))

  rows_kept : KeepsRows t now
  rows_kept =
      keeps_along t mid now (given_keep given_of t mid (all_given given t mid gives)) (calls_keep service.setup service.default_schema callers links mid now so_calls)

  module _ (setup : Setup) (codes : Codes) (plan : Plan) (of : IsOf new (length (with_entry log e)) plan)
      (fits : Fits new.keys setup codes plan service.default_schema (tale_of setup plan (with_entry log e))) where
    abbrev g : Ground
    g = ground setup codes plan d log

    abbrev heard : Tale
    heard = counted g.tale

    abbrev over : ClientNo → Bool
    over = over_by new

    abbrev instant : ℕ
    instant = suc g.tale.moment

    stood : IsBefore service texts admin log e t roomy router made setup codes plan
    stood = stood_before service log e t roomy made setup codes plan router may of fits (heard_always setup plan log e)

    given_up : AreGivenUp given_of (λ (l : LinkId). false) t
    given_up = knows.aside g t given_of stood.rests.stands (λ c payload is. all_unsent given t mid gives c (ap is_some is))

    so : PlansSo g log e made
    so = stood.so (ours_told d.keys (rules_in service) texts made router.known all_ours)
        (ungiven service.setup g t given_of (λ (l : LinkId). false) stood.rests.stands given_up)

    is_called_so : AreCalled g e called roomy room
    is_called_so = called_so g stood.rests so

    -- What was given up is counted.

    counted_so : AreCounted g given_of
    counted_so = All-weaker (HasDeeds g made) (λ (x : tales.Client). IsCountedAt g (given_of x.number) x) (λ x has. has.counted) g.tale.clients so.each

    counts_at_once : Stands service.setup (on g heard) (given_up_in given_of t)
    counts_at_once = knows.counting g t given_of stood.rests.stands given_up counted_so

    stands_mid : Stands service.setup (on g heard) mid
    stands_mid = knows.laws.same service.setup (on g heard) (given_up_in given_of t) mid counts_at_once (all_given given t mid gives)

    rested : NoneDone setup plan heard
    rested = given_rests service.setup knows.testing g t mid given gives stood.rests.stands counts_at_once stood.rests.rested

    -- By the plan.

    has_deeds : (x : tales.Client) → IsSeated g.tale x → HasDeeds g made x
    has_deeds x seated = seated_of (HasDeeds g made) g.tale x seated so.each

    who : AreWhoTheySay setup plan service.default_schema (tale_step setup plan g.tale e).clients
    who = subst (λ (tale : Tale). AreWhoTheySay setup plan service.default_schema tale.clients) (tale_more setup plan log e) fits.who

    abbrev IsFound : Caller → Type 0
    IsFound k = (found_in callers k.client ≡ Some k) × TellsFor k.parting service.setup k.client

    caller_so : (k : Caller) → IsFound k → (x : tales.Client) → IsSeated g.tale x → x.number ≡ k.client → g.over x.number ≡ false
        → IsCaller service.setup service.default_schema g k x
    caller_so k is x seated number going =
        let has : HasDeeds g made x = has_deeds x seated in
        let its : found_in callers x.number ≡ Some k = ap (found_in callers) number ∙ is.0 in
        record {
          number = number;
          let_in = let_in_then g service.default_schema e x stood.rests.stands.clients.counted who
              (subst (λ (tale : Tale). IsSeated tale x) (sym (is_entry.told_same setup plan g.tale)) seated);
          going = going;
          unrouted = so.nowhere x.number;
          chosen = subst (λ (o : Option Caller). PlanHas (option_map_or (λ (j : Caller). j.choices) o []) (option_map_or (λ (j : Caller). j.halt) o Resting) setup.keys plan instant
              (name_of x (suc x.taken))) its (has.chosen going);
          ends = has.ends
              ∙ (λ i. not (going i) && is_some (deeds.ends_by (option_map_or (λ (j : Caller). j.halt) (its i) Resting)
              (option_map_or (λ (j : Caller). end_of j.parting) (its i) None)))
              ∙ ends_same k.halt k.parting;
          parted = λ tale by going_on stays.
              parted_by service.setup (record g { tale = tale; over = by }) x.number instant going_on (λ other. refl) k.halt stays k.parting
              (subst (λ (c : ClientNo). TellsFor k.parting service.setup c) (sym number) is.1)
              (has.word going
              ∙ ap (λ (o : Option Caller). deeds.said_at instant (deeds.ends_by (option_map_or (λ (j : Caller). j.halt) o Resting)
              (option_map_or (λ (j : Caller). end_of j.parting) o None))) its);
        }

    endless : (c : ClientNo) → called c ≡ false → ends_now plan instant c ≡ false
    endless c other = by (nat_le c.0 (known_with log e)) refl where
      none_ends : is_some (ends_in made c) ≡ false
      none_ends =
          ap (λ (o : Option Caller). is_some (deeds.ends_by (option_map_or (λ (j : Caller). j.halt) o Resting)
          (option_map_or (λ (j : Caller). end_of j.parting) o None))) (none_found callers c other)

      by : (b : Bool) → nat_le c.0 (known_with log e) ≡ b → ends_now plan instant c ≡ false
      by true within =
          so.ends c (leb-true c.0 (known_with log e) within)
          ∙ and_right (not (g.over c)) (is_some (ends_in made c)) none_ends
      by false beyond = so.strangers c (leb-false c.0 (known_with log e) beyond)

    -- who ended isn't called
    gone_passed : (x : tales.Client) → g.over x.number ≡ true → IsPassed setup plan (view_on g) e heard x
    gone_passed x gone =
        inl (and_right _ (not (is_before instant (plan.ends x.number)))
        (ap not (before_by g.tale.moment (plan.ends x.number) ∙ sym (stood.rests.over x.number) ∙ gone)))

    passed_by : (x : tales.Client) → (g.over x.number ≡ false → IsPassed setup plan (view_on g) e heard x) → (b : Bool) → g.over x.number ≡ b
        → IsPassed setup plan (view_on g) e heard x
    passed_by x goes false going = goes going
    passed_by x goes true gone = gone_passed x gone

    calling : IsCalling service.setup service.default_schema g e callers over roomy room
    calling = record {
      told_same = is_entry.told_same setup plan g.tale;
      single = λ whose m route its routed. so.single m route routed;
      classes = fits.classes;
      plans = All-weaker IsFound
          (λ (k : Caller). (x : tales.Client) → IsSeated g.tale x → x.number ≡ k.client → g.over x.number ≡ false → IsCaller service.setup service.default_schema g k x)
          caller_so callers (λ i k within. (all_found callers so_calls.in_order i k within, tells i k within));
      keeps = All-weaker (HasDeeds g made)
          (λ (x : tales.Client). called x.number ≡ false → GivesUpNone plan instant x) (λ x has other. has.keeps (none_given x.number other)) g.tale.clients so.each;
      passes = All-weaker
          (λ (x : tales.Client). called x.number ≡ false → g.over x.number ≡ false → IsPassed setup plan (view_on g) e heard x)
          (λ (x : tales.Client). called x.number ≡ false → IsPassed setup plan (view_on g) e heard x)
          (λ x passes other. passed_by x (passes other) (g.over x.number) refl) g.tale.clients is_called_so.passes;
      calls = is_called_so.calls;
      endless = endless;
      overs = over_then d router.counts log e made setup codes plan router.recorded of;
      rooms = is_called_so.rooms;
      rising = knows.rises setup plan log router.lawful;
    }

    abbrev after : Ground
    after = behind g e over

    rests_now : Rests service.setup after now room
    rests_now = rests_behind knows.laws knows.frees service.setup service.default_schema g t mid now roomy room over e callers links stood.rests calling stands_mid rested so_calls

    -- What is due.

    its_call : (c : ClientNo) → ends_now plan instant c ≡ true → (b : Bool) → called c ≡ b → called c ≡ true
    its_call c ends true its = its
    its_call c ends false other = absurd (true≢false (sym ends ∙ endless c other))

    said_last : (was client : tales.Client) → IsSeated g.tale was → IsContinued plan g.tale e was client → g.over was.number ≡ false
        → EndsSaying (known_on g) (known_on after) was client
    said_last was client seated on going word is =
        let has : HasDeeds g made was = has_deeds was seated in
        let said : word_of made instant was.number ≡ Some word =
        sym (has.word going) ∙ sym (λ i. word_at plan (moment_more setup plan g.tale e i) (on.number i)) ∙ is in
        let place : word.place ≡ Behind = said_behind instant (found_in callers was.number) word said in
        subst (λ (p : WordPlace). IsSaidLast p plan was) (sym place) tt

    due : IsDueBehind g log e (ends_now plan instant) over now
    due = record {
      writes = λ client seated. inl (none_written client.link e is_entry.unwritten);
      unread = λ client seated gone. is_entry.unread client.link;
      says = λ was client seated on ends going. said_last was client seated on going;
      there = λ client seated ends.
          (calls_keep service.setup service.default_schema callers links mid now so_calls).clients client.number
          ∙ called_of (λ (c : ClientNo). is_some (mid.clients c) ≡ true) client.number callers
          (All-weaker (λ (k : Caller). IsThere mid k.client) (λ (k : Caller). is_some (mid.clients k.client) ≡ true) (λ k there. ap is_some there.there) callers
          so_calls.there) (its_call client.number ends (called client.number) refl);
      comes = λ client seated come. absurd (is_entry.uncome g.tale client come);
    }

    -- It goes on.

    abbrev with : Ground
    with = ground setup codes plan new (with_entry log e)

    as_behind : with ≡ after
    as_behind = λ i. record {
      setup = setup;
      codes = codes;
      plan = plan;
      tale = tale_more setup plan log e i;
      over = over;
      fresh = λ c. false;
    }

    safely : IsSafely setup plan log e now
    safely = record {
      passes = is_entry.passes setup plan g.tale;
      gets = off_gets g.tale e (is_entry.off g.tale);
      closes = is_entry.closes setup g.tale;
      spoken = subst (λ (tale : Tale). (l : LinkId) → is_to_server tale l ≡ true → IsSilentOrSpoken setup plan g.tale e tale now l)
          (sym (tale_more setup plan log e)) (off_spoken setup plan g.tale e now (is_entry.off g.tale));
    }

    silent : AreSilent with
    silent =
        all_silent new (counts_with made router.counts log e) (with_entry log e) setup codes plan
        (recorded_then d router.counts log e made router.recorded all_alone) of

    goes_on : GoesOn service.setup setup codes plan log e d new t now roomy room
    goes_on = record {
      heard = heard_always setup plan log e;
      rests = λ rests. subst (λ (x : Ground). Rests service.setup x now room) (sym as_behind) rests_now;
      written = λ rests behind_it to.
          subst (λ (x : Ground). AreWrittenTo x (with_entry log e)) (sym as_behind)
          (written_with service.setup g t now roomy log e (ends_now plan instant) over stood.rests rests_now.stands
          (all_kept g log e made so (none_replied service.setup g t given_of (λ (l : LinkId). false) stood.rests.stands given_up))
          (over_then d router.counts log e made setup codes plan router.recorded of) due to);
      safe = λ rests behind_it to safe.
          log_goes_on service.setup setup codes plan new log e now safe safely behind_it.stands silent to;
    }

    -- What is counted.

    abbrev taken_for : Option Caller → ClientNo → ℕ
    taken_for o c = router.counts.taken c + taken_by (option_map_or (λ (j : Caller). j.choices) o []) (option_map_or (λ (j : Caller). j.halt) o Resting)

    taken_before : (x : tales.Client) → IsSeated g.tale x → x.taken ≡ router.counts.taken x.number
    taken_before x seated = seated_of (λ (y : tales.Client). y.taken ≡ router.counts.taken y.number) g.tale x seated stood.counts.taken

    taken_called : (x : tales.Client) → IsCounted g callers x → x.taken ≡ taken_for (found_in callers x.number) x.number
    taken_called x at =
        at.count
        ∙ ap (λ (n : ℕ). n + count_by at.caller.choices at.caller.halt) (taken_before at.first at.seated ∙ ap router.counts.taken at.number)
        ∙ ap (λ (o : Option Caller). taken_for o x.number) (sym at.found)

    taken_other : (x : tales.Client) → IsSeated g.tale x → called x.number ≡ false → x.taken ≡ taken_for (found_in callers x.number) x.number
    taken_other x seated other =
        let same : x.taken ≡ router.counts.taken x.number = taken_before x seated in
        let none : x.taken ≡ taken_for None x.number = omega (arith, same) in
        none ∙ ap (λ (o : Option Caller). taken_for o x.number) (sym (none_found callers x.number other))

    takes_by : (x : tales.Client) → IsSeated after.tale x → (b : Bool) → called x.number ≡ b → x.taken ≡ taken_for (found_in callers x.number) x.number
    takes_by x seated true its =
        taken_called x (counts knows.laws knows.frees service.setup service.default_schema g t mid now roomy room over e callers links stood.rests calling stands_mid rested so_calls x seated its)
    takes_by x seated false other =
        taken_other x
        (sym (keeps_seats knows.laws knows.frees service.setup service.default_schema g t mid now roomy room over e callers links stood.rests calling stands_mid rested so_calls x.number other)
        ∙ seated) other

    goes_so : GoesSo service.setup setup codes plan log e d router.counts made t now roomy room
    goes_so = record {
      goes = goes_on;
      counts = counts_then setup plan d router.counts log e made router.recorded stood.counts may (λ x seated. takes_by x seated (called x.number) refl)
          (is_entry.begins setup g.tale made);
    }

    -- What becomes of messages.

    abbrev book : Rulebook
    book = book_of service

    abbrev takings : List Taking
    takings = takings_at setup plan g.tale e

    abbrev states : (number : ℕ) → Administered
    states = state_of service.setup service.default_schema (ruling_of service texts.since (key_at texts) admin is) callers mid so_calls.turned so_calls.going ruled

    abbrev IsJudgedBy : tales.Client → Option Caller → Type 0
    IsJudgedBy y o =
        JudgedFrom (judging_by service (states y.number.0) (states (suc y.number.0))) setup plan y takings (router.counts.taken y.number) (option_map_or (λ (j : Caller). j.choices) o [])
        (option_map_or (λ (j : Caller). j.halt) o Resting)

    numbered : All (λ (k : Caller). IsNumbered (tale_of setup plan (with_entry log e)) k.client) callers
    numbered =
        All-weaker (λ (k : Caller). called k.client ≡ true) (λ (k : Caller). IsNumbered (tale_of setup plan (with_entry log e)) k.client)
        (λ k its.
        let at =
        judged_of knows.laws knows.frees judges (ruling_of service texts.since (key_at texts) admin is) service.setup service.default_schema g t mid now roomy room over e callers links stood.rests
        calling stands_mid rested so_calls ruled (known_keys texts d.keys router.known setup fits.keyed)
        (λ x seated going. (held_before (keys_since texts.since (key_at texts)) d setup plan g.tale x (since setup codes plan stood.of stood.fits) seated going).known)
        k.client its in
        subst (IsNumbered (tale_of setup plan (with_entry log e))) at.number (numbered_then setup plan log e at.x at.seated)) callers (called_all callers)

    judged_by : (y : tales.Client) → WasThere plan g.tale e y → (b : Bool) → called y.number ≡ b → IsJudgedBy y (found_in callers y.number)
    judged_by y was true its =
        let at =
        judged_of knows.laws knows.frees judges (ruling_of service texts.since (key_at texts) admin is) service.setup service.default_schema g t mid now roomy room over e callers links stood.rests
        calling stands_mid rested so_calls ruled (known_keys texts d.keys router.known setup fits.keyed)
        (λ x seated going. (held_before (keys_since texts.since (key_at texts)) d setup plan g.tale x (since setup codes plan stood.of stood.fits) seated going).known)
        y.number its in
        let same : at.x ≡ was.was =
        one_seated at.x was.was (seats g.tale was.was.number) (sym at.seated ∙ ap (seats g.tale) (at.number ∙ was.continued.number)) was.seated in
        subst (IsJudgedBy y) (sym at.found)
        (judged_on (judging_by service (states y.number.0) (states (suc y.number.0))) setup plan takings g.tale e was.was y was.continued (is_entry.unread was.was.link) (router.counts.taken y.number)
        (taken_before was.was was.seated ∙ ap router.counts.taken (sym was.continued.number)) at.caller.choices at.caller.halt
        (subst (λ (c : ClientNo). JudgedFrom (judging_by service (states c.0) (states (suc c.0))) setup plan was.was takings was.was.taken at.caller.choices
        at.caller.halt) (sym was.continued.number)
        (subst (λ (z : tales.Client). JudgedFrom (judging_by service (states z.number.0) (states (suc z.number.0))) setup plan z takings z.taken at.caller.choices
        at.caller.halt) same at.judged)))
    judged_by y was false other =
        subst (IsJudgedBy y) (sym (none_found callers y.number other)) (
          (tt, tt),
          others_state service.setup service.default_schema (ruling_of service texts.since (key_at texts) admin is) callers mid so_calls.turned so_calls.going ruled y.number other,
        )

    judged_there : (y : tales.Client) → WasThere plan g.tale e y ⊎ HasCome g.tale e y → IsJudgedBy y (found_in callers y.number)
    judged_there y (inl was) = judged_by y was (called y.number) refl
    judged_there y (inr come) = absurd (is_entry.uncome g.tale y come)

    judges_of : (y : tales.Client) → IsSeated (tale_of setup plan (with_entry log e)) y → IsJudgedBy y (found_in callers y.number)
    judges_of y seated =
        judged_there y
        (seated_of (λ (z : tales.Client). WasThere plan g.tale e z ⊎ HasCome g.tale e z) (tale_step setup plan g.tale e) y
        (subst (λ (tale : Tale). IsSeated tale y) (tale_more setup plan log e) seated)
        (all_were setup plan g.tale e stood.rests.stands.clients.counted))

    judged_so : IsJudgedThen service log e router.counts made setup plan admin is
    judged_so = record {
      states = states;
      begins = early_state service.setup service.default_schema (ruling_of service texts.since (key_at texts) admin is) callers mid so_calls.turned so_calls.going ruled 1
          (All-weaker (λ (k : Caller). IsNumbered (tale_of setup plan (with_entry log e)) k.client) (λ (k : Caller). 1 ≤ k.client.0) (λ k at. at.least) callers numbered);
      ends = late_state service.setup service.default_schema (ruling_of service texts.since (key_at texts) admin is) callers mid so_calls.turned so_calls.going ruled
          (suc (length (tale_of setup plan (with_entry log e)).clients))
          (All-weaker (λ (k : Caller). IsNumbered (tale_of setup plan (with_entry log e)) k.client)
          (λ (k : Caller). k.client.0 < suc (length (tale_of setup plan (with_entry log e)).clients))
          (λ k at. let most : k.client.0 ≤ length (tale_of setup plan (with_entry log e)).clients = at.most in omega (arith, most)) callers numbered);
      forced = λ c some. settled;
      takes = judges_of;
      gives = all_sent service.setup g t given_of (λ (l : LinkId). false) stood.rests.stands given_up;
      why = caused setup codes plan stood.of stood.fits;
      parts = parted setup codes plan stood.of stood.fits;
    }

  judges_then : JudgesThen service log e d router.counts made admin is
  judges_then setup codes plan of fits = judged_so setup codes plan of fits

  -- no link opens or closes

  open_by : (l : LinkId) (b : Bool) → (if b then open_step (is_open l log) e else is_open l log) ≡ is_open l log
  open_by l true = is_entry.opens (is_open l log)
  open_by l false = refl

  open_same : AreOpenJust (with_entry log e) now
  open_same l =
      open_with log e l ∙ open_by l (is_link l (link_of e)) ∙ router.open_just l
      ∙ sym (λ i. rows_kept.links l i || is_some (rows_kept.numbers l i))

  pub calls_router : IsRouter service texts is (with_entry log e) now room
  calls_router = router_goes_on service log e made t now roomy room router may all_ours waits judges_then goes_so open_same
