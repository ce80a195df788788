-- What is decided of one client that takes up messages and ends or doesn't, by each plan that has it.
use Rattle.std.specs.Prelude.{◌≡◌, ◌⊎◌, ◌<◌, ◌≤◌, ◌+◌, ◌||◌, ◌&&◌, not, ℕ, suc, Bool, true, false, All, is_some, length, nat_eq, nat_le, if◌then◌else◌, List, [], ◌∷◌, Option, Some, None}
use Rattle.std.proofs.Common.{refl, sym, ap, ◌∙◌, subst, arith, inl, inr}
use Rattle.std.proofs.lemmas.Bool.{leb-false, leb-true, true≢false}
use Rattle.std.proofs.lemmas.Option.{none-some, same_Some}
use Rattle.mx_wire.specs.Log.{Log, accepted_links}
use Rattle.mx_wire.specs.Tells.{MayFollow}
use Rattle.mx_wire.specs.declared.entry.Entry.{Entry}
use Rattle.core_service.specs.Serves.{rules_in}
use Rattle.core_service.specs.declared.service.Service.{Service}
use Rattle.core_texts.specs.declared.texts.Texts.{Texts}
use Rattle.client_session.specs.Setups.{Setup as Serving}
use Rattle.private_model.specs.Names.{ClientNo, MessageName}
use Rattle.private_model.specs.Story.{is_client}
use Rattle.private_model.specs.View.{Setup}
use Rattle.link_laws.specs.Stands.{Codes}
use Rattle.log_story.specs.Headline.{tale_of}
use Rattle.log_story.specs.Owed.{name_of}
use Rattle.log_story.specs.Plan.{Behind, LastWord, Plan, word_at}
use Rattle.log_story.specs.Tale as tales
use Rattle.log_story.specs.Tale.{Tale}
use Rattle.log_story.specs.Telling.{tale_step}
use Rattle.step_laws.specs.Seats.{IsSeated, seats}
use Rattle.step_laws.specs.Steps.{ends_now}
use Rattle.tale_world.specs.Decided.{Decided}
use Rattle.core_tables.specs.Tables.{Tabled}
use Rattle.core_stands.specs.Grounds.{Ground}
use Rattle.core_laws.proofs.OfArrival.Finding.{client-same, client-true}
use Rattle.core_laws.proofs.OfEntry.Lists.{seated_of}
use Rattle.core_laws.specs.entry.Cores.{with_entry}
use Rattle.core_laws.specs.entry.Tells.{IsOf, ground}
use Rattle.core_laws.specs.clients.Chosen.{PlanHas}
use Rattle.core_laws.specs.clients.Following.{IsPartedIn, StandTold}
use Rattle.core_laws.specs.clients.Follows.{Leaves, Parting, Stays, Tells, ends_by, parts_by, quits_by}
use Rattle.core_laws.specs.clients.Turns.{Choice, Ends, Halt, Quits, Rests as Resting, Turns, Waits, count_by}
use Rattle.router_laws.proofs.OfClients.Continuing.{all_were}
use Rattle.router_laws.proofs.OfClients.Counting.{one_seated}
use Rattle.router_laws.proofs.OfClients.Entering.{heard_always}
use Rattle.router_laws.specs.clients.Continues.{HasCome, WasThere}
use Rattle.router_laws.specs.clients.Counted.{GoesTaking, TakesOne}
use Rattle.router_laws.specs.clients.Finds.{GoesFinding}
use Rattle.router_laws.specs.clients.Plans.{FitsThen, IsDecided, PlansEnd, PlansTurns, ends_of, nobody, over_by}
use Rattle.router_promises.specs.Takings.{takings_at}
use Rattle.router_laws.proofs.OfDecisions.Judging.{judged_by, judges_taking, PartsThen}
use Rattle.router_laws.proofs.OfDecisions.Gathering.{all_still, over_then, silent_at}
use Rattle.router_laws.proofs.OfDecisions.Keeping.{more_known, recorded_then}
use Rattle.router_laws.proofs.OfDecisions.Listing.{all_rise, counted_below, is_tale_of}
use Rattle.router_laws.proofs.OfDecisions.Recording.{one_more}
use Rattle.router_laws.proofs.OfDecisions.Router.{router_goes_on, stood_before}
use Rattle.router_laws.proofs.OfDecisions.Tallying.{counts_then}
use Rattle.router_laws.proofs.OfDecisions.Working.{none_given}
use Rattle.router_laws.proofs.OfDecisions.Speaking.{ours_alone, ours_of_one, ours_told}
use Rattle.core_promises.specs.Ruled.{AreRuled, ruling_of}
use Rattle.router_laws.proofs.OfDecisions.Stating.{IsNumbered}
use Rattle.router_laws.specs.decisions.Judges.{JudgedFrom, JudgesThen, judging_by}
use Rattle.router_laws.specs.decisions.Speaks.{AreOurs, IsEndOurs, IsOurs}
use Rattle.router_laws.specs.decisions.Counting.{BeginsSo, TakesSo}
use Rattle.router_laws.specs.decisions.Deeds as ds
use Rattle.router_laws.specs.decisions.Deeds.{AreAlone, Deeds, Word, counts_with, decided_with, known_with, no_deeds, parting, taken_by, taking}
use Rattle.router_laws.specs.decisions.Goings.{end_of}
use Rattle.router_laws.specs.decisions.Plans.{HasDeeds, PlansSo}
use Rattle.core_promises.specs.Administers.{Administered}
use Rattle.router_laws.specs.decisions.Routers.{AreOpenJust, GoesSo, IsBefore, IsRouter, WaitsThen}
use Rattle.router_laws.specs.decisions.Rulings.{AreKeptIn}
use Rattle.core_texts.specs.Texts.{key_at}
use Rattle.router_laws.proofs.OfDecisions.Speaking.{known_keys}

-- By its last word one stands as it is told.
abbrev pub Told : Type 0
Told = (service : Serving) (payload : List ℕ) (g : Ground) (c : ClientNo) (moment : ℕ) (word : LastWord) → g.over c ≡ false
    → word_at g.plan moment c ≡ Some word → word.place ≡ Behind → word.payloads ≡ payload ∷ [] → StandTold payload service g c moment

-- How it ends.

pub ends_alike : (halt : Halt) (by : Parting) → is_some (ds.ends_by halt (end_of by)) ≡ ends_by halt by
ends_alike Waits Stays = refl
ends_alike Waits Leaves = refl
ends_alike Waits (Tells payload) = refl
ends_alike Resting Stays = refl
ends_alike Resting Leaves = refl
ends_alike Resting (Tells payload) = refl
ends_alike Quits by = refl
ends_alike Ends by = refl

wordless_by : (halt : Halt) (now : ℕ) → ds.said_at now (ds.ends_by halt (Some None)) ≡ None
wordless_by Waits now = refl
wordless_by Resting now = refl
wordless_by Quits now = refl
wordless_by Ends now = refl

told_by : (halt : Halt) (payload : List ℕ) (now : ℕ) → (quits_by halt ≡ true → Tells payload ≡ Stays)
    → ds.said_at now (ds.ends_by halt (end_of (Tells payload))) ≡ Some (record { from = now; place = Behind; payloads = payload ∷ [] })
told_by Waits payload now once = refl
told_by Resting payload now once = refl
told_by Quits payload now once = absurd (true≢false (ap parts_by (once refl)))
told_by Ends payload now once = absurd (true≢false (ap parts_by (once refl)))

placed_by : (halt : Halt) (by : Parting) (now : ℕ) (word : LastWord) → ds.said_at now (ds.ends_by halt (end_of by)) ≡ Some word → word.place ≡ Behind
placed_by Quits by now word said = absurd (none-some word said)
placed_by Ends by now word said = absurd (none-some word said)
placed_by Waits Stays now word said = absurd (none-some word said)
placed_by Waits Leaves now word said = absurd (none-some word said)
placed_by Waits (Tells payload) now word said = ap (λ (x : LastWord). x.place) (sym (same_Some _ word said))
placed_by Resting Stays now word said = absurd (none-some word said)
placed_by Resting Leaves now word said = absurd (none-some word said)
placed_by Resting (Tells payload) now word said = ap (λ (x : LastWord). x.place) (sym (same_Some _ word said))

pub count_alike : (choices : List Choice) (halt : Halt) → count_by choices halt ≡ taken_by choices halt
count_alike choices Waits = refl
count_alike choices Resting = refl
count_alike choices Quits = refl
count_alike choices Ends = refl

and_none : (a : Bool) → (a && false) ≡ false
and_none true = refl
and_none false = refl

module _ {texts : Texts} {admin : Administered} (service : Service) (log : Log) (e : Entry) (t now : Tabled) (roomy room : ClientNo → Bool)
    (router : IsRouter service texts admin log t roomy) (may : MayFollow log e) (c : ClientNo) (choices : List Choice) (halt : Halt)
    (last : Option (Option Word)) (all_ours : All (IsOurs (rules_in service) texts c) choices) (end_ours : IsEndOurs last) where
  abbrev pub deeds : Deeds
  deeds = parting c last (taking c choices halt no_deeds)

  abbrev pub d : Decided
  d = router.core.decided

  abbrev pub new : Decided
  new = decided_with deeds router.counts log e d

  abbrev pub known : ℕ
  known = known_with log e

  abbrev pub ends : Bool
  ends = is_some (ds.ends_by halt last)

  pub ours : AreOurs (rules_in service) texts deeds
  ours = ours_of_one (rules_in service) texts c choices halt last all_ours end_ours

  alone : AreAlone deeds
  alone = ours_alone (rules_in service) texts deeds ours

  module _ (setup : Setup) (codes : Codes) (plan : Plan) (of : IsOf new (length (with_entry log e)) plan) (fits : FitsThen new.keys setup codes plan service.default_schema log e) where
    abbrev pub g : Ground
    g = ground setup codes plan d log

    pub before : IsBefore service texts admin log e t roomy router deeds setup codes plan
    before = stood_before service log e t roomy deeds setup codes plan router may of fits (heard_always setup plan log e)

    pub so : PlansSo g log e deeds
    so = before.so (ours_told d.keys (rules_in service) texts deeds router.known ours) (none_given g (λ x. None) (λ x. refl))

    -- it alone ends, if it does
    module _ (came : c.0 ≤ known) (going : g.over c ≡ false) where
      its : (x : ClientNo) (q : Bool) → is_client c x ≡ q → (not (g.over x) && is_some (ds.ends_in deeds x)) ≡ (is_client c x && ends)
      its x true same =
          ap (λ (q : Bool). not (g.over x) && is_some (ds.ends_by (if q then halt else Resting) (if q then last else None))) same
          ∙ ap (λ (b : Bool). not b && ends) (ap g.over (sym (client-true c x same)) ∙ going)
          ∙ sym (ap (λ (q : Bool). q && ends) same)
      its x false other =
          ap (λ (q : Bool). not (g.over x) && is_some (ds.ends_by (if q then halt else Resting) (if q then last else None))) other
          ∙ and_none (not (g.over x))
          ∙ sym (ap (λ (q : Bool). q && ends) other)

      none_beyond : (x : ClientNo) → known < x.0 → (is_client c x && ends) ≡ false
      none_beyond x beyond = by (is_client c x) refl where
        by : (q : Bool) → is_client c x ≡ q → (is_client c x && ends) ≡ false
        by false other = ap (λ (q : Bool). q && ends) other
        by true same = let number : c ≡ x = client-true c x same in
            let less : c.0 ≡ x.0 = ap (λ (n : ClientNo). n.0) number in absurd (omega (arith, less, beyond, came))

      ends_all : (x : ClientNo) → ends_now plan (suc g.tale.moment) x ≡ ends_of c ends x
      ends_all x = by (nat_le x.0 known) refl where
        by : (b : Bool) → nat_le x.0 known ≡ b → ends_now plan (suc g.tale.moment) x ≡ ends_of c ends x
        by true within = so.ends x (leb-true x.0 known within) ∙ its x (is_client c x) refl
        by false beyond =
            so.strangers x (leb-false x.0 known beyond) ∙ sym (none_beyond x (leb-false x.0 known beyond))

      pub decided : IsDecided g (ends_of c ends) (over_by new)
      decided = record {
        still = all_still g log e deeds so (λ x. refl);
        ends = ends_all;
        overs = λ x. over_then d router.counts log e deeds setup codes plan router.recorded of x ∙ ap (λ (b : Bool). g.over x || b) (ends_all x);
        wordless = λ x silent.
            ap (λ (m : ℕ). word_at plan m x) (ap suc (is_tale_of setup plan log).moment ∙ sym (one_more log e))
            ∙ silent_at new (counts_with deeds router.counts log e) (with_entry log e) plan
            (recorded_then d router.counts log e deeds router.recorded alone) of x silent;
      }

    -- nobody ends, where it doesn't
    pub decided_none : last ≡ None → halt ≡ Resting → IsDecided g nobody (over_by new)
    decided_none wordless resting = record {
      still = all_still g log e deeds so (λ x. refl);
      ends = none_ends;
      overs = λ x. over_then d router.counts log e deeds setup codes plan router.recorded of x ∙ ap (λ (b : Bool). g.over x || b) (none_ends x);
      wordless = λ x silent.
          ap (λ (m : ℕ). word_at plan m x) (ap suc (is_tale_of setup plan log).moment ∙ sym (one_more log e))
          ∙ silent_at new (counts_with deeds router.counts log e) (with_entry log e) plan
          (recorded_then d router.counts log e deeds router.recorded alone) of x silent;
    } where
      none_in : (q : Bool) → is_some (ds.ends_by (if q then halt else Resting) (if q then last else None)) ≡ false
      none_in true = λ i. is_some (ds.ends_by (resting i) (wordless i))
      none_in false = refl

      none_ends : (x : ClientNo) → ends_now plan (suc g.tale.moment) x ≡ false
      none_ends x = by (nat_le x.0 known) refl where
        by : (b : Bool) → nat_le x.0 known ≡ b → ends_now plan (suc g.tale.moment) x ≡ false
        by true within =
            so.ends x (leb-true x.0 known within) ∙ ap (λ (b : Bool). not (g.over x) && b) (none_in (nat_eq c.0 x.0)) ∙ and_none (not (g.over x))
        by false beyond = so.strangers x (leb-false x.0 known beyond)

    -- of one that is there
    module _ (client : tales.Client) (seated : IsSeated g.tale client) (number : client.number ≡ c) (going : g.over c ≡ false) where
      has : HasDeeds g deeds client
      has = seated_of (HasDeeds g deeds) g.tale client seated so.each

      still_going : g.over client.number ≡ false
      still_going = ap g.over number ∙ going

      named : is_client c client.number ≡ true
      named = client-same c client.number (sym number)

      pub came_so : c.0 ≤ known
      came_so =
          let less : client.number.0 < 1 + length g.tale.clients =
          seated_of (λ (x : tales.Client). x.number.0 < 1 + length g.tale.clients) g.tale client seated
          (counted_below 1 g.tale.clients (is_tale_of setup plan log).counted) in
          let size : length g.tale.clients ≡ length (accepted_links log) = (is_tale_of setup plan log).clients in
          let more : length (accepted_links log) ≤ known = more_known log e in
          let same : client.number.0 ≡ c.0 = ap (λ (n : ClientNo). n.0) number in omega (arith, less, size, more, same)

      pub counted_so : client.taken ≡ router.counts.taken c
      counted_so =
          seated_of (λ (y : tales.Client). y.taken ≡ router.counts.taken y.number) g.tale client seated before.counts.taken ∙ ap router.counts.taken number

      pub chosen : PlanHas choices halt setup.keys plan (suc g.tale.moment) (name_of client (suc client.taken))
      chosen =
          subst (λ (q : Bool). PlanHas (if q then choices else []) (if q then halt else Resting) setup.keys plan (suc g.tale.moment) (name_of client (suc client.taken)))
          named (has.chosen still_going)

      pub word : word_at plan (suc g.tale.moment) c ≡ ds.said_at (suc g.tale.moment) (ds.ends_by halt last)
      word =
          ap (word_at plan (suc g.tale.moment)) (sym number) ∙ has.word still_going
          ∙ ap (λ (q : Bool). ds.said_at (suc g.tale.moment) (ds.ends_by (if q then halt else Resting) (if q then last else None))) named

      pub end_of_it : last ≡ Some None → halt ≡ Resting → PlansEnd g log c (over_by new)
      end_of_it wordless resting = record {
        decided = subst (λ (b : Bool). IsDecided g (ends_of c b) (over_by new)) (λ i. is_some (ds.ends_by (resting i) (wordless i))) (decided came_so going);
        unrouted = so.nowhere c;
        wordless_now = word ∙ (λ i. ds.said_at (suc g.tale.moment) (ds.ends_by (resting i) (wordless i)));
        rising = all_rise log router.lawful;
      }

      pub turns_of_it : (ordinal : ℕ) (by : Parting) → ordinal ≡ suc client.taken → last ≡ end_of by → (quits_by halt ≡ true → by ≡ Stays)
          → Told → PlansTurns service.setup g log c ordinal choices halt by (over_by new)
      turns_of_it ordinal by next same once told = record {
        decided = subst (λ (b : Bool). IsDecided g (ends_of c b) (over_by new))
            (ap (λ (x : Option (Option Word)). is_some (ds.ends_by halt x)) same ∙ ends_alike halt by) (decided came_so going);
        unrouted = so.nowhere c;
        chosen = subst (λ (m : MessageName). PlanHas choices halt setup.keys plan (suc g.tale.moment) m)
            (λ i. record { client = number i; ordinal = sym next i }) chosen;
        parted = parted by same once;
        said = λ what at. placed_by halt by (suc g.tale.moment) what (sym (word_by by same) ∙ at);
        rising = all_rise log router.lawful;
      } where
        word_by : (p : Parting) → last ≡ end_of p → word_at plan (suc g.tale.moment) c ≡ ds.said_at (suc g.tale.moment) (ds.ends_by halt (end_of p))
        word_by p is = word ∙ ap (λ (x : Option (Option Word)). ds.said_at (suc g.tale.moment) (ds.ends_by halt x)) is

        parted : (p : Parting) → last ≡ end_of p → (quits_by halt ≡ true → p ≡ Stays)
            → IsPartedIn p service.setup g c (suc g.tale.moment)
        parted Stays is only = tt
        parted Leaves is only = word_by Leaves is ∙ wordless_by halt (suc g.tale.moment)
        parted (Tells payload) is only =
            told service.setup payload g c (suc g.tale.moment) (record { from = suc g.tale.moment; place = Behind; payloads = payload ∷ [] }) going
            (word_by (Tells payload) is ∙ told_by halt payload (suc g.tale.moment) only) refl refl

    -- what it takes up

    abbrev after : Tale
    after = tale_step setup plan g.tale e

    module _ (uncome : (x : tales.Client) → HasCome g.tale e x → ⊥) (takes : TakesOne c (taken_by choices halt) g.tale after) where
      takes_by : (x : tales.Client) → IsSeated after x → WasThere plan g.tale e x → (q : Bool) → is_client c x.number ≡ q
          → x.taken ≡ router.counts.taken x.number + taken_by (if q then choices else []) (if q then halt else Resting)
      takes_by x seated was true same =
          takes.its was.was x was.seated seated (ap (is_client c) (sym was.continued.number) ∙ same) same
          ∙ ap (λ (k : ℕ). k + taken_by choices halt)
          (seated_of (λ (y : tales.Client). y.taken ≡ router.counts.taken y.number) g.tale was.was was.seated before.counts.taken
          ∙ ap router.counts.taken (sym was.continued.number))
      takes_by x seated was false other =
          let alike : x ≡ was.was =
          one_seated x was.was (seats after x.number) (sym seated)
          (takes.others x.number other ∙ ap (seats g.tale) was.continued.number ∙ was.seated) in
          let took : x.taken ≡ router.counts.taken x.number =
          ap (λ (y : tales.Client). y.taken) alike
          ∙ seated_of (λ (y : tales.Client). y.taken ≡ router.counts.taken y.number) g.tale was.was was.seated before.counts.taken
          ∙ ap router.counts.taken (sym was.continued.number) in
          omega (arith, took)

      pub takes_so : TakesSo router.counts deeds after
      takes_so x seated =
          by (seated_of (λ (y : tales.Client). WasThere plan g.tale e y ⊎ HasCome g.tale e y) after x seated
          (all_were setup plan g.tale e before.rests.stands.clients.counted)) where
            by : WasThere plan g.tale e x ⊎ HasCome g.tale e x
                → x.taken ≡ router.counts.taken x.number + taken_by (deeds.calls x.number) (deeds.halts x.number)
            by (inr come) = absurd (uncome x come)
            by (inl was) =
                takes_by x seated was (is_client c x.number) refl

  -- so it goes on

  abbrev pub GoesBy : Type 0
  GoesBy =
      (setup : Setup) (codes : Codes) (plan : Plan) (of : IsOf new (length (with_entry log e)) plan) (fits : FitsThen new.keys setup codes plan service.default_schema log e)
      → GoesTaking service.setup setup codes plan log e d new t now roomy room c (taken_by choices halt)

  pub goes_router : (is : Administered) → WaitsThen service log e router.core.decided
      → JudgesThen service log e router.core.decided router.counts deeds admin is → GoesBy → ((tale : Tale) (x : tales.Client) → HasCome tale e x → ⊥) → ((setup : Setup) (tale : Tale) → BeginsSo setup tale e deeds)
      → AreOpenJust (with_entry log e) now → IsRouter service texts is (with_entry log e) now room
  goes_router is waits judges goes uncome begins = router_goes_on service log e deeds t now roomy room router may ours waits judges goes_so where
    goes_so : (setup : Setup) (codes : Codes) (plan : Plan) → IsOf new (length (with_entry log e)) plan → FitsThen new.keys setup codes plan service.default_schema log e
        → GoesSo service.setup setup codes plan log e d router.counts deeds t now roomy room
    goes_so setup codes plan of fits =
        let taking_it : GoesTaking service.setup setup codes plan log e d new t now roomy room c (taken_by choices halt) = goes setup codes plan of fits in
        let was : IsBefore service texts admin log e t roomy router deeds setup codes plan = before setup codes plan of fits in
        record {
          goes = taking_it.goes;
          counts = counts_then setup plan d router.counts log e deeds router.recorded was.counts may
              (takes_so setup codes plan of fits (uncome (tale_of setup plan log)) (taking_it.takes was.rests)) (begins setup (tale_of setup plan log));
        }

  -- and what it takes up is ruled

  module _ (is : Administered) (settled : admin.rules ≡ rules_in service) (ordinal : ℕ) (mid turned : Tabled)
      (turns : Turns choices halt service.setup service.default_schema c mid turned)
      (ruled : AreRuled (ruling_of service texts.since (key_at texts) admin is) choices halt service.setup service.default_schema c mid turned turns) where
    pub record Finds (setup : Setup) (codes : Codes) (plan : Plan) : Type 0 where
      pub so : GoesFinding service.setup service.default_schema setup codes plan log e d new t now roomy room c ordinal choices halt mid turned turns
      pub next : ordinal ≡ suc (router.counts.taken c)
      pub kept : AreKeptIn (ruling_of service texts.since (key_at texts) admin is) (mid.clients c)
      pub numbered : IsNumbered (tale_of setup plan (with_entry log e)) c

    abbrev pub FindsBy : Type 0
    FindsBy =
        (setup : Setup) (codes : Codes) (plan : Plan) (of : IsOf new (length (with_entry log e)) plan)
        (fits : FitsThen new.keys setup codes plan service.default_schema log e) → Finds setup codes plan

    pub finds_router : WaitsThen service log e router.core.decided → FindsBy → PartsThen service log e d router.counts deeds → ((tale : Tale) (x : tales.Client) → HasCome tale e x → ⊥)
        → ((setup : Setup) (tale : Tale) → BeginsSo setup tale e deeds) → AreOpenJust (with_entry log e) now → IsRouter service texts is (with_entry log e) now room
    finds_router waits finds parts = goes_router is waits (judges_taking service log e d router.counts c choices halt last admin is settled judged parts) goes where
      goes : GoesBy
      goes setup codes plan of fits =
          subst (λ (k : ℕ). GoesTaking service.setup setup codes plan log e d new t now roomy room c k) (count_alike choices halt)
          (finds setup codes plan of fits).so.goes

      judged : (setup : Setup) (codes : Codes) (plan : Plan) → IsOf new (length (with_entry log e)) plan → FitsThen new.keys setup codes plan service.default_schema log e
          → IsNumbered (tale_of setup plan (with_entry log e)) c
          × ((client : tales.Client) → IsSeated (tale_of setup plan (with_entry log e)) client → client.number ≡ c
          → JudgedFrom (judging_by service admin is) setup plan client (takings_at setup plan (tale_of setup plan log) e) (router.counts.taken c) choices halt)
      judged setup codes plan of fits = (
        (finds setup codes plan of fits).numbered,
        λ client seated number.
            judged_by (ruling_of service texts.since (key_at texts) admin is) setup plan client (known_keys texts d.keys router.known setup fits.keyed) (takings_at setup plan (tale_of setup plan log) e) (router.counts.taken c) choices halt service.setup
            service.default_schema c number mid turned turns
            ((finds setup codes plan of fits).so.finds (before setup codes plan of fits).rests (router.counts.taken c) (finds setup codes plan of fits).next
            client seated number) ruled (finds setup codes plan of fits).kept,
      )
