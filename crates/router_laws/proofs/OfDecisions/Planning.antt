-- What each plan has that has what is decided at an entry.
use Rattle.std.specs.Prelude.{◌≡◌, ◌<◌, ◌≤◌, ◌&&◌, ℕ, suc, Bool, true, false, All, is_some, nat_eq, nat_le, if◌then◌else◌, length, List, [], ◌∷◌, Option, Some, None}
use Rattle.std.specs.Option.{option_and_then, option_map, option_map_or, option_or}
use Rattle.std.proofs.Common.{refl, sym, ap, ◌∙◌, subst, arith}
use Rattle.std.proofs.lemmas.Bool.{eq-eqb}
use Rattle.mx_wire.specs.Log.{Log}
use Rattle.mx_wire.specs.declared.entry.Entry.{Entry}
use Rattle.private_model.specs.Names.{ClientNo, LinkId, MessageName}
use Rattle.private_model.specs.Story.{Key}
use Rattle.server_side.specs.Account.{Account as Login}
use Rattle.log_story.specs.Plan.{LastWord, OwnAnswer, Plan, Route, StepText, gives_up, own_at, word_at}
use Rattle.step_laws.specs.Steps.{ends_now}
use Rattle.tale_world.specs.Decided.{Decided}
use Rattle.core_laws.specs.clients.Chosen.{PlanHas}
use Rattle.core_laws.specs.entry.Tells.{IsOf}
use Rattle.router_laws.proofs.OfDecisions.Fates.{HasFate, IsKeyedBy, false_true, fate_before, fates_at_once, none_some, plan_has}
use Rattle.router_laws.proofs.OfDecisions.Recording.{or_new, or_stays, own_given, own_new, own_open, own_stays, up_with}
use Rattle.router_laws.specs.decisions.Deeds.{Counts, Deeds, Fate, Word, begun_at, decided_by, ends_in, fate_at, login_at, said_at, step_with, word_of, word_with}
use Rattle.router_laws.specs.decisions.Records.{IsRecorded, IsUndecided}

-- Answers and words of a plan.

module _ (plan : Plan) (m : MessageName) (at : ℕ) where
  abbrev owned : Option OwnAnswer → Option (List (List ℕ))
  owned planned = option_and_then (λ (answer : OwnAnswer). if nat_le answer.from at then Some answer.payloads else None) planned

  own_some : (answer : OwnAnswer) → plan.own m ≡ Some answer → answer.from ≤ at → own_at plan at m ≡ Some answer.payloads
  own_some answer is early =
      let by : nat_le answer.from at ≡ true = grind arith in
      ap owned is ∙ ap (λ (b : Bool). if b then Some answer.payloads else None) by

  own_none : ((answer : OwnAnswer) → plan.own m ≡ Some answer → at < answer.from) → own_at plan at m ≡ None
  own_none later = by (plan.own m) refl where
    by : (planned : Option OwnAnswer) → plan.own m ≡ planned → owned planned ≡ None
    by None is = refl
    by (Some answer) is =
        let less : at < answer.from = later answer is in
        let isnt : nat_le answer.from at ≡ false = grind arith in
        ap (λ (b : Bool). if b then Some answer.payloads else None) isnt

  gives_none : ((answer : OwnAnswer) → plan.own m ≡ Some answer → nat_eq answer.from at ≡ false) → gives_up plan at m ≡ false
  gives_none later = by (plan.own m) refl where
    by : (planned : Option OwnAnswer) → plan.own m ≡ planned → option_map_or (λ (answer : OwnAnswer). nat_eq answer.from at) planned false ≡ false
    by None is = refl
    by (Some answer) is = later answer is

  gives_some : (answer : OwnAnswer) → plan.own m ≡ Some answer → answer.from ≡ at → gives_up plan at m ≡ true
  gives_some answer is now =
      ap (λ (planned : Option OwnAnswer). option_map_or (λ (answer : OwnAnswer). nat_eq answer.from at) planned false) is ∙ eq-eqb answer.from at now

module _ (plan : Plan) (c : ClientNo) (at : ℕ) where
  abbrev worded : Option LastWord → Option LastWord
  worded planned = option_and_then (λ (word : LastWord). if nat_le word.from at then Some word else None) planned

  word_some : (word : LastWord) → plan.words c ≡ Some word → word.from ≤ at → word_at plan at c ≡ Some word
  word_some word is early =
      let by : nat_le word.from at ≡ true = grind arith in
      ap worded is ∙ ap (λ (b : Bool). if b then Some word else None) by

  pub word_none : ((word : LastWord) → plan.words c ≡ Some word → at < word.from) → word_at plan at c ≡ None
  word_none later = by (plan.words c) refl where
    by : (planned : Option LastWord) → plan.words c ≡ planned → worded planned ≡ None
    by None is = refl
    by (Some word) is =
        let less : at < word.from = later word is in
        let isnt : nat_le word.from at ≡ false = grind arith in
        ap (λ (b : Bool). if b then Some word else None) isnt

same_answer : (a b : OwnAnswer) → Some a ≡ Some b → a ≡ b
same_answer a b is = cc

-- At the entry behind so many.
module _ (d : Decided) (n : Counts) (log : Log) (e : Entry) (deeds : Deeds) (moment : ℕ) (plan : Plan) (recorded : IsRecorded d n log)
    (before : length log ≡ moment) (of : IsOf (decided_by deeds n log e (suc moment) d) (suc moment) plan) where
  abbrev now : ℕ
  now = suc moment

  abbrev new : Decided
  new = decided_by deeds n log e now d

  -- Messages that were taken up.

  answered_so : (m : MessageName) (answer : OwnAnswer) → d.own m ≡ Some (Some answer) → plan.own m ≡ Some answer
  answered_so m answer was = of.agrees.answered m answer (own_stays deeds n now m (d.own m) answer was)

  answered_early : (m : MessageName) (answer : OwnAnswer) → d.own m ≡ Some (Some answer) → answer.from ≤ moment
  answered_early m answer was = let early : answer.from ≤ length log = recorded.answered m answer was in omega (arith, early, before)

  -- it isn't the last, or isn't given up
  abbrev Kept : MessageName → Type 0
  Kept m = (is_some (deeds.given m.client) && nat_eq m.ordinal (n.taken m.client)) ≡ false

  open_later : (m : MessageName) (answer : OwnAnswer) → d.own m ≡ Some None → Kept m → plan.own m ≡ Some answer → now < answer.from
  open_later m answer was kept planned = of.agrees.unanswered m answer (own_open deeds n now m (d.own m) was kept) planned

  abbrev OwnStays : MessageName → Type 0
  OwnStays m = (own_at plan now m ≡ own_at plan moment m) × (gives_up plan now m ≡ false)

  stays_answered : (m : MessageName) (answer : OwnAnswer) → d.own m ≡ Some (Some answer) → OwnStays m
  stays_answered m answer was =
      let planned : plan.own m ≡ Some answer = answered_so m answer was in
      let early : answer.from ≤ moment = answered_early m answer was in (
        own_some plan m now answer planned (omega (arith, early)) ∙ sym (own_some plan m moment answer planned early),
        gives_none plan m now (λ other is.
            subst (λ (a : OwnAnswer). nat_eq a.from now ≡ false) (same_answer answer other (sym planned ∙ is)) (grind arith)),
      )

  stays_open : (m : MessageName) → d.own m ≡ Some None → Kept m → OwnStays m
  stays_open m was kept = (
    own_none plan m now (λ answer planned. open_later m answer was kept planned)
        ∙ sym (own_none plan m moment (λ answer planned. let later : now < answer.from = open_later m answer was kept planned in omega (arith, later))),
    gives_none plan m now (λ answer planned. let later : now < answer.from = open_later m answer was kept planned in grind arith),
  )

  stays_by : (m : MessageName) (was : Option (Option OwnAnswer)) → d.own m ≡ was → is_some was ≡ true → Kept m → OwnStays m
  stays_by m None was some kept = false_true false refl some
  stays_by m (Some None) was some kept = stays_open m was kept
  stays_by m (Some (Some answer)) was some kept = stays_answered m answer was

  pub own_so : (m : MessageName) → m.ordinal ≤ n.taken m.client → Kept m → OwnStays m
  own_so m within kept = stays_by m (d.own m) refl (recorded.taken_up m within).owned kept

  -- the last is given up, where it isn't answered

  abbrev IsGivenUp : MessageName → (payload : List ℕ) → Type 0
  IsGivenUp m payload = (own_at plan now m ≡ Some (payload ∷ [])) × (gives_up plan now m ≡ true)

  given_by : (m : MessageName) (payload : List ℕ) (was : Option (Option OwnAnswer)) → d.own m ≡ was → is_some was ≡ true → m.ordinal ≡ n.taken m.client
      → deeds.given m.client ≡ Some payload → own_at plan moment m ≡ None → IsGivenUp m payload
  given_by m payload None was some last gives none = false_true false refl some
  given_by m payload (Some (Some answer)) was some last gives none =
      none_some (own_at plan moment m) answer.payloads none (own_some plan m moment answer (answered_so m answer was) (answered_early m answer was))
  given_by m payload (Some None) was some last gives none =
      let planned : plan.own m ≡ Some (up_with deeds n now payload) =
      of.agrees.answered m (up_with deeds n now payload) (own_given deeds n now m (d.own m) payload was last gives) in
      (own_some plan m now (up_with deeds n now payload) planned (omega arith), gives_some plan m now (up_with deeds n now payload) planned refl)

  pub given_so : (m : MessageName) (payload : List ℕ) → m.ordinal ≡ n.taken m.client → deeds.given m.client ≡ Some payload
      → own_at plan moment m ≡ None → IsGivenUp m payload
  given_so m payload last gives none =
      given_by m payload (d.own m) refl (recorded.taken_up m (omega (arith, last))).owned last gives none

  -- Messages that are taken up.

  own_by_fate : (m : MessageName) (fate : Option OwnAnswer) → new.own m ≡ Some fate → ((answer : OwnAnswer) → fate ≡ Some answer → answer.from ≡ 0)
      → own_at plan now m ≡ option_map (λ (answer : OwnAnswer). answer.payloads) fate
  own_by_fate m None is once = own_none plan m now (λ answer planned. of.agrees.unanswered m answer is planned)
  own_by_fate m (Some answer) is once =
      let zero : answer.from ≡ 0 = once answer refl in own_some plan m now answer (of.agrees.answered m answer is) (omega (arith, zero))

  pub fate_so : (m : MessageName) (fate : Fate) → fate_at deeds n m ≡ Some fate → n.taken m.client < m.ordinal → HasFate plan now m fate
  fate_so m fate is less =
      let free : IsUndecided d m = recorded.to_come m less in
      record {
        routed = of.agrees.routes m fate.route
            (or_new (d.routes m) (option_map (λ (fate : Fate). fate.route) (fate_at deeds n m)) free.unrouted
            ∙ ap (option_map (λ (fate : Fate). fate.route)) is);
        own = own_by_fate m fate.own
            (own_new deeds n now m (d.own m) free.unowned ∙ ap (option_map (λ (fate : Fate). fate.own)) is)
            (λ answer has. (fates_at_once (deeds.calls m.client) (deeds.halts m.client) (suc (n.taken m.client)) m.ordinal fate is answer has).0);
      }

  fate_here : (m : MessageName) (fate : Fate) → fate_at deeds n m ≡ Some fate → HasFate plan now m fate
  fate_here m fate is = by (nat_le m.ordinal (n.taken m.client)) refl where
    by : (b : Bool) → nat_le m.ordinal (n.taken m.client) ≡ b → HasFate plan now m fate
    by true within =
        none_some (fate_at deeds n m) fate
        (fate_before (deeds.calls m.client) (deeds.halts m.client) (suc (n.taken m.client)) m.ordinal (grind arith)) is
    by false beyond = fate_so m fate is (grind arith)

  -- Ends.

  pub over_so : (c : ClientNo) → is_some (d.ends c) ≡ true → ends_now plan now c ≡ false
  over_so c over = by (d.ends c) refl over where
    by : (was : Option ℕ) → d.ends c ≡ was → is_some was ≡ true → ends_now plan now c ≡ false
    by None was some = false_true false refl some
    by (Some at) was some =
        let planned : plan.ends c ≡ Some at =
        of.agrees.ended c at (or_stays (d.ends c) (option_map (λ (end : Option Word). now) (ends_in deeds c)) at was) in
        let early : at ≤ length log = recorded.ended c at was in
        let isnt : nat_eq at now ≡ false = (let soon : at < now = omega (arith, early, before) in grind arith) in
        ap (λ (o : Option ℕ). option_map_or (λ (k : ℕ). nat_eq k now) o false) planned ∙ isnt

  pub ends_so : (c : ClientNo) → d.ends c ≡ None → ends_now plan now c ≡ is_some (ends_in deeds c)
  ends_so c going = by (ends_in deeds c) refl where
    new_is : (end : Option (Option Word)) → ends_in deeds c ≡ end → new.ends c ≡ option_map (λ (end : Option Word). now) end
    new_is end is = or_new (d.ends c) (option_map (λ (end : Option Word). now) (ends_in deeds c)) going ∙ ap (option_map (λ (end : Option Word). now)) is

    not_now : (planned : Option ℕ) → plan.ends c ≡ planned → new.ends c ≡ None → option_map_or (λ (k : ℕ). nat_eq k now) planned false ≡ false
    not_now None is none = refl
    not_now (Some at) is none = let later : now < at = of.agrees.going c at none is in grind arith

    by : (end : Option (Option Word)) → ends_in deeds c ≡ end → ends_now plan now c ≡ is_some end
    by None is = not_now (plan.ends c) refl (new_is None is)
    by (Some end) is =
        ap (λ (o : Option ℕ). option_map_or (λ (k : ℕ). nat_eq k now) o false) (of.agrees.ended c now (new_is (Some end) is)) ∙ eq-eqb now now refl

  -- Words.

  pub word_stays : (c : ClientNo) → is_some (d.ends c) ≡ true → word_at plan now c ≡ word_at plan moment c
  word_stays c over = by (d.ends c) (d.words c) refl refl over where
    new_is : (at : ℕ) → d.ends c ≡ Some at → new.words c ≡ d.words c
    new_is at was = ap (λ (o : Option ℕ). word_with now o (ends_in deeds c) (d.words c)) was

    by : (was : Option ℕ) (word : Option LastWord) → d.ends c ≡ was → d.words c ≡ word → is_some was ≡ true → word_at plan now c ≡ word_at plan moment c
    by None word was said some = false_true false refl some
    by (Some at) None was said some =
        let none : new.words c ≡ None = new_is at was ∙ said in
        word_none plan c now (λ word planned. of.untold c word none planned)
        ∙ sym (word_none plan c moment (λ word planned. let later : now < word.from = of.untold c word none planned in omega (arith, later)))
    by (Some at) (Some word) was said some =
        let planned : plan.words c ≡ Some word = of.told c word (new_is at was ∙ said) in
        let early : word.from ≤ length log = recorded.told c word said in
        word_some plan c now word planned (omega (arith, early, before)) ∙ sym (word_some plan c moment word planned (omega (arith, early, before)))

  new_words : (c : ClientNo) → d.ends c ≡ None → new.words c ≡ word_of deeds now c
  new_words c going =
      ap (λ (o : Option ℕ). word_with now o (ends_in deeds c) (d.words c)) going ∙ or_new (d.words c) (said_at now (ends_in deeds c)) (recorded.silent c going)

  pub says_so : (c : ClientNo) (word : LastWord) → d.ends c ≡ None → word_of deeds now c ≡ Some word → plan.words c ≡ Some word
  says_so c word going is = of.told c word (new_words c going ∙ is)

  pub word_so : (c : ClientNo) → d.ends c ≡ None → word_at plan now c ≡ word_of deeds now c
  word_so c going = by (ends_in deeds c) refl where
    by : (end : Option (Option Word)) → ends_in deeds c ≡ end → word_at plan now c ≡ said_at now end
    by None is = word_none plan c now (λ word planned. of.untold c word (new_words c going ∙ ap (said_at now) is) planned)
    by (Some None) is = word_none plan c now (λ word planned. of.untold c word (new_words c going ∙ ap (said_at now) is) planned)
    by (Some (Some word)) is =
        word_some plan c now (record { from = now; place = word.place; payloads = word.payloads })
        (of.told c (record { from = now; place = word.place; payloads = word.payloads }) (new_words c going ∙ ap (said_at now) is)) (omega arith)

  -- Its turns.
  pub chosen_so : (keys : (number : ℕ) → Key) (c : ClientNo) → ((m : MessageName) (route : Route) → plan.routes m ≡ Some route → route.mirror ≡ None)
      → All (IsKeyedBy keys) (deeds.calls c) → d.ends c ≡ None → PlanHas (deeds.calls c) (deeds.halts c) keys plan now (record { client = c; ordinal = suc (n.taken c) })
  chosen_so keys c single keyed going =
      plan_has keys plan now single (deeds.calls c) (deeds.halts c) (record { client = c; ordinal = suc (n.taken c) }) (deeds.ends c) (word_so c going)
      (λ ordinal fate is. fate_here (record { client = c; ordinal = ordinal }) fate is) keyed

  pub nowhere_so : (c : ClientNo) → plan.routes (record { client = c; ordinal = 0 }) ≡ None
  nowhere_so c =
      of.agrees.routes (record { client = c; ordinal = 0 }) None
      (or_stays (d.routes (record { client = c; ordinal = 0 }))
      (option_map (λ (fate : Fate). fate.route) (fate_at deeds n (record { client = c; ordinal = 0 }))) None (recorded.nowhere c))

  -- Links.

  pub login_so : (l : LinkId) (login : Login) → d.logins l ≡ None → login_at e deeds l ≡ Some login → plan.logins l ≡ login
  login_so l login none is = of.agrees.logins l login (or_new (d.logins l) (login_at e deeds l) none ∙ is)

  pub step_so : (l : LinkId) (step : StepText) → begun_at log e deeds l ≡ Some (Some step) → plan.steps l (n.begun l) ≡ step
  step_so l step is =
      of.agrees.steps l (n.begun l) step
      (ap (λ (o : Option (Option StepText)). step_with o (n.begun l) (n.begun l) (d.steps l (n.begun l))) is
      ∙ ap (λ (b : Bool). if b then option_or (d.steps l (n.begun l)) (Some step) else d.steps l (n.begun l)) (eq-eqb (n.begun l) (n.begun l) refl)
      ∙ or_new (d.steps l (n.begun l)) (Some step) (recorded.unbegun l (n.begun l) (omega arith)))
