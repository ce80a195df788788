-- What is decided of messages by a client's turns.
use Rattle.std.specs.Prelude.{◌≡◌, ◌<◌, ◌≤◌, ◌+◌, ◌&&◌, ℕ, suc, Bool, true, false, All, is_some, nat_eq, if◌then◌else◌, List, [], ◌∷◌, Option, Some, None}
use Rattle.std.specs.Option.{option_map}
use Rattle.std.proofs.Common.{refl, sym, ap, ◌∙◌, subst, arith}
use Rattle.std.proofs.lemmas.Bool.{eq-eqb, eqb-false, eqb-true}
use Rattle.std.proofs.lemmas.List.Elements.{All-head, All-nil, All-tail, All-weaker}
use Rattle.private_model.specs.Names.{ClientNo, MessageName}
use Rattle.private_model.specs.Story.{Key}
use Rattle.log_story.specs.Plan.{OwnAnswer, Plan, Route, own_at, word_at}
use Rattle.core_laws.specs.clients.Chosen.{IsChosen, IsHaltIn, PlanHas}
use Rattle.core_laws.specs.clients.Turns.{Answers, AreKeyed, Choice, Ends, Goes, Halt, Keyed, Quits, Rests, Waits}
use Rattle.router_laws.specs.decisions.Deeds.{AreToldBy, Deeds, Fate, IsAlone, IsToldBy, Word, ends_by, fate_in, fate_of, is_quitting, no_fate, said_at, taken_by}

pub none_some : {A B : Type 0} (x : Option A) (y : A) → x ≡ None → x ≡ Some y → B
none_some x y isnt is = (let both : None ≡ Some y = sym isnt ∙ is in cc)

pub false_true : {A : Type 0} (b : Bool) → b ≡ false → b ≡ true → A
false_true b isnt is = (let both : false ≡ true = sym isnt ∙ is in cc)

past : (first ordinal : ℕ) → first ≤ ordinal → nat_eq ordinal first ≡ false → suc first ≤ ordinal
past first ordinal least other = let apart = eqb-false ordinal first other in omega (arith, apart)

-- None of those before the first, and of those behind the last.

last_if : (quits same : Bool) → same ≡ false → (if quits && same then Some no_fate else None) ≡ None
last_if true same isnt = ap (λ (b : Bool). if b then Some no_fate else None) isnt
last_if false same isnt = refl

pub fate_before : (choices : List Choice) (halt : Halt) (first ordinal : ℕ) → ordinal < first → fate_in choices halt first ordinal ≡ None
fate_before [] halt first ordinal less = last_if (is_quitting halt) (nat_eq ordinal first) (grind arith)
fate_before (choice ∷ others) halt first ordinal less =
    let other : nat_eq ordinal first ≡ false = grind arith in
    ap (λ (b : Bool). if b then Some (fate_of choice) else fate_in others halt (suc first) ordinal) other
    ∙ fate_before others halt (suc first) ordinal (omega arith)

behind_if : (quits : Bool) (first ordinal : ℕ) → first + (if quits then 1 else 0) ≤ ordinal
    → (if quits && nat_eq ordinal first then Some no_fate else None) ≡ None
behind_if true first ordinal less = last_if true (nat_eq ordinal first) (grind arith)
behind_if false first ordinal less = refl

pub fate_behind : (choices : List Choice) (halt : Halt) (first ordinal : ℕ) → first + taken_by choices halt ≤ ordinal
    → fate_in choices halt first ordinal ≡ None
fate_behind [] halt first ordinal less = behind_if (is_quitting halt) first ordinal (omega (arith, less))
fate_behind (choice ∷ others) halt first ordinal less =
    let other : nat_eq ordinal first ≡ false = grind arith in
    ap (λ (b : Bool). if b then Some (fate_of choice) else fate_in others halt (suc first) ordinal) other
    ∙ fate_behind others halt (suc first) ordinal (omega (arith, less))

-- One of each between.

there_if : (quits : Bool) (first ordinal : ℕ) → first ≤ ordinal → ordinal < first + (if quits then 1 else 0)
    → is_some (if quits && nat_eq ordinal first then Some no_fate else None) ≡ true
there_if true first ordinal least less =
    let same : nat_eq ordinal first ≡ true = grind arith in ap (λ (b : Bool). is_some (if b then Some no_fate else None)) same
there_if false first ordinal least less = absurd (omega (arith, least, less))

pub fate_there : (choices : List Choice) (halt : Halt) (first ordinal : ℕ) → first ≤ ordinal → ordinal < first + taken_by choices halt
    → is_some (fate_in choices halt first ordinal) ≡ true
fate_there [] halt first ordinal least less = there_if (is_quitting halt) first ordinal least (omega (arith, less))
fate_there (choice ∷ others) halt first ordinal least less =
    by (nat_eq ordinal first) refl (λ next. fate_there others halt (suc first) ordinal next (omega (arith, less))) where
      by : (b : Bool) → nat_eq ordinal first ≡ b → (suc first ≤ ordinal → is_some (fate_in others halt (suc first) ordinal) ≡ true)
          → is_some (if b then Some (fate_of choice) else fate_in others halt (suc first) ordinal) ≡ true
      by true is later = refl
      by false other later = later (past first ordinal least other)

-- What is answered as it is taken up is so from the first entry on, and goes to no server.

abbrev pub IsAtOnce : Fate → Type 0
IsAtOnce fate = (answer : OwnAnswer) → fate.own ≡ Some answer → (answer.from ≡ 0) × (fate.route ≡ None)

once_of : (choice : Choice) → IsAtOnce (fate_of choice)
once_of (Goes route keyed) answer is = none_some None answer refl is
once_of (Answers payloads) answer is =
    let same : record { from = 0; payloads = payloads } ≡ answer = cc in (sym (ap (λ (a : OwnAnswer). a.from) same), refl)

once_if : (b : Bool) (fate : Fate) → (if b then Some no_fate else None) ≡ Some fate → IsAtOnce fate
once_if true fate is = let same : no_fate ≡ fate = cc in subst IsAtOnce same (λ answer has. none_some None answer refl has)
once_if false fate is = none_some None fate refl is

pub fates_at_once : (choices : List Choice) (halt : Halt) (first ordinal : ℕ) (fate : Fate) → fate_in choices halt first ordinal ≡ Some fate
    → IsAtOnce fate
fates_at_once [] halt first ordinal fate is = once_if (is_quitting halt && nat_eq ordinal first) fate is
fates_at_once (choice ∷ others) halt first ordinal fate is =
    by (nat_eq ordinal first) (fates_at_once others halt (suc first) ordinal fate) is where
      by : (b : Bool) → (fate_in others halt (suc first) ordinal ≡ Some fate → IsAtOnce fate)
          → (if b then Some (fate_of choice) else fate_in others halt (suc first) ordinal) ≡ Some fate → IsAtOnce fate
      by true later has = let same : fate_of choice ≡ fate = cc in subst IsAtOnce same (once_of choice)
      by false later has = later has

-- No copies are made.

abbrev pub IsFateAlone : Fate → Type 0
IsFateAlone fate = (route : Route) → fate.route ≡ Some route → route.mirror ≡ None

alone_of : (choice : Choice) → IsAlone choice → IsFateAlone (fate_of choice)
alone_of (Goes mine keyed) alone route is = let same : mine ≡ route = cc in subst (λ (r : Route). r.mirror ≡ None) same alone
alone_of (Answers payloads) alone route is = none_some None route refl is

alone_if : (b : Bool) (fate : Fate) → (if b then Some no_fate else None) ≡ Some fate → IsFateAlone fate
alone_if true fate is = let same : no_fate ≡ fate = cc in subst IsFateAlone same (λ route has. none_some None route refl has)
alone_if false fate is = none_some None fate refl is

pub fates_alone : (choices : List Choice) (halt : Halt) (first ordinal : ℕ) (fate : Fate) → All IsAlone choices
    → fate_in choices halt first ordinal ≡ Some fate → IsFateAlone fate
fates_alone [] halt first ordinal fate all is = alone_if (is_quitting halt && nat_eq ordinal first) fate is
fates_alone (choice ∷ others) halt first ordinal fate all is =
    by (nat_eq ordinal first) (fates_alone others halt (suc first) ordinal fate (All-tail IsAlone choice others all)) is where
      by : (b : Bool) → (fate_in others halt (suc first) ordinal ≡ Some fate → IsFateAlone fate)
          → (if b then Some (fate_of choice) else fate_in others halt (suc first) ordinal) ≡ Some fate → IsFateAlone fate
      by true later has = let same : fate_of choice ≡ fate = cc in subst IsFateAlone same (alone_of choice (All-head IsAlone choice others all))
      by false later has = later has

-- A plan that has each of them has the choices.

pub record HasFate (plan : Plan) (now : ℕ) (m : MessageName) (fate : Fate) : Type 0 where
  pub routed : plan.routes m ≡ fate.route
  pub own : own_at plan now m ≡ option_map (λ (answer : OwnAnswer). answer.payloads) fate.own

pub later_is : (choice : Choice) (others : List Choice) (halt : Halt) (first ordinal : ℕ) (fate : Fate) → fate_in others halt (suc first) ordinal ≡ Some fate
    → fate_in (choice ∷ others) halt first ordinal ≡ Some fate
later_is choice others halt first ordinal fate is = by (nat_eq ordinal first) refl where
  by : (b : Bool) → nat_eq ordinal first ≡ b → (if b then Some (fate_of choice) else fate_in others halt (suc first) ordinal) ≡ Some fate
  by true same =
      let at : ordinal ≡ first = eqb-true ordinal first same in
      none_some (fate_in others halt (suc first) ordinal) fate (fate_before others halt (suc first) ordinal (omega (arith, at))) is
  by false other = is

-- and a story its keys
abbrev pub IsKeyedBy : (keys : (number : ℕ) → Key) → Choice → Type 0
IsKeyedBy keys (Goes route keyed) = AreKeyed keyed keys
IsKeyedBy keys (Answers payloads) = Unit {0}

pub told_keyed : (told : (number : ℕ) → Option Key) (keys : (number : ℕ) → Key) → ((number : ℕ) (key : Key) → told number ≡ Some key → keys number ≡ key)
    → (choice : Choice) → IsToldBy told choice → IsKeyedBy keys choice
told_keyed told keys fits (Goes route keyed) is =
    All-weaker (λ (one : Keyed). told one.number ≡ Some one.key) (λ (one : Keyed). keys one.number ≡ one.key) (λ one has. fits one.number one.key has) keyed is
told_keyed told keys fits (Answers payloads) is = tt

-- of none there is nothing to tell
pub none_told : (keys : (number : ℕ) → Option Key) (deeds : Deeds) → ((c : ClientNo) → deeds.calls c ≡ []) → AreToldBy keys deeds
none_told keys deeds none c = subst (λ (choices : List Choice). All (IsToldBy keys) choices) (sym (none c)) (All-nil (IsToldBy keys))

pub untaken_none : (choices : List Choice) (halt : Halt) → taken_by choices halt ≡ 0 → choices ≡ []
untaken_none [] halt none = refl
untaken_none (choice ∷ others) halt none = absurd (omega (arith, none))

module _ (keys : (number : ℕ) → Key) (plan : Plan) (now : ℕ)
    (single : (m : MessageName) (route : Route) → plan.routes m ≡ Some route → route.mirror ≡ None) where
  chosen_by : (choice : Choice) (name : MessageName) → HasFate plan now name (fate_of choice) → IsKeyedBy keys choice → IsChosen choice keys plan now name
  chosen_by (Goes route keyed) name has keyed_so =
      (record { routed = has.routed; unanswered = has.own; single = single name route has.routed }, keyed_so)
  chosen_by (Answers payloads) name has keyed_so = record { unrouted = has.routed; answered = has.own }

  halted_by : (halt : Halt) (name : MessageName) (later : Option (Option Word)) → word_at plan now name.client ≡ said_at now (ends_by halt later)
      → (is_quitting halt ≡ true → HasFate plan now name no_fate) → IsHaltIn halt plan now name
  halted_by Waits name later says has = tt
  halted_by Rests name later says has = tt
  halted_by Quits name later says has = record { unrouted = (has refl).routed; unanswered = (has refl).own; wordless = says }
  halted_by Ends name later says has = says

  pub plan_has : (choices : List Choice) (halt : Halt) (name : MessageName) (later : Option (Option Word))
      → word_at plan now name.client ≡ said_at now (ends_by halt later)
      → ((ordinal : ℕ) (fate : Fate) → fate_in choices halt name.ordinal ordinal ≡ Some fate → HasFate plan now (record name { ordinal = ordinal }) fate)
      → All (IsKeyedBy keys) choices → PlanHas choices halt keys plan now name
  plan_has [] halt name later says has keyed =
      halted_by halt name later says
      (λ quits. has name.ordinal no_fate
      (λ i. if quits i && eq-eqb name.ordinal name.ordinal refl i then Some no_fate else None))
  plan_has (choice ∷ others) halt name later says has keyed = (
    chosen_by choice name
        (has name.ordinal (fate_of choice)
        (ap (λ (b : Bool). if b then Some (fate_of choice) else fate_in others halt (suc name.ordinal) name.ordinal) (eq-eqb name.ordinal name.ordinal refl)))
        (All-head (IsKeyedBy keys) choice others keyed),
    plan_has others halt (record name { ordinal = suc name.ordinal }) later says
        (λ ordinal fate is. has ordinal fate (later_is choice others halt name.ordinal ordinal fate is)) (All-tail (IsKeyedBy keys) choice others keyed),
  )
