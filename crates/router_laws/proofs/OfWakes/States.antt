-- What administrators work on, client by client, where several go on, one after the other.
use Rattle.std.specs.Prelude.{◌≡◌, ◌<◌, ◌≤◌, ◌||◌, ℕ, suc, Bool, true, false, All, nat_eq, nat_le, nat_lt, if◌then◌else◌, List, [], ◌∷◌, Option}
use Rattle.std.proofs.Common.{refl, sym, ap, ◌∙◌, subst, arith}
use Rattle.std.proofs.lemmas.Bool.{eqb-false, le-leb, lt-leb, ltb-false, ltb-true}
use Rattle.std.proofs.lemmas.List.Elements.{All-cons, All-head, All-nil, All-tail, All-weaker}
use Rattle.client_session.specs.Setups.{Setup as Service}
use Rattle.private_model.proofs.Maps.{same_number}
use Rattle.private_model.specs.Names.{ClientNo}
use Rattle.private_model.specs.Story.{Key, is_client}
use Rattle.core_tables.specs.Tables.{Tabled}
use Rattle.core_promises.specs.Administers.{Administered}
use Rattle.core_promises.specs.Judges.{Rulebook}
use Rattle.core_promises.specs.Ruled.{AreRuled, Ruling, from, until}
use Rattle.router_laws.specs.decisions.Rulings.{AreRuledAll}
use Rattle.router_laws.specs.wakes.Calling.{AllGoOn, AreInOrder, Caller, is_called}

abbrev Keys : Type 0
Keys = (key : ℕ) → Option Key

-- by what they work on before the client of a number
abbrev pub ruling_at : Rulebook → (since : ℕ) → Keys → (states : (number : ℕ) → Administered) → ClientNo → Ruling
ruling_at book since keys states c = record { book = book; since = since; keys = keys; was = states c.0; is = states (suc c.0) }

-- each is ruled so
abbrev pub AreRuledEach : Rulebook → (since : ℕ) → (keys : (key : ℕ) → Option Key) → (states : (number : ℕ) → Administered) → (callers : List Caller) → (service : Service) → (default : List ℕ)
    → (old new : Tabled) → AllGoOn callers service default old new → Type 0
AreRuledEach book since keys states [] service default old new so = Unit {0}
AreRuledEach book since keys states (caller ∷ others) service default old new so =
    AreRuled (ruling_at book since keys states caller.client) caller.choices caller.halt service default caller.client old so.1.turned so.1.turns
    × AreRuledEach book since keys states others service default so.0 new so.2

module _ (service : Service) (default : List ℕ) where
  abbrev pub state_of : (ruling : Ruling) (callers : List Caller) (old new : Tabled) (so : AllGoOn callers service default old new)
      → AreRuledAll ruling callers service default old new so → (number : ℕ) → Administered
  state_of ruling [] old new so ruled number = ruling.was
  state_of ruling (k ∷ ks) old new so ruled number =
      if nat_le number k.client.0 then ruling.was else state_of (from ruling ruled.0) ks so.0 new so.2 ruled.1.1 number

  module _ (ruling : Ruling) (k : Caller) (ks : List Caller) (old new : Tabled) (so : AllGoOn (k ∷ ks) service default old new)
      (ruled : AreRuledAll ruling (k ∷ ks) service default old new so) (number : ℕ) where
    abbrev rest : Administered
    rest = state_of (from ruling ruled.0) ks so.0 new so.2 ruled.1.1 number

    pub first_state : number ≤ k.client.0 → state_of ruling (k ∷ ks) old new so ruled number ≡ ruling.was
    first_state early = ap (λ (b : Bool). if b then ruling.was else rest) (le-leb number k.client.0 early)

    pub rest_state : k.client.0 < number → state_of ruling (k ∷ ks) old new so ruled number ≡ rest
    rest_state late = ap (λ (b : Bool). if b then ruling.was else rest) (lt-leb number k.client.0 late)

  -- before all of them, and behind all

  pub early_state : (ruling : Ruling) (callers : List Caller) (old new : Tabled) (so : AllGoOn callers service default old new)
      (ruled : AreRuledAll ruling callers service default old new so) (number : ℕ) → All (λ (k : Caller). number ≤ k.client.0) callers
      → state_of ruling callers old new so ruled number ≡ ruling.was
  early_state ruling [] old new so ruled number early = refl
  early_state ruling (k ∷ ks) old new so ruled number early =
      first_state ruling k ks old new so ruled number (All-head (λ (j : Caller). number ≤ j.client.0) k ks early)

  pub late_state : (ruling : Ruling) (callers : List Caller) (old new : Tabled) (so : AllGoOn callers service default old new)
      (ruled : AreRuledAll ruling callers service default old new so) (number : ℕ) → All (λ (k : Caller). k.client.0 < number) callers
      → state_of ruling callers old new so ruled number ≡ ruling.is
  late_state ruling [] old new so ruled number late = sym ruled
  late_state ruling (k ∷ ks) old new so ruled number late =
      rest_state ruling k ks old new so ruled number (All-head (λ (j : Caller). j.client.0 < number) k ks late)
      ∙ late_state (from ruling ruled.0) ks so.0 new so.2 ruled.1.1 number (All-tail (λ (j : Caller). j.client.0 < number) k ks late)

  -- nobody else changes it
  pub others_state : (ruling : Ruling) (callers : List Caller) (old new : Tabled) (so : AllGoOn callers service default old new)
      (ruled : AreRuledAll ruling callers service default old new so) (c : ClientNo) → is_called callers c ≡ false
      → state_of ruling callers old new so ruled (suc c.0) ≡ state_of ruling callers old new so ruled c.0
  others_state ruling [] old new so ruled c other = refl
  others_state ruling (k ∷ ks) old new so ruled c other =
      by (is_client c k.client) refl other (others_state (from ruling ruled.0) ks so.0 new so.2 ruled.1.1 c) where
        by : (b : Bool) → is_client c k.client ≡ b → (b || is_called ks c) ≡ false
            → (is_called ks c ≡ false → state_of (from ruling ruled.0) ks so.0 new so.2 ruled.1.1 (suc c.0) ≡ state_of (from ruling ruled.0) ks so.0 new so.2 ruled.1.1 c.0)
            → state_of ruling (k ∷ ks) old new so ruled (suc c.0) ≡ state_of ruling (k ∷ ks) old new so ruled c.0
        by true same none rest = absurd (let no : true ≡ false = none in cc)
        by false differs none rest = at (nat_lt c.0 k.client.0) refl where
          at : (b : Bool) → nat_lt c.0 k.client.0 ≡ b → state_of ruling (k ∷ ks) old new so ruled (suc c.0) ≡ state_of ruling (k ∷ ks) old new so ruled c.0
          at true is_less =
              let less : c.0 < k.client.0 = ltb-true c.0 k.client.0 is_less in
              first_state ruling k ks old new so ruled (suc c.0) (omega (arith, less)) ∙ sym (first_state ruling k ks old new so ruled c.0 (omega (arith, less)))
          at false not_less =
              let apart = eqb-false c.0 k.client.0 differs in
              let least : k.client.0 ≤ c.0 = ltb-false c.0 k.client.0 not_less in
              let more : k.client.0 < c.0 = omega (arith, apart, least) in
              rest_state ruling k ks old new so ruled (suc c.0) (omega (arith, more))
              ∙ rest none
              ∙ sym (rest_state ruling k ks old new so ruled c.0 more)

  -- each is ruled by what is worked on before it

  each_alike : (book : Rulebook) (since : ℕ) (keys : Keys) (one other : (number : ℕ) → Administered) (callers : List Caller) (old new : Tabled)
      (so : AllGoOn callers service default old new)
      → All (λ (k : Caller). (other k.client.0 ≡ one k.client.0) × (other (suc k.client.0) ≡ one (suc k.client.0))) callers
      → AreRuledEach book since keys one callers service default old new so → AreRuledEach book since keys other callers service default old new so
  each_alike book since keys one other [] old new so alike each = tt
  each_alike book since keys one other (k ∷ ks) old new so alike each =
      let first = All-head (λ (j : Caller). (other j.client.0 ≡ one j.client.0) × (other (suc j.client.0) ≡ one (suc j.client.0))) k ks alike in (
        subst (λ (a : Administered). AreRuled (record { book = book; since = since; keys = keys; was = other k.client.0; is = a }) k.choices k.halt service default k.client old so.1.turned so.1.turns)
            (sym first.1)
            (subst (λ (a : Administered). AreRuled (record { book = book; since = since; keys = keys; was = a; is = one (suc k.client.0) }) k.choices k.halt service default k.client old so.1.turned
            so.1.turns) (sym first.0) each.0),
        each_alike book since keys one other ks so.0 new so.2
            (All-tail (λ (j : Caller). (other j.client.0 ≡ one j.client.0) × (other (suc j.client.0) ≡ one (suc j.client.0))) k ks alike) each.1,
      )

  pub ruled_each : (ruling : Ruling) (callers : List Caller) (old new : Tabled) (so : AllGoOn callers service default old new)
      (ruled : AreRuledAll ruling callers service default old new so) → AreInOrder callers
      → AreRuledEach ruling.book ruling.since ruling.keys (state_of ruling callers old new so ruled) callers service default old new so
  ruled_each ruling [] old new so ruled order = tt
  ruled_each ruling (k ∷ ks) old new so ruled order =
      let next = state_of (from ruling ruled.0) ks so.0 new so.2 ruled.1.1 in
      let was_is : state_of ruling (k ∷ ks) old new so ruled k.client.0 ≡ ruling.was = first_state ruling k ks old new so ruled k.client.0 (omega arith) in
      let later : All (λ (j : Caller). suc k.client.0 ≤ j.client.0) ks =
      All-weaker (λ (j : Caller). k.client.0 < j.client.0) (λ (j : Caller). suc k.client.0 ≤ j.client.0) (λ j less. omega (arith, less)) ks order.0 in
      let then_is : state_of ruling (k ∷ ks) old new so ruled (suc k.client.0) ≡ ruled.0 =
      rest_state ruling k ks old new so ruled (suc k.client.0) (omega arith)
      ∙ early_state (from ruling ruled.0) ks so.0 new so.2 ruled.1.1 (suc k.client.0) later in (
        subst (λ (a : Administered). AreRuled (record ruling { was = state_of ruling (k ∷ ks) old new so ruled k.client.0; is = a }) k.choices k.halt service default
            k.client old so.1.turned so.1.turns) (sym then_is)
            (subst (λ (a : Administered). AreRuled (record ruling { was = a; is = ruled.0 }) k.choices k.halt service default k.client old so.1.turned so.1.turns)
            (sym was_is) ruled.1.0),
        each_alike ruling.book ruling.since ruling.keys next (state_of ruling (k ∷ ks) old new so ruled) ks so.0 new so.2
            (All-weaker (λ (j : Caller). k.client.0 < j.client.0)
            (λ (j : Caller). (state_of ruling (k ∷ ks) old new so ruled j.client.0 ≡ next j.client.0)
            × (state_of ruling (k ∷ ks) old new so ruled (suc j.client.0) ≡ next (suc j.client.0)))
            (λ j less.
            (rest_state ruling k ks old new so ruled j.client.0 less, rest_state ruling k ks old new so ruled (suc j.client.0) (omega (arith, less)))) ks order.0)
            (ruled_each (from ruling ruled.0) ks so.0 new so.2 ruled.1.1 order.1),
      )

-- each that is called is
pub called_all : (callers : List Caller) → All (λ (k : Caller). is_called callers k.client ≡ true) callers
called_all [] = All-nil (λ (k : Caller). is_called [] k.client ≡ true)
called_all (k ∷ ks) =
    All-cons (λ (j : Caller). is_called (k ∷ ks) j.client ≡ true) k ks (ap (λ (b : Bool). b || is_called ks k.client) (same_number k.client.0))
    (All-weaker (λ (j : Caller). is_called ks j.client ≡ true) (λ (j : Caller). is_called (k ∷ ks) j.client ≡ true)
    (λ j called. or_later (is_client j.client k.client) called) ks (called_all ks)) where
      or_later : (b : Bool) {x : Bool} → x ≡ true → (b || x) ≡ true
      or_later true later = refl
      or_later false later = later
