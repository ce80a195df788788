-- The rounds of the hostgroups of the rows so far.
use Rattle.std.proofs.Common.{◌≡◌, ℕ, zero, suc, ◌+◌, ◌<◌, ◌≤◌, true, false, eqb, List, [], ◌∷◌, ◌++◌, length, take, get_or, Some, is_some, refl, sym, ◌∙◌, inl, inr, arith}
use Rattle.std.specs.Prelude.{slice_get}
use Rattle.std.specs.List.{list_any}
use Rattle.std.proofs.lemmas.Bool.{both_ways, cases_Bool, eqb-true, false_from_ne_true, or_parts, or_left, or_right}
use Rattle.std.proofs.lemmas.List.{take_all}
use Rattle.std.proofs.lemmas.List.Folds.{list_any_more}
use Rattle.std.proofs.lemmas.List.Sums.{sum_by-cons}
use Rattle.mx_base.specs.declared.names.Hostgroup.{Hostgroup}
use Rattle.mx_base.specs.declared.names.ServerId.{ServerId}
use Rattle.hostgroups.specs.declared.row.ServerRow.{ServerRow}
use Rattle.hostgroups.specs.Rounds.{AreFull, Coming, place_of, turns_of}
use Rattle.hostgroups.specs.Turns.{IsFullRound, is_in, row_at, weight_of_all, weight_there}
use Rattle.hostgroups.proofs.Lookups.{absent, has-last, not_some, turns_of-last}
use Rattle.hostgroups.proofs.Evenness.{even_none}
use Rattle.hostgroups.proofs.Spread.{spread_none}

-- each hostgroup of the rows so far has a round, and each round is full
pub record Filled (rows : List ServerRow) (i : ℕ) (rounds : List Coming) : Type 0 where
  pub seen : (hostgroup : Hostgroup) → list_any (is_in hostgroup) (take i rows) ≡ true → is_some (place_of rounds hostgroup) ≡ true
  pub full : (hostgroup : Hostgroup) → is_some (place_of rounds hostgroup) ≡ true → IsFullRound rows hostgroup (turns_of rounds hostgroup)

pub filled_none : (rows : List ServerRow) → Filled rows 0 []
filled_none rows = record { seen = λ hostgroup h. h; full = λ hostgroup h. absurd cc }

has_same : (rounds : List Coming) (a b : Hostgroup) → eqb a.0 b.0 ≡ true → is_some (place_of rounds a) ≡ true
    → is_some (place_of rounds b) ≡ true
has_same rounds a b same has =
    let one : a.0 ≡ b.0 = eqb-true a.0 b.0 same in
    rw one at has

seen_more : (rows : List ServerRow) (i : ℕ) (d : ServerRow) (rounds : List Coming) → i < length rows
    → ((hostgroup : Hostgroup) → list_any (is_in hostgroup) (take i rows) ≡ true → is_some (place_of rounds hostgroup) ≡ true)
    → is_some (place_of rounds (get_or rows i d).hostgroup) ≡ true
    → (hostgroup : Hostgroup) → list_any (is_in hostgroup) (take (i + 1) rows) ≡ true → is_some (place_of rounds hostgroup) ≡ true
seen_more rows i d rounds h seen has hostgroup any =
    elim (cases_Bool (list_any (is_in hostgroup) (take i rows))) [
      | inl before ↦ seen hostgroup before
      | inr not ↦
          let here : is_in hostgroup (get_or rows i d) ≡ true = rw (list_any_more (is_in hostgroup) rows i d h, not) at any in
          has_same rounds (get_or rows i d).hostgroup hostgroup here has
    ]

-- a row of a hostgroup that has its round
pub filled_more : (rows : List ServerRow) (i : ℕ) (d : ServerRow) (rounds : List Coming) → i < length rows → Filled rows i rounds
    → is_some (place_of rounds (get_or rows i d).hostgroup) ≡ true → Filled rows (i + 1) rounds
filled_more rows i d rounds h filled has = record {
  seen = λ hostgroup any. seen_more rows i d rounds h filled.seen has hostgroup any;
  full = filled.full;
}

seen_last : (rows : List ServerRow) (i : ℕ) (d : ServerRow) (rounds : List Coming) (round : Coming) → i < length rows
    → ((hostgroup : Hostgroup) → list_any (is_in hostgroup) (take i rows) ≡ true → is_some (place_of rounds hostgroup) ≡ true)
    → round.hostgroup ≡ (get_or rows i d).hostgroup
    → (hostgroup : Hostgroup) → list_any (is_in hostgroup) (take (i + 1) rows) ≡ true → is_some (place_of (rounds ++ round ∷ []) hostgroup)
    ≡ true
seen_last rows i d rounds round h seen group hostgroup any =
    has-last rounds round hostgroup
    ∙ elim (cases_Bool (list_any (is_in hostgroup) (take i rows))) [
      | inl before ↦ or_left (is_some (place_of rounds hostgroup)) (eqb round.hostgroup.0 hostgroup.0) (seen hostgroup before)
      | inr not ↦
          let here : is_in hostgroup (get_or rows i d) ≡ true = rw (list_any_more (is_in hostgroup) rows i d h, not) at any in
          or_right (is_some (place_of rounds hostgroup)) (eqb round.hostgroup.0 hostgroup.0) (rw group here)
    ]

full_same : (rows : List ServerRow) (a b : Hostgroup) (turns : List ServerId) → a.0 ≡ b.0 → IsFullRound rows a turns
    → IsFullRound rows b turns
full_same rows a b turns one full = record {
  as_often = λ server. rw one at (full.as_often server);
  whole = rw one at full.whole;
  spread = full.spread;
  even = full.even;
}

full_last : (rows : List ServerRow) (rounds : List Coming) (round : Coming)
    → ((hostgroup : Hostgroup) → is_some (place_of rounds hostgroup) ≡ true → IsFullRound rows hostgroup (turns_of rounds hostgroup))
    → IsFullRound rows round.hostgroup round.turns
    → (hostgroup : Hostgroup) → is_some (place_of (rounds ++ round ∷ []) hostgroup) ≡ true → IsFullRound rows hostgroup
    (turns_of (rounds ++ round ∷ []) hostgroup)
full_last rows rounds round full is_full hostgroup has =
    elim (cases_Bool (is_some (place_of rounds hostgroup))) [
      | inl before ↦ rw (turns_of-last rounds round hostgroup, before) (full hostgroup before)
      | inr not ↦
          let same : eqb round.hostgroup.0 hostgroup.0 ≡ true = rw not at (sym (has-last rounds round hostgroup) ∙ has) in
          let one : round.hostgroup.0 ≡ hostgroup.0 = eqb-true round.hostgroup.0 hostgroup.0 same in
          rw (turns_of-last rounds round hostgroup, not, same) (full_same rows round.hostgroup hostgroup round.turns one is_full)
    ]

-- a row of a hostgroup that gets its round
pub filled_last : (rows : List ServerRow) (i : ℕ) (d : ServerRow) (rounds : List Coming) (round : Coming) → i < length rows
    → Filled rows i rounds
    → round.hostgroup ≡ (get_or rows i d).hostgroup → IsFullRound rows round.hostgroup round.turns → Filled rows (i + 1)
    (rounds ++ round ∷ [])
filled_last rows i d rounds round h filled group is_full = record {
  seen = seen_last rows i d rounds round h filled.seen group;
  full = full_last rows rounds round filled.full is_full;
}

no_weight : (hostgroup : Hostgroup) (rows : List ServerRow) (n : ℕ) → list_any (is_in hostgroup) rows ≡ false
    → weight_there hostgroup (slice_get rows n) ≡ 0
no_weight hostgroup [] n none = refl
no_weight hostgroup (row ∷ rows) zero none = let other : is_in hostgroup row ≡ false = (or_parts _ _ none).0 in rw other refl
no_weight hostgroup (row ∷ rows) (suc n) none = no_weight hostgroup rows n (or_parts _ _ none).1

nowhere : (hostgroup : Hostgroup) (rows : List ServerRow) (n : ℕ) → list_any (is_in hostgroup) rows ≡ false
    → weight_there hostgroup (row_at rows n) ≡ 0
nowhere hostgroup rows zero none = refl
nowhere hostgroup rows (suc n) none = no_weight hostgroup rows n none

weightless : (hostgroup : Hostgroup) (rows : List ServerRow) → list_any (is_in hostgroup) rows ≡ false → 0 ≡ weight_of_all rows hostgroup
weightless hostgroup [] none = refl
weightless hostgroup (row ∷ rows) none =
    let other : is_in hostgroup row ≡ false = (or_parts _ _ none).0 in
    let here : weight_there hostgroup (Some row) ≡ 0 = rw other refl in
    omega (
      arith,
      here,
      weightless hostgroup rows (or_parts _ _ none).1,
      sum_by-cons (λ (r : ServerRow). weight_there hostgroup (Some r)) row rows,
    )

full_none : (rows : List ServerRow) (hostgroup : Hostgroup) → list_any (is_in hostgroup) rows ≡ false → IsFullRound rows hostgroup []
full_none rows hostgroup none = record {
  as_often = λ server. sym (nowhere hostgroup rows server.0 none);
  whole = weightless hostgroup rows none;
  spread = spread_none;
  even = even_none;
}

-- at the end each round is full, and a hostgroup without one has no row
pub filled_all : (rows : List ServerRow) (i : ℕ) (rounds : List Coming) → length rows ≤ i → Filled rows i rounds → AreFull rows rounds
filled_all rows i rounds h filled = λ hostgroup.
    elim (cases_Bool (is_some (place_of rounds hostgroup))) [
      | inl has ↦ filled.full hostgroup has
      | inr not ↦
          let whole : take i rows ≡ rows = take_all i rows h in
          let none : list_any (is_in hostgroup) rows ≡ false = false_from_ne_true _
          (λ any. both_ways _ not (filled.seen hostgroup (rw whole any))) in
          let empty : turns_of rounds hostgroup ≡ [] = (absent rounds hostgroup [] (not_some _ not)).0 in
          rw empty (full_none rows hostgroup none)
    ]
