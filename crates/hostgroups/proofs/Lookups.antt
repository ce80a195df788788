-- The rounds of hostgroups, found and changed.
use Rattle.std.proofs.Common.{◌≡◌, ℕ, zero, suc, ◌+◌, ◌<◌, ◌≤◌, Bool, true, false, ◌||◌, cond, eqb, List, [], ◌∷◌, ◌++◌, length, get_or, set, Option, Some, None, is_some, ◌⊎◌, refl, sym, ap, ◌∙◌, inl, inr, arith}
use Rattle.std.specs.List.{position_from}
use Rattle.std.specs.Option.{option_or}
use Rattle.std.proofs.lemmas.Bool.{cases_Bool, eqb-true}
use Rattle.mx_base.specs.declared.names.Hostgroup.{Hostgroup}
use Rattle.mx_base.specs.declared.names.ServerId.{ServerId}
use Rattle.hostgroups.specs.Rounds.{Coming, is_of, place_of, turns_of, with_turns}

place-last : {X : Type 0} (test : X → Bool) (n : ℕ) (xs : List X) (last : X)
    → position_from test n (xs ++ last ∷ []) ≡ option_or (position_from test n xs) (cond (test last) (Some (n + length xs)) None)
place-last test n [] last = ap (λ (k : ℕ). cond (test last) (Some k) None) (omega arith)
place-last test n (first ∷ xs) last =
    elim (cases_Bool (test first)) [
      | inl here ↦ rw here refl
      | inr not ↦ rw not (place-last test (n + 1) xs last ∙ ap
          (λ (k : ℕ). option_or (position_from test (n + 1) xs) (cond (test last) (Some k) None)) (omega arith))
    ]

or_none : {X : Type 0} (o : Option X) → option_or o None ≡ o
or_none None = refl
or_none (Some x) = refl

pub not_some : {X : Type 0} (o : Option X) → is_some o ≡ false → o ≡ None
not_some None h = refl
not_some (Some x) h = absurd cc

-- a round behind those of other hostgroups
pub place_of-last : (rounds : List Coming) (last : Coming) (q : Hostgroup) (before after : Option ℕ)
    → is_some (place_of rounds last.hostgroup) ≡ false → before ≡ place_of rounds q
    → after ≡ cond (eqb last.hostgroup.0 q.0) (Some (length rounds)) before → after ≡ place_of (rounds ++ last ∷ []) q
place_of-last rounds last q before after apart had has =
    let new : place_of rounds last.hostgroup ≡ None = not_some _ apart in
    elim (cases_Bool (eqb last.hostgroup.0 q.0)) [
      | inl same ↦
          let one : last.hostgroup.0 ≡ q.0 = eqb-true _ _ same in
          let absent : position_from (λ (c : Coming). eqb c.hostgroup.0 q.0) 0 rounds ≡ None = rw one at new in
          has ∙ rw same (sym (place-last (is_of q) 0 rounds last ∙ rw (absent, same) (ap (λ (k : ℕ). Some k) (omega arith))))
      | inr other ↦
          has ∙ rw other (had ∙ sym (place-last (is_of q) 0 rounds last ∙ rw other (or_none (place_of rounds q))))
    ]

turns-last : (n : ℕ) (rounds : List Coming) (last : Coming) (q : Hostgroup)
    → turns_of (rounds ++ last ∷ []) q ≡ cond (is_some (position_from (is_of q) n rounds)) (turns_of rounds q)
    (cond (eqb last.hostgroup.0 q.0) last.turns [])
turns-last n [] last q = refl
turns-last n (first ∷ rounds) last q =
    elim (cases_Bool (is_of q first)) [
      | inl here ↦ rw here refl
      | inr not ↦ rw not (turns-last (n + 1) rounds last q)
    ]

pub turns_of-last : (rounds : List Coming) (last : Coming) (q : Hostgroup)
    → turns_of (rounds ++ last ∷ []) q ≡ cond (is_some (place_of rounds q)) (turns_of rounds q)
    (cond (eqb last.hostgroup.0 q.0) last.turns [])
turns_of-last rounds last q = turns-last 0 rounds last q

absent_from : (n : ℕ) (rounds : List Coming) (q : Hostgroup) (turns : List ServerId) → position_from (is_of q) n rounds ≡ None
    → (turns_of rounds q ≡ []) × (with_turns rounds q turns ≡ rounds)
absent_from n [] q turns none = (refl, refl)
absent_from n (first ∷ rounds) q turns none =
    elim (cases_Bool (is_of q first)) [
      | inl here ↦ let some : Some n ≡ None = rw here at none in absurd cc
      | inr not ↦
          let rest = absent_from (n + 1) rounds q turns (rw not at none) in
          (rw not rest.0, rw not (ap (λ (others : List Coming). first ∷ others) rest.1))
    ]

pub absent : (rounds : List Coming) (q : Hostgroup) (turns : List ServerId) → place_of rounds q ≡ None
    → (turns_of rounds q ≡ []) × (with_turns rounds q turns ≡ rounds)
absent rounds q turns none = absent_from 0 rounds q turns none

from_le : {X : Type 0} (test : X → Bool) (n : ℕ) (xs : List X) (k : ℕ) → position_from test n xs ≡ Some k → n ≤ k
from_le test n [] k some = absurd cc
from_le test n (x ∷ xs) k some =
    elim (cases_Bool (test x)) [
      | inl here ↦ let same : Some n ≡ Some k = rw here at some in let one : n ≡ k = cc in omega (arith, one)
      | inr not ↦ let rest = from_le test (n + 1) xs k (rw not at some) in omega (arith, rest)
    ]

-- the round at its place
pub record Placed (rounds : List Coming) (q : Hostgroup) (at : ℕ) (round : Coming) : Type 0 where
  pub within : at < length rounds
  pub turns : turns_of rounds q ≡ round.turns
  pub with : (turns : List ServerId) → with_turns rounds q turns ≡ set rounds at (record round { turns = turns })

placed_from : (n : ℕ) (rounds : List Coming) (q : Hostgroup) (at : ℕ) (d : Coming) → position_from (is_of q) n rounds ≡ Some (n + at)
    → Placed rounds q at (get_or rounds at d)
placed_from n [] q at d some = absurd cc
placed_from n (first ∷ rounds) q zero d some =
    elim (cases_Bool (is_of q first)) [
      | inl here ↦ record { within = omega arith; turns = rw here refl; with = λ turns. rw here refl }
      | inr not ↦ let later : position_from (is_of q) (n + 1) rounds ≡ Some (n + 0) = rw not at some in absurd
          (omega (arith, from_le (is_of q) (n + 1) rounds (n + 0) later))
    ]
placed_from n (first ∷ rounds) q (suc at) d some =
    elim (cases_Bool (is_of q first)) [
      | inl here ↦ let same : Some n ≡ Some (n + suc at) = rw here at some in let one : n ≡ n + suc at = cc in absurd (omega (arith, one))
      | inr not ↦
          let later : position_from (is_of q) (n + 1) rounds ≡ Some (n + suc at) = rw not at some in
          let rest = placed_from (n + 1) rounds q at d (later ∙ ap (λ (k : ℕ). Some k) (omega arith)) in
          record {
            within = omega (arith, rest.within);
            turns = rw not rest.turns;
            with = λ turns. rw not
                (ap (λ (others : List Coming). first ∷ others) (rest.with turns));
          }
    ]

pub placed : (rounds : List Coming) (q : Hostgroup) (at : ℕ) (d : Coming) → place_of rounds q ≡ Some at
    → Placed rounds q at (get_or rounds at d)
placed rounds q at d some = placed_from 0 rounds q at d (some ∙ ap (λ (k : ℕ). Some k) (omega arith))

or_some : (o : Option ℕ) (n : ℕ) → is_some (option_or o (Some n)) ≡ (is_some o || true)
or_some None n = refl
or_some (Some x) n = refl

or_false : (b : Bool) → b ≡ (b || false)
or_false true = refl
or_false false = refl

pub has-last : (rounds : List Coming) (last : Coming) (q : Hostgroup)
    → is_some (place_of (rounds ++ last ∷ []) q) ≡ (is_some (place_of rounds q) || eqb last.hostgroup.0 q.0)
has-last rounds last q =
    ap (λ (o : Option ℕ). is_some o) (place-last (is_of q) 0 rounds last)
    ∙ elim (cases_Bool (eqb last.hostgroup.0 q.0)) [
      | inl same ↦ rw same (or_some (place_of rounds q) (0 + length rounds))
      | inr apart ↦ rw apart (ap (λ (o : Option ℕ). is_some o) (or_none (place_of rounds q)) ∙ or_false (is_some (place_of rounds q)))
    ]

-- the round of a look-up in the code
pub found : (inside now : List Coming) (q : Hostgroup) (at : ℕ) (round : Coming) → inside ≡ now → Some at ≡ place_of now q
    → round ≡ get_or inside at round → Placed now q at round
found inside now q at round same some is =
    let d : Placed now q at (get_or now at round) = placed now q at round (sym some) in
    let here : round ≡ get_or now at round = rw same at is in
    rw (← here) at d

place_kept : (n : ℕ) (rounds : List Coming) (q : Hostgroup) (turns : List ServerId) (other : Hostgroup)
    → position_from (is_of other) n (with_turns rounds q turns) ≡ position_from (is_of other) n rounds
place_kept n [] q turns other = refl
place_kept n (first ∷ rounds) q turns other =
    elim (cases_Bool (is_of q first)) [
      | inl here ↦ rw here refl
      | inr not ↦ elim (cases_Bool (is_of other first)) [
        | inl that ↦ rw (not, that) refl
        | inr apart ↦ rw (not, apart)
            (place_kept (n + 1) rounds q turns other)
      ]
    ]

-- a change of the turns leaves each round at its place
pub place_of-with_turns : (rounds : List Coming) (q : Hostgroup) (turns : List ServerId) (other : Hostgroup)
    → place_of (with_turns rounds q turns) other ≡ place_of rounds other
place_of-with_turns rounds q turns other = place_kept 0 rounds q turns other

-- and leaves a hostgroup the turns that it had, but for the one whose turns are written
pub either-with_turns : (rounds : List Coming) (q : Hostgroup) (turns : List ServerId) (other : Hostgroup)
    → (turns_of (with_turns rounds q turns) other ≡ turns_of rounds other)
    ⊎ ((turns_of (with_turns rounds q turns) other ≡ turns) × (turns_of rounds other ≡ turns_of rounds q))
either-with_turns [] q turns other = inl refl
either-with_turns (first ∷ rounds) q turns other =
    elim (cases_Bool (is_of q first)) [
      | inl here ↦ elim (cases_Bool (is_of other first)) [
        | inl that ↦ inr (rw (here, that) refl, rw (here, that) refl)
        | inr apart ↦ inl (rw (here, apart) refl)
      ]
      | inr not ↦ elim (cases_Bool (is_of other first)) [
        | inl that ↦ inl (rw (not, that) refl)
        | inr apart ↦ elim (either-with_turns rounds q turns other) [
          | inl kept ↦ inl (rw (not, apart) kept)
          | inr written ↦ inr (rw (not, apart) written.0, rw (not, apart) written.1)
        ]
      ]
    ]

-- the turns that were written are those that come
pub turns_of-with_turns : (rounds : List Coming) (q : Hostgroup) (turns : List ServerId) → 0 < length (turns_of rounds q)
    → turns_of (with_turns rounds q turns) q ≡ turns
turns_of-with_turns [] q turns h = absurd (omega arith)
turns_of-with_turns (first ∷ rounds) q turns h =
    elim (cases_Bool (is_of q first)) [
      | inl here ↦ rw (here, here) refl
      | inr not ↦ rw (not, not) (turns_of-with_turns rounds q turns (rw not at h))
    ]

pub within : (inside now : List Coming) (q : Hostgroup) (at : ℕ) → inside ≡ now → Some at ≡ place_of now q → at < length inside
within inside now q at same some = rw same (placed now q at (record { hostgroup = q; turns = [] }) (sym some)).within
