-- The values of digits, one digit further.
use Rattle.std.proofs.Common.{◌≡◌, ℕ, ◌^◌, ◌<◌, ◌≤◌, true, false, nat_lt, List, [], ◌∷◌, Some, None, refl, ◌∙◌, inl, inr, arith}
use Rattle.std.specs.Prelude.{fold}
use Rattle.std.proofs.lemmas.Bool.{cases_Bool, ltb-false, lt-ltb, le-ltb}
use Rattle.std.proofs.lemmas.Option.{none-some}
use Rattle.mx_base.specs.Decimal.{with_digit, in_64_bits}

grows : (digits : List ℕ) (n : ℕ) → n ≤ fold with_digit n digits
grows [] n = omega arith
grows (d ∷ digits) n = let more = grows digits (with_digit n d) in omega arith

none_above : (n : ℕ) → None ≡ in_64_bits n → 2 ^ 64 ≤ n
none_above n none = elim (cases_Bool (nat_lt n (2 ^ 64))) [
  | inl below ↦ absurd (let held_n : in_64_bits n ≡ Some n = rw below refl in none-some n (none ∙ held_n))
  | inr above ↦ ltb-false n (2 ^ 64) above
]

-- digits whose value so far 64 bits don't hold
pub too_large : (n : ℕ) (digits : List ℕ) (total : ℕ) → None ≡ in_64_bits n → fold with_digit n digits ≡ total → None ≡ in_64_bits total
too_large n digits total none is =
    let large = none_above n none in
    let more = grows digits n in
    let above : nat_lt total (2 ^ 64) ≡ false = le-ltb total (2 ^ 64) (omega arith) in
    rw above refl

pub held : (n total : ℕ) → n < 2 ^ 64 → n ≡ total → Some n ≡ in_64_bits total
held n total below is =
    let test : nat_lt total (2 ^ 64) ≡ true = lt-ltb total (2 ^ 64) (omega arith) in
    rw (test, is) refl
