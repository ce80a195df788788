-- The number in the row of an answer, by the first bytes of that row.
use Rattle.std.specs.Prelude.{◌≡◌, ◌<◌, ◌≤◌, ℕ, ◌+◌, ◌*◌, ◌-◌, ◌^◌, Bool, true, false, nat_eq, nat_lt, List, [], ◌∷◌, ◌++◌, fold, length, min, take, drop, Option, Some, None, if◌then◌else◌, refl}
use Rattle.std.proofs.Common.{sym, ap, ◌∙◌, subst, inl, inr, arith, length-append}
use Rattle.std.proofs.Math.Nat.{mul_assoc, pow-le-pow_right, pow-succ'}
use Rattle.std.proofs.lemmas.Bool.{and_parts, cases_Bool, cases_lt, eqb-false, leb-true, le-ltb, not-true}
use Rattle.std.proofs.lemmas.List.{drop-append-le, length-drop, length-take-le, take-append-drop, take-append-le, take_all}
use Rattle.mx_base.specs.Decimal.{decimal_value, is_decimal, is_digit, number, with_digit}
use Rattle.mx_base.specs.Fields.{lenenc_at, lenenc_by, number_at, value_to}
use Rattle.mx_base.specs.declared.fields.Field.{Field}
use Rattle.mx_base.specs.declared.fields.Field.TheVariants.{Value, Null, Short, Bad}
use Rattle.reply_relay.specs.Cells.{cell_number, fourth, number_behind, number_in}
use Rattle.reply_relay.specs.declared.cell.Spot.TheVariants.{First}
use Rattle.server_rule.specs.Replies.{number_in_row, number_spelled, one_number, text_behind}

-- What bytes begin with is what all that follows them leave there.

number-front : (size at : ℕ) (a b : List ℕ) → at + size ≤ length a → number_at size at (a ++ b) ≡ number_at size at a
number-front size at a b room =
    let all : nat_lt (length (a ++ b)) (at + size) ≡ false = le-ltb _ _ (omega (arith, length-append a b)) in
    let front : nat_lt (length a) (at + size) ≡ false = le-ltb _ _ room in
    let text : take size (drop at (a ++ b)) ≡ take size (drop at a) =
    ap (take size) (drop-append-le at a b (omega arith)) ∙ take-append-le size (drop at a) b (omega (arith, length-drop at a)) in
    rw (all, front, text) refl

lenenc-front : (a b : List ℕ) → 9 ≤ length a → lenenc_at 0 (a ++ b) ≡ lenenc_at 0 a
lenenc-front a b long = ap (lenenc_by 0 (a ++ b)) (number-front 1 0 a b (omega arith)) ∙ by (number_at 1 0 a) where
  by : (o : Option ℕ) → lenenc_by 0 (a ++ b) o ≡ lenenc_by 0 a o
  by None = refl
  by (Some first) = rw (number-front 2 1 a b (omega arith), number-front 3 1 a b (omega arith), number-front 8 1 a b (omega arith)) refl

-- a length has nine bytes at most

ends_at : (end : ℕ) (o : Option ℕ) (size next : ℕ) → value_to end o ≡ Value size next → next ≡ end
ends_at end None size next is = absurd cc
ends_at end (Some n) size next is = cc

next_by : (small null two three eight : Bool) (first : ℕ) (a b c : Option ℕ) (size next : ℕ)
    → (if small then Value first 1 else if null then Null else if two then value_to 3 a else if three then value_to 4 b
    else if eight then value_to 9 c else Bad) ≡ Value size next → next ≤ 9
next_by true null two three eight first a b c size next is = let at : 1 ≡ next = cc in omega (arith, at)
next_by false true two three eight first a b c size next is = absurd cc
next_by false false true three eight first a b c size next is = omega (arith, ends_at 3 a size next is)
next_by false false false true eight first a b c size next is = omega (arith, ends_at 4 b size next is)
next_by false false false false true first a b c size next is = omega (arith, ends_at 9 c size next is)
next_by false false false false false first a b c size next is = absurd cc

next_small : (bytes : List ℕ) (o : Option ℕ) (size next : ℕ) → lenenc_by 0 bytes o ≡ Value size next → next ≤ 9
next_small bytes None size next is = absurd cc
next_small bytes (Some first) size next is =
    next_by (nat_lt first 251) (nat_eq first 251) (nat_eq first 252) (nat_eq first 253) (nat_eq first 254) first (number_at 2 1 bytes) (number_at 3 1 bytes)
    (number_at 8 1 bytes) size next is

-- 21 digits, of which the first is no 0, are more than 64 bits hold

grows : (digits : List ℕ) (n m : ℕ) → m ≤ n → m * 10 ^ length digits ≤ fold with_digit n digits
grows [] n m h = omega arith
grows (d ∷ digits) n m h =
    let more : m * 10 ≤ with_digit n d = omega (arith, h) in
    let rest = grows digits (with_digit n d) (m * 10) more in
    rw (pow-succ' 10 (length digits), ← mul_assoc m 10 (10 ^ length digits)) rest

large : (b c : ℕ) (text : List ℕ) → 19 ≤ length text → is_decimal (b ∷ c ∷ text) ≡ true → 2 ^ 64 ≤ decimal_value (b ∷ c ∷ text)
large b c text long is =
    let parts = and_parts _ _ is in
    let ends = and_parts _ _ (and_parts _ _ parts.0).0 in
    let least : 48 ≤ b = leb-true 48 b ends.0 in
    let some : b ≡ 48 → ⊥ = eqb-false b 48 (not-true _ parts.1) in
    let first : 1 ≤ with_digit 0 b = omega (arith, least, some) in
    let power : 10 ^ 20 ≤ 10 ^ length (c ∷ text) = pow-le-pow_right {n = 10} (omega arith) {i = 20} {j = length (c ∷ text)} (omega arith) in
    omega (arith, power, grows (c ∷ text) (with_digit 0 b) 1 first)

long_none : (text : List ℕ) → 21 ≤ length text → number_spelled text ≡ None
long_none [] long = absurd (omega arith)
long_none (b ∷ []) long = absurd (omega arith)
long_none (b ∷ c ∷ text) long = elim (cases_Bool (is_decimal (b ∷ c ∷ text))) [
  | inl is ↦
      let above : nat_lt (decimal_value (b ∷ c ∷ text)) (2 ^ 64) ≡ false = le-ltb _ _ (large b c text (omega arith) is) in
      rw (is, above) refl
  | inr isnt ↦ rw isnt refl
]

-- The cell of a row.

long_front : (n m : ℕ) (xs : List ℕ) → m ≤ n → m ≤ length xs → m ≤ length (take n xs)
long_front n m xs few enough = elim (cases_lt n (length xs)) [
  | inl less ↦ omega (arith, length-take-le n xs (omega arith))
  | inr all ↦ omega (arith, ap length (take_all n xs all))
]

same : (field : Field) (row : List ℕ) → number_behind field row ≡ text_behind field row
unfolding number
same (Value size next) row = refl
same Null row = refl
same Short row = refl
same Bad row = refl

value_cut : (size next : ℕ) (a b : List ℕ) → 30 ≡ length a → next ≤ 9
    → number_spelled (take size (drop next a)) ≡ number_spelled (take size (drop next (a ++ b)))
value_cut size next a b long few =
    let rest : drop next (a ++ b) ≡ drop next a ++ b = drop-append-le next a b (omega arith) in
    let left : length (drop next a) ≡ length a - next = length-drop next a in
    elim (cases_lt (length (drop next a)) size) [
      | inl more ↦
          let whole : length (drop next a ++ b) ≡ length (drop next a) + length b = length-append (drop next a) b in
          long_none (take size (drop next a)) (long_front size 21 (drop next a) (omega arith) (omega arith))
          ∙ sym (ap (λ (ys : List ℕ). number_spelled (take size ys)) rest
          ∙ long_none (take size (drop next a ++ b)) (long_front size 21 (drop next a ++ b) (omega arith) (omega arith)))
      | inr all ↦ sym (ap (λ (ys : List ℕ). number_spelled (take size ys)) rest ∙ ap number_spelled (take-append-le size (drop next a) b all))
    ]

field_cut : (field : Field) (a b : List ℕ) → 30 ≡ length a → ((size next : ℕ) → field ≡ Value size next → next ≤ 9)
    → text_behind field a ≡ text_behind field (a ++ b)
field_cut (Value size next) a b long small = value_cut size next a b long (small size next refl)
field_cut Null a b long small = refl
field_cut Short a b long small = refl
field_cut Bad a b long small = refl

front_cut : (a b : List ℕ) → 30 ≡ length a → number_in_row a ≡ number_in_row (a ++ b)
front_cut a b long =
    field_cut (lenenc_at 0 a) a b long (next_small a (number_at 1 0 a))
    ∙ ap (λ (f : Field). text_behind f (a ++ b)) (sym (lenenc-front a b (omega arith)))

row_cut : (row : List ℕ) → number_in (take 30 row) ≡ number_in_row row
row_cut row = elim (cases_lt 30 (length row)) [
  | inl long ↦
      same (lenenc_at 0 (take 30 row)) (take 30 row)
      ∙ front_cut (take 30 row) (drop 30 row) (sym (length-take-le 30 row (omega arith))) ∙ ap number_in_row (take-append-drop 30 row)
  | inr short ↦ ap number_in (take_all 30 row short) ∙ same (lenenc_at 0 row) row
]

-- by how many payloads there are
pub number_read : (payloads : List (List ℕ))
    → cell_number (record { spot = First; messages = min (length payloads) 6; text = take 30 (fourth payloads) }) ≡ one_number payloads
unfolding one_number
number_read [] = refl
number_read (a ∷ []) = refl
number_read (a ∷ b ∷ []) = refl
number_read (a ∷ b ∷ c ∷ []) = refl
number_read (a ∷ b ∷ c ∷ row ∷ []) = refl
number_read (a ∷ b ∷ c ∷ row ∷ last ∷ []) = row_cut row
number_read (a ∷ b ∷ c ∷ row ∷ last ∷ more ∷ others) =
    let six : min (length (a ∷ b ∷ c ∷ row ∷ last ∷ more ∷ others)) 6 ≡ 6 = omega arith in
    rw six refl
