-- Two numbers as one, and back.
use Rattle.std.specs.Prelude.{◌≡◌, ◌+◌, ℕ, zero, suc}
use Rattle.std.proofs.Common.{refl, ap, ◌∙◌, arith}

-- the sum of all up to it
abbrev pub sum_to : ℕ → ℕ
sum_to zero = 0
sum_to (suc n) = suc (n + sum_to n)

abbrev pub paired : ℕ → ℕ → ℕ
paired a b = b + sum_to (a + b)

-- pairs in a row: those of one sum behind those of the sum before
abbrev pub behind : ℕ → ℕ → ℕ × ℕ
behind zero b = (suc b, 0)
behind (suc a) b = (a, suc b)

abbrev pub apart : ℕ → ℕ × ℕ
apart zero = (0, 0)
apart (suc n) = behind (apart n).0 (apart n).1

along : (b a s : ℕ) → a + b ≡ s → apart (sum_to s) ≡ (s, 0) → apart (b + sum_to s) ≡ (a, b)
along zero a s sum first =
    let none : 0 + sum_to s ≡ sum_to s = omega arith in
    let whole : s ≡ a = omega (arith, sum) in
    ap apart none ∙ (first ∙ ap (λ (x : ℕ). (x, 0)) whole)
along (suc b) a s sum first =
    let one : suc b + sum_to s ≡ suc (b + sum_to s) = omega arith in
    let more : suc a + b ≡ s = omega (arith, sum) in
    ap apart one ∙ ap (λ (p : ℕ × ℕ). behind p.0 p.1) (along b (suc a) s more first)

first_of : (s : ℕ) → apart (sum_to s) ≡ (s, 0)
first_of zero = refl
first_of (suc s) =
    let whole : 0 + s ≡ s = omega arith in
    ap (λ (p : ℕ × ℕ). behind p.0 p.1) (along s 0 s whole (first_of s))

pub apart_so : (a b : ℕ) → apart (paired a b) ≡ (a, b)
apart_so a b = along b a (a + b) refl (first_of (a + b))
