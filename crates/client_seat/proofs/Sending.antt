-- Lists that are cut in two.
use Rattle.client_seat.specs.Outgoing.{Outgoing, went}
use Rattle.std.proofs.Common.{subst, ◌≡◌, ◌≤◌, ℕ, zero, suc, ◌-◌, List, [], ◌∷◌, ◌++◌, length, take, drop, refl, sym, ap, ◌∙◌, arith, length-append}

take-none : (n : ℕ) (xs : List ℕ) → xs ≡ [] → take n xs ≡ []
take-none zero xs none = refl
take-none (suc n) xs none = ap (λ (ys : List ℕ). take (suc n) ys) none

drop-none : (n : ℕ) (xs : List ℕ) → xs ≡ [] → drop n xs ≡ []
drop-none zero xs none = none
drop-none (suc n) xs none = ap (λ (ys : List ℕ). drop (suc n) ys) none

pub take_all : (xs : List ℕ) → take (length xs) xs ≡ xs
take_all [] = refl
take_all (x ∷ xs) = ap (λ (ys : List ℕ). x ∷ ys) (take_all xs)

pub drop_all : (xs : List ℕ) → drop (length xs) xs ≡ []
drop_all [] = refl
drop_all (x ∷ xs) = drop_all xs

pub parts : (n : ℕ) (xs : List ℕ) → take n xs ++ drop n xs ≡ xs
parts zero xs = refl
parts (suc n) [] = refl
parts (suc n) (x ∷ xs) = ap (λ (ys : List ℕ). x ∷ ys) (parts n xs)

pub front_length : (n : ℕ) (xs : List ℕ) → n ≤ length xs → length (take n xs) ≡ n
front_length zero xs within = refl
front_length (suc n) [] within = absurd (omega arith)
front_length (suc n) (x ∷ xs) within = let less : n ≤ length xs = omega arith in omega (arith, front_length n xs less)

-- nothing stands behind so many
pub whole : (n : ℕ) (xs : List ℕ) → drop n xs ≡ [] → take n xs ≡ xs
whole zero xs none = sym none
whole (suc n) [] none = refl
whole (suc n) (x ∷ xs) none = ap (λ (ys : List ℕ). x ∷ ys) (whole n xs none)

pub none_behind : (n : ℕ) (xs : List ℕ) → length xs ≤ n → drop n xs ≡ []
none_behind zero [] within = refl
none_behind zero (x ∷ xs) within = absurd (omega arith)
none_behind (suc n) [] within = refl
none_behind (suc n) (x ∷ xs) within = none_behind n xs (omega arith)

pub take_more : (n : ℕ) (xs ys : List ℕ) → n ≤ length xs → take n (xs ++ ys) ≡ take n xs
take_more zero xs ys within = refl
take_more (suc n) [] ys within = absurd (omega arith)
take_more (suc n) (x ∷ xs) ys within = ap (λ (zs : List ℕ). x ∷ zs) (take_more n xs ys (omega arith))

pub drop_more : (n : ℕ) (xs ys : List ℕ) → n ≤ length xs → drop n (xs ++ ys) ≡ drop n xs ++ ys
drop_more zero xs ys within = refl
drop_more (suc n) [] ys within = absurd (omega arith)
drop_more (suc n) (x ∷ xs) ys within = drop_more n xs ys (omega arith)

pub length_more : (n : ℕ) (xs ys : List ℕ) → n ≤ length xs → n ≤ length (xs ++ ys)
length_more n xs ys within = omega (arith, length-append xs ys)

-- behind so many of those at the front

take_behind : (n due : ℕ) (xs : List ℕ) → n ≤ due → take (due - n) (drop n xs) ≡ drop n (take due xs)
take_behind zero due xs within = ap (λ (k : ℕ). take k xs) (omega arith)
take_behind (suc n) zero xs within = absurd (omega arith)
take_behind (suc n) (suc due) [] within = take-none (suc due - suc n) [] refl
take_behind (suc n) (suc due) (x ∷ xs) within = ap (λ (k : ℕ). take k (drop n xs)) (omega arith) ∙ take_behind n due xs (omega arith)

drop_behind : (n due : ℕ) (xs : List ℕ) → n ≤ due → drop (due - n) (drop n xs) ≡ drop due xs
drop_behind zero due xs within = ap (λ (k : ℕ). drop k xs) (omega arith)
drop_behind (suc n) zero xs within = absurd (omega arith)
drop_behind (suc n) (suc due) [] within = drop-none (suc due - suc n) [] refl
drop_behind (suc n) (suc due) (x ∷ xs) within = ap (λ (k : ℕ). drop k (drop n xs)) (omega arith) ∙ drop_behind n due xs (omega arith)

length_behind : (n due : ℕ) (xs : List ℕ) → due ≤ length xs → due - n ≤ length (drop n xs)
length_behind zero due xs within = omega arith
length_behind (suc n) zero xs within = omega arith
length_behind (suc n) (suc due) [] within = absurd (omega arith)
length_behind (suc n) (suc due) (x ∷ xs) within = omega (arith, length_behind n due xs (omega arith))

pub nothing : (xs : List ℕ) → length xs ≡ 0 → xs ≡ []
nothing [] none = refl
nothing (x ∷ xs) none = absurd (omega arith)

-- what a queue is, of which so many are due
abbrev pub cut : (due : ℕ) → List ℕ → Outgoing
cut due queue = record { due = take due queue; coming = drop due queue }

pub cut-went : (n due : ℕ) (old new : List ℕ) → new ≡ drop n old → due ≤ length old → n ≤ length (take due old) → cut (due - n) new ≡ went n (cut due old)
cut-went n due old new is sound within =
    let less : n ≤ due = omega (arith, front_length due old sound) in
    ap (cut (due - n)) is ∙ (λ i. record { due = take_behind n due old less i; coming = drop_behind n due old less i })

pub still-cut : (n due : ℕ) (old new : List ℕ) → new ≡ drop n old → due ≤ length old → due - n ≤ length new
still-cut n due old new is sound = subst (λ (xs : List ℕ). due - n ≤ length xs) (sym is) (length_behind n due old sound)
