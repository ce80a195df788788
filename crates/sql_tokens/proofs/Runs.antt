-- Runs of bytes that pass a test.
use Rattle.std.proofs.Common.{◌≡◌, ◌≤◌, ◌<◌, ℕ, zero, suc, ◌+◌, Bool, true, false, List, [], ◌∷◌, ◌++◌, length, get_or, take, refl, ◌∙◌, inl, inr, arith}
use Rattle.std.specs.List.{prefix_len, list_all}
use Rattle.std.proofs.lemmas.Bool.{cond-true, cond-false, cases_Bool, and_parts, and_from}

-- a run that is followed by something else
pub run_is : (p : ℕ → Bool) (xs : List ℕ) (n : ℕ) → n < length xs → list_all p (take n xs) ≡ true → p (get_or xs n 0) ≡ false → prefix_len p xs ≡ n
run_is p [] n h all stop = absurd (omega arith)
run_is p (x ∷ xs) zero h all stop = cond-false (p x) (1 + prefix_len p xs) 0 stop
run_is p (x ∷ xs) (suc n) h all stop =
    let parts = and_parts (p x) (list_all p (take n xs)) all in
    let rest : prefix_len p xs ≡ n = run_is p xs n (omega arith) parts.1 stop in
    cond-true (p x) (1 + prefix_len p xs) 0 parts.0 ∙ omega arith

-- a run to the end
pub run_all : (p : ℕ → Bool) (xs : List ℕ) → list_all p xs ≡ true → prefix_len p xs ≡ length xs
run_all p [] all = refl
run_all p (x ∷ xs) all =
    let parts = and_parts (p x) (list_all p xs) all in
    let rest = run_all p xs parts.1 in
    cond-true (p x) (1 + prefix_len p xs) 0 parts.0 ∙ omega arith

-- each byte of a run passes
pub all_in_run : (p : ℕ → Bool) (xs : List ℕ) (n : ℕ) → n ≤ prefix_len p xs → list_all p (take n xs) ≡ true
all_in_run p xs zero h = refl
all_in_run p [] (suc n) h = refl
all_in_run p (x ∷ xs) (suc n) h =
    elim (cases_Bool (p x)) [
      | inl e ↦ let size : prefix_len p (x ∷ xs) ≡ 1 + prefix_len p xs = cond-true (p x) (1 + prefix_len p xs) 0 e in and_from (p x) (list_all p (take n xs)) e (all_in_run p xs n (omega arith))
      | inr e ↦ let size : prefix_len p (x ∷ xs) ≡ 0 = cond-false (p x) (1 + prefix_len p xs) 0 e in absurd (omega arith)
    ]

pub all_of_run : (p : ℕ → Bool) (xs : List ℕ) → length xs ≤ prefix_len p xs → list_all p xs ≡ true
all_of_run p [] h = refl
all_of_run p (x ∷ xs) h =
    elim (cases_Bool (p x)) [
      | inl e ↦ let size : prefix_len p (x ∷ xs) ≡ 1 + prefix_len p xs = cond-true (p x) (1 + prefix_len p xs) 0 e in and_from (p x) (list_all p xs) e (all_of_run p xs (omega arith))
      | inr e ↦ let size : prefix_len p (x ∷ xs) ≡ 0 = cond-false (p x) (1 + prefix_len p xs) 0 e in absurd (omega arith)
    ]

-- a run is as long as the front that passes, and ends where that ends
pub run_covers : (p : ℕ → Bool) (xs ys : List ℕ) → list_all p xs ≡ true → length xs ≤ prefix_len p (xs ++ ys)
run_covers p [] ys all = omega arith
run_covers p (x ∷ xs) ys all =
    let parts = and_parts (p x) (list_all p xs) all in
    let rest = run_covers p xs ys parts.1 in
    let size : prefix_len p (x ∷ (xs ++ ys)) ≡ 1 + prefix_len p (xs ++ ys) = cond-true (p x) (1 + prefix_len p (xs ++ ys)) 0 parts.0 in
    omega arith

pub run_ends : (p : ℕ → Bool) (xs : List ℕ) (y : ℕ) (ys : List ℕ) → list_all p xs ≡ true → p y ≡ false → prefix_len p (xs ++ y ∷ ys) ≡ length xs
run_ends p [] y ys all stop = cond-false (p y) (1 + prefix_len p ys) 0 stop
run_ends p (x ∷ xs) y ys all stop =
    let parts = and_parts (p x) (list_all p xs) all in
    let rest = run_ends p xs y ys parts.1 stop in
    cond-true (p x) (1 + prefix_len p (xs ++ y ∷ ys)) 0 parts.0 ∙ omega arith
