-- Messages that are served by links, each by one of its own, are no more than these links.
use Rattle.std.specs.Prelude.{◌≡◌, ◌≢◌, ◌+◌, ◌≤◌, ℕ, suc, Bool, true, false, ◌&&◌, ◌||◌, cond, fold, if◌then◌else◌, length, List, [], ◌∷◌}
use Rattle.std.specs.List.{list_any}
use Rattle.std.proofs.Common.{refl, sym, ap, ◌∙◌, arith}
use Rattle.mx_base.specs.declared.names.LinkId.{LinkId}
use Rattle.private_model.specs.Names.{MessageName}
use Rattle.shared_router.proofs.Later.{adds}
use Rattle.shared_router.proofs.Looked.{Each, each-so}

abbrev pub AreApart : List MessageName → Type 0
AreApart [] = Unit {0}
AreApart (m ∷ ms) = Each (λ other. other ≢ m) ms × AreApart ms

isnt : {A : Type 0} → false ≡ true → A
isnt is = absurd (cc)

module _ (serves : MessageName → LinkId → Bool) (one : (m other : MessageName) (x : LinkId) → serves m x ≡ true → serves other x ≡ true → other ≡ m)
    (test : LinkId → Bool) where
  abbrev pub IsServed : List LinkId → MessageName → Type 0
  IsServed xs m = list_any (λ x. test x && serves m x) xs ≡ true

  -- those that a link doesn't serve
  others : LinkId → List MessageName → List MessageName
  others x [] = []
  others x (m ∷ ms) = if serves m x then others x ms else m ∷ others x ms

  each_other : (P : MessageName → Type 0) (x : LinkId) (ms : List MessageName) → Each P ms → Each P (others x ms)
  unfolding others
  each_other P x [] all = tt
  each_other P x (m ∷ ms) all = by_test (serves m x) (each_other P x ms all.1) where
    by_test : (b : Bool) → Each P (others x ms) → Each P (if b then others x ms else m ∷ others x ms)
    by_test true rest = rest
    by_test false rest = (all.0, rest)

  others_apart : (x : LinkId) (ms : List MessageName) → AreApart ms → AreApart (others x ms)
  unfolding others
  others_apart x [] apart = tt
  others_apart x (m ∷ ms) apart = by_test (serves m x) (others_apart x ms apart.1) where
    by_test : (b : Bool) → AreApart (others x ms) → AreApart (if b then others x ms else m ∷ others x ms)
    by_test true rest = rest
    by_test false rest = (each_other (λ other. other ≢ m) x ms apart.0, rest)

  all_others : (x : LinkId) (ms : List MessageName) → Each (λ m. serves m x ≡ false) ms → others x ms ≡ ms
  unfolding others
  all_others x [] none = refl
  all_others x (m ∷ ms) none = ap (λ b. if b then others x ms else m ∷ others x ms) none.0 ∙ ap (λ ms. m ∷ ms) (all_others x ms none.1)

  -- a link serves one at most
  at_most_one : (x : LinkId) (ms : List MessageName) → AreApart ms → length ms ≤ suc (length (others x ms))
  unfolding others
  at_most_one x [] apart = omega arith
  at_most_one x (m ∷ ms) apart = by_test (serves m x) refl (at_most_one x ms apart.1) where
    none : (other : MessageName) → serves m x ≡ true → other ≢ m → serves other x ≡ false
    none other is differs = by_other (serves other x) refl where
      by_other : (b : Bool) → serves other x ≡ b → b ≡ false
      by_other true there = absurd (differs (one m other x is there))
      by_other false there = refl

    by_test : (b : Bool) → serves m x ≡ b → length ms ≤ suc (length (others x ms)) → length (m ∷ ms) ≤ suc (length (if b then others x ms else m ∷ others x ms))
    by_test true is less =
        let same : length (others x ms) ≡ length ms =
        ap (λ (rest : List MessageName). length rest) (all_others x ms (each-so (λ other. other ≢ m) (λ other. serves other x ≡ false) ms (λ other differs. none other is differs) apart.0)) in
        omega (arith, same)
    by_test false is less = omega (arith, less)

  served_later : (x : LinkId) (xs : List LinkId) (ms : List MessageName) → Each (IsServed (x ∷ xs)) ms → Each (IsServed xs) (others x ms)
  unfolding others
  served_later x xs [] all = tt
  served_later x xs (m ∷ ms) all = by_test (serves m x) (test x) all.0 (served_later x xs ms all.1) where
    by_test : (b t : Bool) → ((t && b) || list_any (λ y. test y && serves m y) xs) ≡ true → Each (IsServed xs) (others x ms)
        → Each (IsServed xs) (if b then others x ms else m ∷ others x ms)
    by_test true t is rest = rest
    by_test false true is rest = (is, rest)
    by_test false false is rest = (is, rest)

  served_else : (x : LinkId) (xs : List LinkId) (ms : List MessageName) → test x ≡ false → Each (IsServed (x ∷ xs)) ms → Each (IsServed xs) ms
  served_else x xs ms none all =
      each-so (IsServed (x ∷ xs)) (IsServed xs) ms (λ m is. sym (ap (λ t. (t && serves m x) || list_any (λ y. test y && serves m y) xs) none) ∙ is) all

  fewer_from : (n : ℕ) (xs : List LinkId) (ms : List MessageName) → AreApart ms → Each (IsServed xs) ms → n + length ms ≤ fold (adds test) n xs
  fewer_from n [] [] apart served = omega arith
  fewer_from n [] (m ∷ ms) apart served = isnt served.0
  fewer_from n (x ∷ xs) ms apart served =
      by_test (test x) refl (fewer_from (n + 1) xs (others x ms) (others_apart x ms apart) (served_later x xs ms served))
      (λ is. fewer_from (n + 0) xs ms apart (served_else x xs ms is served))
    where
      by_test : (b : Bool) → test x ≡ b → n + 1 + length (others x ms) ≤ fold (adds test) (n + 1) xs
          → (test x ≡ false → n + 0 + length ms ≤ fold (adds test) (n + 0) xs) → n + length ms ≤ fold (adds test) (n + cond b 1 0) xs
      by_test true is rest none = let most : length ms ≤ suc (length (others x ms)) = at_most_one x ms apart in omega (arith, rest, most)
      by_test false is one none = let rest : n + 0 + length ms ≤ fold (adds test) (n + 0) xs = none is in omega (arith, rest)

  pub served_fewer : (xs : List LinkId) (ms : List MessageName) → AreApart ms → Each (IsServed xs) ms → length ms ≤ fold (adds test) 0 xs
  served_fewer xs ms apart served = let all : 0 + length ms ≤ fold (adds test) 0 xs = fewer_from 0 xs ms apart served in omega (arith, all)
