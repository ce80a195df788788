-- Keys that stand on a link, as they are shown.
use Rattle.std.specs.Prelude.{◌≡◌, ℕ, ◌||◌, is_some, map, nat_eq, List, [], ◌∷◌}
use Rattle.std.specs.Borrow.{Bor}
use Rattle.std.specs.List.{list_any}
use Rattle.std.specs.Map.{keys_of}
use Rattle.std.specs.Map.Iter.{deref}
use Rattle.std.proofs.Common.{refl, sym, ap, ◌∙◌, arith}
use Rattle.std.proofs.lemmas.Map.Made.{is_some-lookup}
use Rattle.link_state.specs.Stood.{number_of}

flip : (a b : ℕ) → nat_eq a b ≡ nat_eq b a
flip a b = grind arith

any_shown : (q : ℕ) (ks : List (Bor ℕ)) → list_any (λ (k : Bor ℕ). nat_eq k.now q) ks ≡ list_any (nat_eq q) (map deref ks)
any_shown q [] = refl
any_shown q (k ∷ ks) = λ i. flip k.now q i || any_shown q ks i

-- whether a key is among those that were shown
pub shown_keys : (q : ℕ) (ks : List (Bor ℕ)) (live : List (ℕ × ℕ)) → map deref ks ≡ keys_of live
    → list_any (λ (k : Bor ℕ). nat_eq k.now q) ks ≡ is_some (number_of live q)
shown_keys q ks live all = any_shown q ks ∙ ap (list_any (nat_eq q)) all ∙ sym (is_some-lookup (nat_eq q) live)
