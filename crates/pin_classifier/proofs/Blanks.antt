-- Texts in ASCII alone, which have no blank of other character sets.
use Rattle.std.proofs.Common.{◌≡◌, ◌<◌, ℕ, suc, false, ◌||◌, nat_eq, List, [], ◌∷◌, slice_index, refl, ◌∙◌, ap, arith}
use Rattle.std.specs.List.{list_any}
use Rattle.std.proofs.lemmas.Bool.{ne_eqb, or_from}
use Rattle.pin_classifier.specs.Marks.{is_other_blank}

pub no_blank : (bytes : List ℕ) → ((i : ℕ) → slice_index bytes i < 128) → list_any is_other_blank bytes ≡ false
no_blank [] ascii = refl
no_blank (b ∷ bytes) ascii =
    let low : b < 128 = ascii 0 in
    let other : is_other_blank b ≡ false = or_from (nat_eq b 160) (nat_eq b 255) (ne_eqb b 160 (λ is. omega (arith, low, is))) (ne_eqb b 255 (λ is. omega (arith, low, is))) in
    ap (λ found. found || list_any is_other_blank bytes) other ∙ no_blank bytes (λ i. ascii (suc i))
