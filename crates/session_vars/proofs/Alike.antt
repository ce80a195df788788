-- Two texts that are alike byte for byte are one in any case.
use Rattle.std.proofs.Common.{◌≡◌, ℕ, ◌||◌, List, bytes_eq, map, sym, ◌∙◌, ap, inl, inr}
use Rattle.std.specs.Char.{to_ascii_lowercase}
use Rattle.std.specs.Cmp.Lexicographic.{bytes_decides}
use Rattle.std.proofs.lemmas.Bool.{cases_Bool}
use Rattle.sql_tokens.specs.Words.{same_text}

pub alike_or_same : (a b : List ℕ) → (bytes_eq a b || same_text a b) ≡ same_text a b
alike_or_same a b =
    let both = bytes_decides (map to_ascii_lowercase a) (map to_ascii_lowercase b) in
    elim (cases_Bool (bytes_eq a b)) [
      | inl e ↦ ap (λ alike. alike || same_text a b) e ∙ sym (both.1 (ap (map to_ascii_lowercase) ((bytes_decides a b).0 e)))
      | inr e ↦ ap (λ alike. alike || same_text a b) e
    ]
