-- The first bytes of a digest.
use Rattle.std.proofs.Common.{◌≡◌, ◌≤◌, ℕ, List, ◌++◌, length, take, sym, ap, ◌∙◌}
use Rattle.std.proofs.lemmas.List.{take-append-le}

-- they are those of what is written, once so many are
pub start_stays : (most : ℕ) (written rest whole : List ℕ) → written ++ rest ≡ whole → most ≤ length written → take most written ≡ take most whole
start_stays most written rest whole is enough = sym (take-append-le most written rest enough) ∙ ap (take most) is
