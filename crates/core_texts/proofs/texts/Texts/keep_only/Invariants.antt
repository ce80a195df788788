use Rattle.std.proofs.Common.{◌≡◌, ℕ, All, false, true, nat_eq}
use Rattle.std.specs.HashSet.{contains}
use Rattle.core_texts.specs.Texts.{AreLess, key_at}
use Rattle.core_texts.proofs.texts.Texts.keep_only.Given as goal

-- only those are gone that nobody needs
abbrev pub invariant-loop-number : goal.invariant-loop-number
invariant-loop-number l = AreLess l.initial.self l.self
    × ((number : ℕ) → contains nat_eq l.needed number ≡ true → key_at l.self number ≡ key_at l.initial.self number)
    × All (λ number. contains nat_eq l.needed number ≡ false) l.number-items
