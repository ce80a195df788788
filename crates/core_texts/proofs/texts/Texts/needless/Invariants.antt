use Rattle.std.proofs.Common.{◌≡◌, All, false, nat_eq}
use Rattle.std.specs.HashSet.{contains}
use Rattle.core_texts.proofs.texts.Texts.needless.Given as goal

-- nobody needs those that were found so far
abbrev pub invariant-loop-number : goal.invariant-loop-number
invariant-loop-number l = All (λ number. contains nat_eq l.needed number ≡ false) l.needless.items
