use Rattle.std.proofs.Common.{◌≡◌, take}
use Rattle.core_texts.proofs.copying.changes_of.Given as goal

abbrev pub invariant-loop-change : goal.invariant-loop-change
invariant-loop-change l = l.copy ≡ take l.change-index l.changes
