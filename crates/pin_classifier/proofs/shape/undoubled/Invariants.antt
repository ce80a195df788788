use Rattle.std.proofs.Common.{◌≡◌, ◌++◌, drop}
use Rattle.pin_classifier.specs.Shapes.{undoubled}
use Rattle.pin_classifier.proofs.Backticks.{undoubled_behind}
use Rattle.pin_classifier.proofs.shape.undoubled.Given as goal

-- what is written, with what is left, is all of it
abbrev pub invariant-loop-byte : goal.invariant-loop-byte
invariant-loop-byte l = l.out.items ++ undoubled_behind l.doubles (drop l.byte-index l.bytes) ≡ undoubled l.bytes
