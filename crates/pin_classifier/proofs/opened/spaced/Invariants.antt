use Rattle.std.proofs.Common.{◌≡◌, ◌++◌}
use Rattle.session_vars.specs.Statement.{without_comments}
use Rattle.pin_classifier.specs.Opened.{spaced}
use Rattle.pin_classifier.specs.Statement.{statement}
use Rattle.pin_classifier.proofs.opened.spaced.Given as goal

-- what is written, with what is left, is all of it
abbrev pub invariant-loop-token : goal.invariant-loop-token
invariant-loop-token l = l.out.items ++ spaced l.text (without_comments l.token-iterator) ≡ spaced l.text (statement l.text)
