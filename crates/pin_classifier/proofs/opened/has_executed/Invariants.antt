use Rattle.std.proofs.Common.{◌≡◌}
use Rattle.session_vars.specs.Statement.{without_comments}
use Rattle.pin_classifier.specs.Opened.{has_executed}
use Rattle.pin_classifier.specs.Statement.{statement}
use Rattle.pin_classifier.proofs.opened.has_executed.Given as goal

-- one is found in all tokens just where it is in those that are left
abbrev pub invariant-loop-token : goal.invariant-loop-token
invariant-loop-token l = has_executed (without_comments l.token-iterator) ≡ has_executed (statement l.text)
