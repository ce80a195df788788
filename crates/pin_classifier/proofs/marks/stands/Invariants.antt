use Rattle.std.proofs.Common.{◌≡◌}
use Rattle.session_vars.specs.Statement.{without_comments}
use Rattle.pin_classifier.specs.Marks.{any_with, passes, stands}
use Rattle.pin_classifier.proofs.marks.stands.Given as goal

-- it is found in all tokens just where it is in those that are left
abbrev pub invariant-loop-token : goal.invariant-loop-token
invariant-loop-token l = any_with (passes l.text l.mark) l.recent (without_comments l.token-iterator) ≡ stands l.text l.mark
