use Rattle.std.proofs.Common.{◌≡◌}
use Rattle.session_vars.specs.Statement.{without_comments}
use Rattle.pin_classifier.specs.Passing.{seen_behind, seen_of}
use Rattle.pin_classifier.specs.Statement.{statement}
use Rattle.pin_classifier.proofs.seen.Seen.of.Given as goal

-- with the tokens that are left, all is seen
abbrev pub invariant-loop-token : goal.invariant-loop-token
invariant-loop-token l = seen_behind l.text l.seen l.before (without_comments l.token-iterator) ≡ seen_of l.text (statement l.text)
