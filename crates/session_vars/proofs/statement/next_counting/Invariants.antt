use Rattle.std.proofs.Common.{◌≡◌, length}
use Rattle.session_vars.specs.Statement.{without_comments}
use Rattle.session_vars.proofs.statement.next_counting.Given as goal

abbrev pub invariant-loop-token : goal.invariant-loop-token
invariant-loop-token l = without_comments l.tokens ≡ without_comments l.initial.tokens

abbrev pub decreases-loop-token : goal.decreases-loop-token
decreases-loop-token l = length l.tokens
