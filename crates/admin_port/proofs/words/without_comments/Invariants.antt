use Rattle.std.proofs.Common.{◌≡◌, ◌++◌}
use Rattle.admin_port.specs.Words.{uncommented, without_comments}
use Rattle.admin_port.proofs.words.without_comments.Given as goal

-- what is kept, with what is left, is all of it
abbrev pub invariant-loop-token : goal.invariant-loop-token
invariant-loop-token l = l.tokens.items ++ uncommented l.token-iterator ≡ without_comments l.text
