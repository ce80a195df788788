use Rattle.std.proofs.Common.{◌≡◌, ◌++◌}
use Rattle.query_digest.specs.Digest.{digest_of, parts_of, without_comments}
use Rattle.query_digest.specs.Parts.{folded, spelled}
use Rattle.query_digest.specs.Writing.{held_parts}
use Rattle.query_digest.proofs.statement.digest_start.Given as goal

-- what is written, with what is held and the tokens that are left, is the digest
abbrev pub invariant-loop-token : goal.invariant-loop-token
invariant-loop-token l = l.writer.out.items ++ spelled (folded (held_parts l.writer.held ++ parts_of l.text l.end (without_comments l.token-iterator))) ≡ digest_of l.text
