use Rattle.std.proofs.Common.{◌≤◌, vec_len}
use Rattle.check_lines.proofs.field.append_pieces.Given as goal

abbrev pub invariant-loop-piece : goal.invariant-loop-piece
invariant-loop-piece l =
    (goal.iterator-loop-piece).can_next l.piece-iterator ×
    (goal.iterator-loop-piece).is_finite l.piece-iterator ×
    (vec_len l.bytes ≤ 67108864)
