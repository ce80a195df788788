use Rattle.std.proofs.Common.{◌<◌, ◌/◌, arith}
use Rattle.std.proofs.Math.Nat.{le-mul_of_pos_right}
use Rattle.audit_report.proofs.audit.fn.read_pieces.map_chunks.Goals as goal

pub overflow_add-start : goal.overflow_add-start
overflow_add-start g c =
    let some : 0 < c.captures.size = omega arith in
    let least = le-mul_of_pos_right (c.args.start / c.captures.size) some in
    omega arith
