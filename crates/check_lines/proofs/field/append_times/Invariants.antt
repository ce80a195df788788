use Rattle.std.proofs.Common.{◌≤◌, vec_len}
use Rattle.check_lines.proofs.field.append_times.Given as goal

abbrev pub invariant-loop : goal.invariant-loop
invariant-loop l = vec_len l.bytes ≤ 67108864
