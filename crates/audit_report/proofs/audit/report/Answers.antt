use Rattle.std.proofs.Common.{arith, rules, ◌∙◌}
use Rattle.audit_report.proofs.Tallying.{over-all}
use Rattle.audit_report.proofs.audit.report.Goals as goal

pub rows_of-requires : goal.rows_of-requires
rows_of-requires g c = record {
  few = first_of (omega arith, search rules);
  tallies = λ q. c.in_ok-tallies.ensures.tallies q ∙ over-all q c.piece_len-size.result c.args.lines.now c.in_ok-pieces.pieces.items c.in_ok-pieces.ensures c.in_ok-tallies.ensures.whole;
}
