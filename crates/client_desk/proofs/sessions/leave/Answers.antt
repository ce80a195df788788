use Rattle.std.proofs.Common.{arith}
use Rattle.client_desk.proofs.Rows.{next_more}
use Rattle.client_desk.proofs.sessions.leave.Goals as goal

pub loop-row-preserved : goal.loop-row-preserved
loop-row-preserved c =
    next_more c.args.rows.now c.loop-row.rows c.loop-row.row-index _ c.next.result (omega arith) (omega arith) c.loop-row.invariant c.next.ensures
