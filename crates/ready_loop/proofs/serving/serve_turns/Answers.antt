use Rattle.std.proofs.Common.{rules}
use Rattle.ready_loop.proofs.Ending.{ends_so, turns_made}
use Rattle.ready_loop.proofs.serving.serve_turns.Goals as goal

pub returns-in-Err-wait_once-clause-ends : goal.returns-in-Err-wait_once-clause-ends
returns-in-Err-wait_once-clause-ends g c = ends_so _ _ _ g.M.Machine.is_stopped _ _ (g.M.Machine.reads c.wait_once.new.core) (g.M.Machine.sends c.wait_once.new.core) _ _ _ (search rules) c.in-Err-wait_once.ensures.ends.ends

pub returns-in-Err-settle-clause-ends : goal.returns-in-Err-settle-clause-ends
returns-in-Err-settle-clause-ends g c = ends_so _ _ _ g.M.Machine.is_stopped _ _ (g.M.Machine.reads c.settle-in-loop-table.new.core) (g.M.Machine.sends c.settle-in-loop-table.new.core) _ _ _ (search rules) c.in-Err-settle.ensures.ends.ends

pub returns-clause-ends : goal.returns-clause-ends
returns-clause-ends g c = turns_made _ _ _ _ _ _ _ c.loop-table.table c.loop-table.invariant.going.serves.standing c.loop-table.invariant.going.serves.tracks c.loop-table.invariant.going.going c.loop-table.invariant.drained (search rules)
