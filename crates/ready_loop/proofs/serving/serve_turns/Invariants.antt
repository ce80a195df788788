use Rattle.std.proofs.Common.{◌≤◌, ◌-◌}
use Rattle.ready_loop.specs.Drained.{DrainedFor}
use Rattle.ready_loop.specs.Serving.{IsGoing, Proceeds}
use Rattle.ready_loop.proofs.serving.serve_turns.Given as goal

abbrev pub invariant-loop-table : goal.invariant-loop-table
invariant-loop-table g l = record {
  going : IsGoing g.M.Machine.stands g.M.Machine.reads g.M.Machine.sends g.M.Machine.changed g.M.Machine.is_stopped g.M.Machine.asks l.core l.table (g.W.Wire.told l.wire);
  drained : DrainedFor (g.M.Machine.reads l.core) (g.M.Machine.sends l.core) (g.W.Wire.told l.wire);
  wakes : l.table.round.wakes ≤ l.turns;
  proceeds : Proceeds g.M.Machine.serves_by g.M.Machine.owes g.W.Wire.told g.W.Wire.ruled_by g.W.Wire.takes g.W.Wire.port_faults g.W.Wire.faults l.fn.core l.core l.fn.wire l.wire;
}

abbrev pub decreases-loop-table : goal.decreases-loop-table
decreases-loop-table g l = l.turns - l.table.round.wakes
