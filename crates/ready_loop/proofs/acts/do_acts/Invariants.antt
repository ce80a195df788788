use Rattle.std.proofs.Common.{◌≡◌, ◌≤◌, ◌-◌}
use Rattle.ready_loop.specs.Serving.{Serves, Proceeds}
use Rattle.ready_loop.proofs.acts.do_acts.Given as goal

abbrev pub invariant-loop-table : goal.invariant-loop-table
invariant-loop-table g l = record {
  serves : Serves g.M.Machine.stands g.M.Machine.reads g.M.Machine.sends g.M.Machine.changed l.core l.table (g.W.Wire.told l.wire);
  more : l.fn.table.round.calls ≤ l.table.round.calls;
  wakes : l.table.round.wakes ≡ l.fn.table.round.wakes;
  proceeds : Proceeds g.M.Machine.serves_by g.M.Machine.owes g.W.Wire.told g.W.Wire.ruled_by g.W.Wire.takes g.W.Wire.port_faults g.W.Wire.faults l.fn.core l.core l.fn.wire l.wire;
}

abbrev pub decreases-loop-table : goal.decreases-loop-table
decreases-loop-table g l = 4294967296 - l.table.round.calls
