use Rattle.std.proofs.Common.{◌≡◌}
use Rattle.ready_loop.specs.Serving.{Serves}
use Rattle.ready_loop.proofs.serving.queue_changed.Given as goal

abbrev pub invariant-loop-link : goal.invariant-loop-link
invariant-loop-link g l = record {
  serves : Serves g.M.Machine.stands g.M.Machine.reads g.M.Machine.sends g.M.Machine.changed l.core l.table (g.W.Wire.told l.wire);
  stopped : g.M.Machine.is_stopped l.core ≡ g.M.Machine.is_stopped l.fn.core;
  acted : g.M.Machine.asks l.core ≡ g.M.Machine.asks l.fn.core;
  round : l.table.round ≡ l.fn.table.round;
  serves_by : g.M.Machine.serves_by l.core ≡ g.M.Machine.serves_by l.fn.core;
}

abbrev pub decreases-loop-link : goal.decreases-loop-link
decreases-loop-link g l = g.M.Machine.unnamed l.core
