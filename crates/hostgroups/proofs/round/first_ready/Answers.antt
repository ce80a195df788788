use Rattle.std.proofs.Common.{sym, ◌∙◌}
use Rattle.hostgroups.proofs.Turning.{first_at}
use Rattle.hostgroups.proofs.round.first_ready.Goals as goal

pub returns-then-is_ready : goal.returns-then-is_ready
returns-then-is_ready c = first_at _ _ _ _ c.loop-place-test.true c.loop-place.invariant (sym c.is_ready.ensures ∙ c.if-is_ready.true)
