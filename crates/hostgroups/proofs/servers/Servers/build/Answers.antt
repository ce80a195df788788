use Rattle.hostgroups.proofs.Fairness.{holds_built}
use Rattle.hostgroups.proofs.servers.Servers.build.Goals as goal

pub invariant_of-result : goal.invariant_of-result
invariant_of-result c = rw c.in_ok-servers.ensures.servers (holds_built c.args.rows.now _ c.requires.weights c.in_ok-rounds.ensures c.in_ok-servers.ensures.short)
