use Rattle.hostgroups.specs.Statuses.{once_ticked}
use Rattle.hostgroups.proofs.Changes.{same-restated}
use Rattle.hostgroups.proofs.Fairness.{holds_same_rows}
use Rattle.hostgroups.proofs.servers.Servers.tick.Goals as goal

pub invariant_of-self : goal.invariant_of-self
invariant_of-self c =
    rw c.tick.ensures (holds_same_rows c.self.inside.servers _ c.self.inside.rounds
    (same-restated (once_ticked c.args.now_ms) c.self.inside.servers) c.self.invariant)
