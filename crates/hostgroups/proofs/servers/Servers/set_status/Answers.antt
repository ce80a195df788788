use Rattle.hostgroups.proofs.Changes.{same-changed}
use Rattle.hostgroups.proofs.Fairness.{holds_same_rows}
use Rattle.hostgroups.proofs.servers.Servers.set_status.Goals as goal

pub invariant_of-self : goal.invariant_of-self
invariant_of-self c =
    rw c.set_status.ensures.servers (holds_same_rows c.self.inside.servers _ c.self.inside.rounds
    (same-changed c.self.inside.servers c.args.server.0 (λ _. c.args.status)) c.self.invariant)
