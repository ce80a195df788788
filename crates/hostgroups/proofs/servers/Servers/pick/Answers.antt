use Rattle.hostgroups.proofs.Fairness.{holds_after_pick, picked_nobody, picked_ready}
use Rattle.hostgroups.proofs.servers.Servers.pick.Goals as goal

pub invariant_of-self : goal.invariant_of-self
invariant_of-self c =
    rw (c.pick.ensures.behind, c.as_slice.ensures) (holds_after_pick
    (record { servers = c.self.inside.servers; rounds = c.self.inside.rounds }) c.args.hostgroup c.args.counts.now c.self.invariant)

pub returns-clause-ready : goal.returns-clause-ready
returns-clause-ready c =
    rw (← c.self.view_is)
    (picked_ready (record { servers = c.self.inside.servers; rounds = c.self.inside.rounds }) c.args.hostgroup c.args.counts.now
    c.pick.result c.self.invariant (rw c.as_slice.ensures at c.pick.ensures.picked))

pub returns-clause-none : goal.returns-clause-none
returns-clause-none c =
    rw (← c.self.view_is)
    (picked_nobody (record { servers = c.self.inside.servers; rounds = c.self.inside.rounds }) c.args.hostgroup c.args.counts.now
    c.pick.result c.self.invariant (rw c.as_slice.ensures at c.pick.ensures.picked))
