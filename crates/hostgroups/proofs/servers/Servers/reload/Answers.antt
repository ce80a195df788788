use Rattle.hostgroups.proofs.Reloading.{holds_reloaded}
use Rattle.hostgroups.proofs.servers.Servers.reload.Goals as goal

pub invariant_of-self : goal.invariant_of-self
invariant_of-self c =
    rw c.in_ok-servers.ensures (holds_reloaded c.self.inside.servers c.args.rows.now c.in_ok-rounds.rounds
    c.requires.weights c.self.invariant.weights c.in_ok-wanted.ensures.room
    (rw (c.deref.ensures.value, c.in_ok-turning.ensures, c.as_slice.ensures, c.in_ok-servers.ensures) at c.in_ok-rounds.ensures))
