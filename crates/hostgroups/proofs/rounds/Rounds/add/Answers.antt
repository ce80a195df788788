use Rattle.hostgroups.proofs.Lookups.{place_of-last}
use Rattle.hostgroups.proofs.rounds.Rounds.add.Goals as goal

pub invariant_of-self-2 : goal.invariant_of-self-2
invariant_of-self-2 c = λ q.
    rw (c.in_ok-push.ensures.items, c.reserve.ensures.items) (place_of-last c.self.inside.rounds.items c.args.round q _ _
    (rw c.self.view_is c.requires.new) (c.self.invariant q)
    (rw (c.hostgroup.ensures, c.len.ensures, c.reserve.new.self.ok.0, c.reserve.ensures.items) at (c.in_ok-insert.ensures.updates.0 q.0)))
