use Rattle.hostgroups.specs.Keys.{named}
use Rattle.hostgroups.proofs.Numbering.{number_of-last}
use Rattle.hostgroups.proofs.numbers.ServerNumbers.add.Goals as goal

pub invariant_of-self-2 : goal.invariant_of-self-2
invariant_of-self-2 c = λ q.
    rw (c.in_ok-push.ensures.items, c.reserve.ensures.items) (number_of-last c.self.inside.names.items c.args.name (named q) _ _
    (rw c.self.view_is c.requires.new) (c.self.invariant q)
    (rw (← c.key.ensures, ← c.reserve.ensures.items, ← c.reserve.new.self.ok.0) (rw c.len.ensures at (c.in_ok-insert.ensures.updates.0 q))))
