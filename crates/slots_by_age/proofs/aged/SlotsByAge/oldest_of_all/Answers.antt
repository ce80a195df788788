use Rattle.std.proofs.Common.{◌≡◌, ap, ◌∙◌}
use Rattle.slot_lists.specs.Orders.{last, members}
use Rattle.slot_lists.specs.Chains.{order_in}
use Rattle.slots_by_age.specs.Aged.{Aged}
use Rattle.slots_by_age.proofs.Moved.{members_of_all}
use Rattle.slots_by_age.proofs.aged.SlotsByAge.oldest_of_all.Goals as goal

pub returns-clause-is : goal.returns-clause-is
returns-clause-is c =
    let all : members c.self.inside.all.list_of 0 (order_in c.self.inside.all) ≡ order_in c.self.inside.all =
    members_of_all c.self.inside.all c.self.inside.since.items (order_in c.self.inside.all) c.self.invariant.whole c.self.invariant.one in
    c.oldest.ensures.is c.self.inside.since.items (order_in c.self.inside.all) c.self.invariant.whole ∙ ap last all
    ∙ ap (λ (a : Aged). last a.order) c.self.view_is
