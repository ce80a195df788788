use Rattle.std.proofs.Common.{◌≡◌, ℕ, subst, arith, ◌∙◌}
use Rattle.std.specs.Prelude.{slice_get, Some}
use Rattle.slot_lists.specs.Orders.{before, members}
use Rattle.slot_lists.specs.Chains.{order_in}
use Rattle.slots_by_age.specs.Aged.{Aged}
use Rattle.slots_by_age.proofs.Moved.{members_of_all}
use Rattle.slots_by_age.proofs.aged.SlotsByAge.newer.Goals as goal

pub returns-clause-is : goal.returns-clause-is
returns-clause-is c =
    let i = c.self.inside in
    let t = c.self.invariant in
    let all : members c.self.inside.all.list_of 0 (order_in c.self.inside.all) ≡ order_in c.self.inside.all =
    members_of_all c.self.inside.all c.self.inside.since.items (order_in c.self.inside.all) c.self.invariant.whole c.self.invariant.one in
    subst (λ (a : Aged). (at : ℕ) → slice_get a.order at ≡ Some c.args.slot → c.newer.result ≡ before a.order at) c.self.view_is
    (λ at is.
    c.newer.ensures.is c.self.inside.since.items (order_in c.self.inside.all) 0 at c.self.invariant.whole (omega (arith, c.self.invariant.one)) (rw all is)
    ∙ rw all)
