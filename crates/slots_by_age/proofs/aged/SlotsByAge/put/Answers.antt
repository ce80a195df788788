use Rattle.std.proofs.Common.{ap, ◌∙◌}
use Rattle.slot_lists.specs.Orders.{without}
use Rattle.slots_by_age.specs.Aged.{Aged, put}
use Rattle.slots_by_age.proofs.Has.{apart_has, apart-without}
use Rattle.slots_by_age.proofs.Views.{put-taken}
use Rattle.slots_by_age.proofs.aged.SlotsByAge.put.Goals as goal

pub add-requires-clause-new : goal.add-requires-clause-new
add-requires-clause-new c =
    rw c.take.ensures (apart_has c.args.slot (without c.args.slot c.args.self.now.order) (apart-without c.args.slot c.args.self.now.order))

pub returns : goal.returns
returns c =
    c.add.ensures ∙ ap (λ (a : Aged). put a c.args.slot c.args.kind c.args.moment) c.take.ensures
    ∙ put-taken c.args.self.now c.args.slot c.args.kind c.args.moment
