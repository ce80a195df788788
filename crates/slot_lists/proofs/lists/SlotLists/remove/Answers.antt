use Rattle.std.proofs.Common.{◌≡◌, ◌+◌, ◌<◌, length, arith}
use Rattle.std.specs.Prelude.{slice_index}
use Rattle.std.proofs.lemmas.List.{get_or_read}
use Rattle.std.proofs.lemmas.List.Elements.{All-get_or}
use Rattle.slot_lists.proofs.Spelling.{spells-without}
use Rattle.slot_lists.proofs.lists.SlotLists.remove.Goals as goal

pub returns-clause-without : goal.returns-clause-without
returns-clause-without c = λ moments order spells here.
    let spelled = rw (← c.self.view_is) at spells in
    let slot = rw (← c.self.view_is) at c.requires in
    let there : c.args.slot < length c.self.inside.previous.items = omega (arith, slot, c.self.invariant.previous_length) in
    let here' : c.args.slot < length c.self.inside.next.items = omega (arith, slot, c.self.invariant.next_length) in
    let before : c.index-before.result.now ≡ slice_index c.self.inside.previous.items c.args.slot =
    get_or_read c.self.inside.previous.items c.args.slot c.index-before.result.now there c.index-before.ensures 0 in
    let after : c.index-after.result.now ≡ slice_index c.self.inside.next.items c.args.slot =
    get_or_read c.self.inside.next.items c.args.slot c.index-after.result.now here' c.index-after.ensures 0 in
    let before' = All-get_or (λ node. node < c.self.inside.slots + c.self.inside.lists) c.self.inside.previous.items c.args.slot 0 there
    c.self.invariant.previous_within in
    let after' = All-get_or (λ node. node < c.self.inside.slots + c.self.inside.lists) c.self.inside.next.items c.args.slot 0 here'
    c.self.invariant.next_within in
    spells-without _ moments order _ _ _ c.self.invariant (omega (arith, before, before')) (omega (arith, after, after')) spelled here
    before after
