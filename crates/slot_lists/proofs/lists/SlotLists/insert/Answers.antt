use Rattle.std.proofs.Common.{◌≡◌, ◌+◌, ◌<◌, length, arith}
use Rattle.std.specs.Prelude.{slice_index}
use Rattle.std.proofs.lemmas.List.{get_or_read}
use Rattle.std.proofs.lemmas.List.Elements.{All-get_or}
use Rattle.slot_lists.proofs.Spelling.{spells-placed}
use Rattle.slot_lists.proofs.lists.SlotLists.insert.Goals as goal

pub returns-clause-placed : goal.returns-clause-placed
returns-clause-placed c = λ order spells apart room.
    let spelled = rw (← c.self.view_is) at spells in
    let list = rw (← c.self.view_is) at c.requires.list in
    let slot = rw (← c.self.view_is) at c.requires.slot in
    let free = rw (← c.self.view_is) at room in
    let stop = rw (← c.self.view_is) at (c.place-at.ensures.stop order spells) in
    let within = rw (← c.self.view_is) at c.place-at.ensures.within in
    let there : c.place-at.result < length c.self.inside.previous.items = omega (arith, within, c.self.invariant.previous_length) in
    let read : c.index-before.result.now ≡ slice_index c.self.inside.previous.items c.place-at.result =
    get_or_read c.self.inside.previous.items c.place-at.result c.index-before.result.now there c.index-before.ensures 0 in
    let before = All-get_or (λ node. node < c.self.inside.slots + c.self.inside.lists) c.self.inside.previous.items c.place-at.result 0 there
    c.self.invariant.previous_within in
    spells-placed _ _ order _ _ _ _ c.self.invariant list slot (omega (arith, read, before)) within spelled apart free stop read
