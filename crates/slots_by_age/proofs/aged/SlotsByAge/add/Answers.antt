use Rattle.std.proofs.Common.{◌≡◌, arith}
use Rattle.std.specs.Prelude.{nat_eq, slice_index}
use Rattle.std.proofs.lemmas.List.{get_or_read}
use Rattle.slot_lists.specs.Chains.{order_in}
use Rattle.slot_lists.proofs.Each.{length-filter}
use Rattle.slots_by_age.proofs.Has.{has_apart}
use Rattle.slots_by_age.proofs.Moved.{room_for, room_for_one, tables-put}
use Rattle.slots_by_age.proofs.Views.{view-put}
use Rattle.slots_by_age.proofs.aged.SlotsByAge.add.Goals as goal

pub overflow_add-index_mut : goal.overflow_add-index_mut
overflow_add-index_mut c =
    let slot = rw (← c.self.view_is) at c.requires.slot in
    let kind = rw (← c.self.view_is) at c.requires.kind in
    let none = rw (← c.self.view_is) at c.requires.new in
    let read : c.index_mut-3.result.now ≡ slice_index c.self.inside.counts.items c.args.kind =
    get_or_read c.self.inside.counts.items c.args.kind c.index_mut-3.result.now (omega (arith, kind, c.self.invariant.counts_length)) c.index_mut-3.ensures.value 0 in
    let room = room_for c.self.inside.all c.self.inside.since.items (order_in c.self.inside.all) c.args.slot c.self.invariant.whole slot
    (has_apart c.args.slot (order_in c.self.inside.all) none) in
    let few = length-filter (λ s. nat_eq (slice_index c.self.inside.kinds.list_of s) c.args.kind) (order_in c.self.inside.all) in
    omega (arith, read, room, few, c.self.invariant.counted c.args.kind kind, c.self.invariant.few)

pub overflow_add-self : goal.overflow_add-self
overflow_add-self c =
    let slot = rw (← c.self.view_is) at c.requires.slot in
    let none = rw (← c.self.view_is) at c.requires.new in
    omega (arith, c.self.invariant.few, room_for_one c.self.inside.all c.self.inside.since.items c.args.slot c.self.inside.total c.self.invariant.whole slot none c.self.invariant.together)

pub invariant_of-self : goal.invariant_of-self
invariant_of-self c =
    let slot = rw (← c.self.view_is) at c.requires.slot in
    let kind = rw (← c.self.view_is) at c.requires.kind in
    let none = rw (← c.self.view_is) at c.requires.new in
    let read : c.index_mut-3.result.now ≡ slice_index c.self.inside.counts.items c.args.kind =
    get_or_read c.self.inside.counts.items c.args.kind c.index_mut-3.result.now (omega (arith, kind, c.self.invariant.counts_length)) c.index_mut-3.ensures.value 0 in
    tables-put c.self.inside.all c.self.inside.kinds c.insert.new.self c.insert-2.new.self c.self.inside.since.items c.self.inside.kept.items
    c.self.inside.counts.items c.args.slot c.args.kind c.args.moment c.index_mut-3.result.now c.self.inside.total c.self.invariant slot kind none
    (record {
      slots = c.insert.ensures.slots;
      lists = c.insert.ensures.lists;
      here = c.insert.ensures.list;
      others = c.insert.ensures.others;
      placed = rw c.deref.ensures.value at c.insert.ensures.placed;
    })
    (record {
      slots = c.insert-2.ensures.slots;
      lists = c.insert-2.ensures.lists;
      here = c.insert-2.ensures.list;
      others = c.insert-2.ensures.others;
      placed = rw c.deref-2.ensures.value at c.insert-2.ensures.placed;
    })
    read

pub returns : goal.returns
returns c =
    let slot = rw (← c.self.view_is) at c.requires.slot in
    let none = rw (← c.self.view_is) at c.requires.new in
    rw (← c.self.view_is)
    (view-put c.self.inside.all c.self.inside.kinds c.insert.new.self c.insert-2.new.self c.self.inside.since.items
    c.args.slot c.args.kind c.args.moment c.self.invariant.whole slot c.self.invariant.one none
    (record {
      slots = c.insert.ensures.slots;
      lists = c.insert.ensures.lists;
      here = c.insert.ensures.list;
      others = c.insert.ensures.others;
      placed = rw c.deref.ensures.value at c.insert.ensures.placed;
    })
    (record {
      slots = c.insert-2.ensures.slots;
      lists = c.insert-2.ensures.lists;
      here = c.insert-2.ensures.list;
      others = c.insert-2.ensures.others;
      placed = rw c.deref-2.ensures.value at c.insert-2.ensures.placed;
    }))
