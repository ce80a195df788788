use Rattle.std.proofs.Common.{◌≡◌, ◌<◌, false, true, subst, arith}
use Rattle.std.specs.Prelude.{slice_index}
use Rattle.std.proofs.lemmas.List.{get_or_read}
use Rattle.slot_lists.specs.Orders.{has}
use Rattle.slot_lists.specs.Chains.{order_in}
use Rattle.slot_lists.proofs.Each.{each_at}
use Rattle.slots_by_age.specs.Aged.{Aged, taken}
use Rattle.slots_by_age.proofs.Moved.{here_by, some_of_kind, tables-taken}
use Rattle.slots_by_age.proofs.Views.{taken-none, view, view-taken}
use Rattle.slots_by_age.proofs.aged.SlotsByAge.take.Goals as goal

pub index_mut-requires-then-index : goal.index_mut-requires-then-index
index_mut-requires-then-index c =
    let slot : c.args.slot < c.self.inside.all.slots = rw (← c.self.view_is) at c.requires in
    let here : has c.args.slot (order_in c.self.inside.all) ≡ true =
    here_by c.self.inside.kept.items (order_in c.self.inside.all) c.args.slot c.index.result.now _
    (omega (arith, slot, c.self.invariant.kept_length)) c.index.ensures c.if-index.true (c.self.invariant.is_kept c.args.slot slot) in
    let within = each_at (λ s. slice_index c.self.inside.kinds.list_of s < c.self.inside.kinds.lists) c.args.slot (order_in c.self.inside.all) here
    c.self.invariant.parts.listed in
    let is : c.list-kind.result ≡ slice_index c.self.inside.kinds.list_of c.args.slot = rw c.remove-then-index.ensures.list at c.list-kind.ensures in
    omega (arith, is, within, c.self.invariant.counts_length)

pub overflow_sub-index_mut : goal.overflow_sub-index_mut
overflow_sub-index_mut c =
    let slot : c.args.slot < c.self.inside.all.slots = rw (← c.self.view_is) at c.requires in
    let here : has c.args.slot (order_in c.self.inside.all) ≡ true =
    here_by c.self.inside.kept.items (order_in c.self.inside.all) c.args.slot c.index.result.now _
    (omega (arith, slot, c.self.invariant.kept_length)) c.index.ensures c.if-index.true (c.self.invariant.is_kept c.args.slot slot) in
    let within = each_at (λ s. slice_index c.self.inside.kinds.list_of s < c.self.inside.kinds.lists) c.args.slot (order_in c.self.inside.all) here
    c.self.invariant.parts.listed in
    let is : c.list-kind.result ≡ slice_index c.self.inside.kinds.list_of c.args.slot = rw c.remove-then-index.ensures.list at c.list-kind.ensures in
    let read : c.index_mut-then-index.result.now ≡ slice_index c.self.inside.counts.items c.list-kind.result =
    get_or_read c.self.inside.counts.items c.list-kind.result c.index_mut-then-index.result.now (omega (arith, is, within, c.self.invariant.counts_length))
    c.index_mut-then-index.ensures.value 0 in
    some_of_kind c.self.inside.kinds c.self.inside.since.items (order_in c.self.inside.all) c.self.inside.counts.items c.args.slot
    c.index_mut-then-index.result.now c.self.invariant.parts here (rw is at read) c.self.invariant.counted

pub invariant_of-self : goal.invariant_of-self
invariant_of-self c =
    let slot : c.args.slot < c.self.inside.all.slots = rw (← c.self.view_is) at c.requires in
    let here : has c.args.slot (order_in c.self.inside.all) ≡ true =
    here_by c.self.inside.kept.items (order_in c.self.inside.all) c.args.slot c.index.result.now _
    (omega (arith, slot, c.self.invariant.kept_length)) c.index.ensures c.if-index.true (c.self.invariant.is_kept c.args.slot slot) in
    let within = each_at (λ s. slice_index c.self.inside.kinds.list_of s < c.self.inside.kinds.lists) c.args.slot (order_in c.self.inside.all) here
    c.self.invariant.parts.listed in
    let is : c.list-kind.result ≡ slice_index c.self.inside.kinds.list_of c.args.slot = rw c.remove-then-index.ensures.list at c.list-kind.ensures in
    let read : c.index_mut-then-index.result.now ≡ slice_index c.self.inside.counts.items c.list-kind.result =
    get_or_read c.self.inside.counts.items c.list-kind.result c.index_mut-then-index.result.now (omega (arith, is, within, c.self.invariant.counts_length))
    c.index_mut-then-index.ensures.value 0 in
    rw is (tables-taken c.self.inside.all c.self.inside.kinds c.remove.new.self c.remove-then-index.new.self c.self.inside.since.items
    c.self.inside.kept.items c.self.inside.counts.items c.args.slot c.index_mut-then-index.result.now c.self.inside.total c.self.invariant slot here
    (record {
      slots = c.remove.ensures.slots;
      lists = c.remove.ensures.lists;
      list = c.remove.ensures.list;
      without = c.remove.ensures.without;
    })
    (record {
      slots = c.remove-then-index.ensures.slots;
      lists = c.remove-then-index.ensures.lists;
      list = c.remove-then-index.ensures.list;
      without = c.remove-then-index.ensures.without;
    })
    (rw is at read))

pub returns-then-index : goal.returns-then-index
returns-then-index c =
    let slot : c.args.slot < c.self.inside.all.slots = rw (← c.self.view_is) at c.requires in
    let here : has c.args.slot (order_in c.self.inside.all) ≡ true =
    here_by c.self.inside.kept.items (order_in c.self.inside.all) c.args.slot c.index.result.now _
    (omega (arith, slot, c.self.invariant.kept_length)) c.index.ensures c.if-index.true (c.self.invariant.is_kept c.args.slot slot) in
    rw (← c.self.view_is)
    (view-taken c.self.inside.all c.self.inside.kinds c.remove.new.self c.remove-then-index.new.self c.self.inside.since.items c.args.slot
    c.self.invariant.whole c.self.invariant.one here
    (record {
      slots = c.remove.ensures.slots;
      lists = c.remove.ensures.lists;
      list = c.remove.ensures.list;
      without = c.remove.ensures.without;
    })
    (record {
      slots = c.remove-then-index.ensures.slots;
      lists = c.remove-then-index.ensures.lists;
      list = c.remove-then-index.ensures.list;
      without = c.remove-then-index.ensures.without;
    }))

pub returns-else-index : goal.returns-else-index
returns-else-index c =
    let slot : c.args.slot < c.self.inside.all.slots = rw (← c.self.view_is) at c.requires in
    let none : has c.args.slot (order_in c.self.inside.all) ≡ false =
    here_by c.self.inside.kept.items (order_in c.self.inside.all) c.args.slot c.index.result.now _
    (omega (arith, slot, c.self.invariant.kept_length)) c.index.ensures c.if-index.false (c.self.invariant.is_kept c.args.slot slot) in
    subst (λ (a : Aged). a ≡ taken a c.args.slot) c.self.view_is
    (taken-none (view c.self.inside.all c.self.inside.kinds c.self.inside.since.items) c.args.slot none)
