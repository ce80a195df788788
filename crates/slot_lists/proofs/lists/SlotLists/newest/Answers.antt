use Rattle.std.proofs.Common.{◌≡◌, ◌+◌, ℕ, List, arith, ap, subst, ◌∙◌}
use Rattle.std.specs.Prelude.{slice_get, slice_index}
use Rattle.std.proofs.lemmas.List.{get_or_read}
use Rattle.slot_lists.specs.Orders.{members}
use Rattle.slot_lists.specs.Chains.{Chains, Spells, slot_at}
use Rattle.slot_lists.proofs.Walking.{first_is}
use Rattle.slot_lists.proofs.lists.SlotLists.newest.Goals as goal

pub returns-clause-is : goal.returns-clause-is
returns-clause-is c =
    let found = rw (← c.self.view_is) at c.slot.ensures.is in
    let asked = rw (← c.self.view_is) at c.requires in
    let read : c.index.result.now ≡ slice_index c.self.inside.next.items (c.self.inside.slots + c.args.list) =
    get_or_read c.self.inside.next.items (c.self.inside.slots + c.args.list) c.index.result.now (omega (arith, asked, c.self.invariant.next_length)) c.index.ensures 0 in
    subst (λ (s : Chains). (moments order : List ℕ) → Spells s moments order → c.slot.result ≡ slice_get (members s.list_of c.args.list order) 0) c.self.view_is
    (λ moments order spells. found ∙ ap (slot_at c.self.inside.slots) read ∙ first_is _ moments order c.args.list asked spells)
