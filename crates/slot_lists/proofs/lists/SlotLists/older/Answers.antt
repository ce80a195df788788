use Rattle.std.proofs.Common.{◌≡◌, ◌+◌, ◌<◌, ℕ, List, arith, ap, subst, ◌∙◌}
use Rattle.std.specs.Prelude.{slice_get, slice_index, Some}
use Rattle.std.proofs.lemmas.List.{get_or_read}
use Rattle.slot_lists.specs.Orders.{members}
use Rattle.slot_lists.specs.Chains.{Chains, Spells, slot_at}
use Rattle.slot_lists.proofs.Walking.{older_of}
use Rattle.slot_lists.proofs.lists.SlotLists.older.Goals as goal

pub returns-clause-is : goal.returns-clause-is
returns-clause-is c =
    let found = rw (← c.self.view_is) at c.slot.ensures.is in
    let asked = rw (← c.self.view_is) at c.requires in
    let read : c.index.result.now ≡ slice_index c.self.inside.next.items (c.args.slot) =
    get_or_read c.self.inside.next.items (c.args.slot) c.index.result.now (omega (arith, asked, c.self.invariant.next_length)) c.index.ensures 0 in
    subst (λ (s : Chains). (moments order : List ℕ) (list at : ℕ) → Spells s moments order → list < s.lists
    → slice_get (members s.list_of list order) at ≡ Some c.args.slot → c.slot.result ≡ slice_get (members s.list_of list order) (at + 1)) c.self.view_is
    (λ moments order list at spells in' is. found ∙ ap (slot_at c.self.inside.slots) read ∙ older_of _ moments order list at c.args.slot spells in' is)
