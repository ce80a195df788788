use Rattle.std.proofs.Common.{[], length, ap, ◌∙◌, arith}
use Rattle.std.proofs.lemmas.List.{length-replicate}
use Rattle.slots_by_age.proofs.Moved.{order_of, tables-none}
use Rattle.slots_by_age.proofs.aged.SlotsByAge.new.Goals as goal

pub invariant_of-result : goal.invariant_of-result
invariant_of-result c =
    tables-none c.in_ok-new.field-0 c.in_ok-new-2.field-0 c.in_ok-vec.field-0.items c.args.slots c.args.kinds
    c.in_ok-vec-2.field-0.items c.in_ok-vec-3.field-0.items c.in_ok-new.ensures.slots c.in_ok-new.ensures.lists
    c.in_ok-new-2.ensures.slots c.in_ok-new-2.ensures.lists (omega (arith, c.requires.slots)) c.in_ok-new.ensures.empty c.in_ok-new-2.ensures.empty
    c.in_ok-new-2.ensures.first c.requires.some
    (ap length (c.in_ok-vec.ensures.items_if_clones_equal (λ y e. e)) ∙ length-replicate c.args.slots 0) (c.in_ok-vec-2.ensures.items_if_clones_equal (λ y e. e)) (c.in_ok-vec-3.ensures.items_if_clones_equal (λ y e. e))

pub returns : goal.returns
returns c = record {
  no_slot = order_of c.in_ok-new.field-0 [] [] (c.in_ok-new.ensures.empty []) c.in_ok-new.ensures.lists;
  no_moment = c.in_ok-vec.ensures.items_if_clones_equal (λ y e. e);
  slots_of = c.in_ok-new.ensures.slots;
  kinds_of = c.in_ok-new-2.ensures.lists;
}
