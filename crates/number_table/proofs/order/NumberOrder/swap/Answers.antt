use Rattle.std.proofs.Common.{◌≡◌, ◌<◌, length, ◌∙◌}
use Rattle.std.specs.Prelude.{slice_index}
use Rattle.std.proofs.lemmas.List.{get_or_default}
use Rattle.number_table.proofs.Swapping.{inverse-swap}
use Rattle.number_table.proofs.order.NumberOrder.swap.Goals as goal

pub invariant_of-self : goal.invariant_of-self
invariant_of-self c =
    let numbers = c.self.inside.numbers.items in
    let a_within : c.args.a < length numbers = rw c.self.view_is c.requires.a in
    let b_within : c.args.b < length numbers = rw c.self.view_is c.requires.b in
    let first : c.index.result.now ≡ slice_index numbers c.args.a =
    c.index.ensures ∙ get_or_default numbers c.args.a c.index.result.now 0 a_within in
    let second : c.index-2.result.now ≡ slice_index numbers c.args.b =
    c.index-2.ensures ∙ get_or_default numbers c.args.b c.index-2.result.now 0 b_within in
    rw (c.swap.ensures.items, first, second)
    (inverse-swap numbers c.self.inside.places.items c.self.invariant c.args.a c.args.b a_within b_within)
