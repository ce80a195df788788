use Rattle.std.proofs.Common.{◌≡◌, ◌<◌, ◌++◌, ◌∷◌, [], List, length, take, get_or, sym, ap, ◌∙◌, arith}
use Rattle.std.proofs.lemmas.List.{take_all, take_more}
use Rattle.session_vars.specs.declared.change.SlotValue.{SlotValue}
use Rattle.session_vars.proofs.Leading.{same_value_is}
use Rattle.session_vars.proofs.differences.are_same.Goals as goal

-- the values at this place are the same too
pub loop-place-preserved : goal.loop-place-preserved
loop-place-preserved c =
    let from = c.args.from.now in
    let to = c.args.to.now in
    let place = c.loop-place.place in
    let a = c.index-from-place.result in
    let b = c.index-to-place.result in
    let in_to : place < length to = omega (arith, c.if-from-to.false) in
    let same : a ≡ b = same_value_is a b (sym c.same_value.ensures ∙ c.if-not-same_value.false) in
    take_more from place a c.loop-place-test.true
    ∙ ap (λ (front : List SlotValue). front ++ (get_or from place a ∷ [])) c.loop-place.invariant
    ∙ ap (λ (value : SlotValue). take place to ++ (value ∷ [])) (sym c.index-from-place.is ∙ same ∙ c.index-to-place.is)
    ∙ sym (take_more to place b in_to)

-- all places were passed
pub returns : goal.returns
returns c = λ same.
    let from = c.args.from.now in
    let to = c.args.to.now in
    let place = c.loop-place.place in
    sym (take_all place from c.loop-place-test.false) ∙ c.loop-place.invariant ∙ take_all place to (omega (arith, c.if-from-to.false))
