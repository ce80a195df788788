use Rattle.std.specs.Prelude.{◌≡◌, ◌≤◌, ◌+◌, ℕ, List, length, take}
use Rattle.std.proofs.Common.{ap, arith, get_or, subst, sym}
use Rattle.std.proofs.lemmas.List.{take_more}
use Rattle.run_laws.specs.Wholes.{AreShort, limit}
use Rattle.session_vars.specs.declared.long_part.LongPart.{LongPart}
use Rattle.core_turns.proofs.Named.{short-push}
use Rattle.core_turns.proofs.judged.measure.Goals as goal

pub loop-part-preserved : goal.loop-part-preserved
loop-part-preserved c =
    let parts = c.parts-parts.result.now in
    let i = c.loop-part.part-index in
    let part = c.part-item.result in
    let same : length c.as_slice-size.result.now ≡ length part.bytes = ap (λ (bytes : List ℕ). length bytes) c.as_slice-size.ensures in
    let fits : 7 + length part.bytes ≤ limit = omega (arith, same) in
    subst AreShort (sym (take_more parts i part c.loop-part-test.true))
    (short-push (take i parts) (get_or parts i part) c.loop-part.invariant (subst (λ (p : LongPart). 7 + length p.bytes ≤ limit) c.part-item.is fits))
