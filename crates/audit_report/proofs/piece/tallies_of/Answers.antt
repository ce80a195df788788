use Rattle.std.proofs.Common.{◌≡◌, ◌+◌, [], get_or, ap, ◌∙◌, arith, rules}
use Rattle.std.proofs.lemmas.Grind.{common_steps}
use Rattle.audit_report.specs.Keys.{key_of}
use Rattle.audit_report.specs.Tallies.{both, of_key}
use Rattle.audit_report.specs.declared.tally.Tally.{Tally}
use Rattle.audit_report.proofs.Tallying.{pushed}
use Rattle.audit_report.proofs.piece.tallies_of.Goals as goal

pub loop-at-preserved : goal.loop-at-preserved
loop-at-preserved c = λ q.
    let one : Tally = record { count = 1; first = c.args.place + c.loop-at.at } in
    let key : c.in_ok-key.key ≡ key_of (get_or c.args.lines.now c.loop-at.at []) =
    let line : c.as_slice.result.now ≡ get_or c.args.lines.now c.loop-at.at [] = first_of (search rules, grind (arith, common_steps)) in
    c.in_ok-key.ensures ∙ ap key_of line in
    c.in_ok-count.ensures q ∙ ap (λ o. both o (of_key c.in_ok-key.key one q)) (c.loop-at.invariant q)
    ∙ pushed q c.args.place c.loop-at.at c.args.lines.now c.in_ok-key.key c.loop-at-test.true key
