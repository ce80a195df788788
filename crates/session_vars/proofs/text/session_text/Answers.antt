use Rattle.std.proofs.Common.{◌≡◌, ◌≤◌, List, [], length, fold, eqb, sym, ◌∙◌, ap, arith}
use Rattle.std.proofs.lemmas.List.{at_drop_all}
use Rattle.session_vars.specs.Texts.{with_assignment}
use Rattle.session_vars.specs.declared.change.Change.{Change}
use Rattle.session_vars.proofs.Joining.{none_joined, some_joined}
use Rattle.session_vars.proofs.text.session_text.Goals as goal

pub returns-then-is_empty : goal.returns-then-is_empty
returns-then-is_empty c =
    let changes = c.args.changes.now in
    let past : length changes ≤ c.loop-change.change-index = omega arith in
    let whole : c.loop-change.text ≡ fold with_assignment [] changes = sym (at_drop_all (λ (rest : List Change). fold with_assignment c.loop-change.text rest) changes c.loop-change.change-index past) ∙ c.loop-change.invariant in
    none_joined c.loop-change.text changes whole (ap (λ bytes. eqb (length bytes) 0) (sym c.as_slice.ensures) ∙ sym c.is_empty.ensures ∙ c.if-is_empty.true)

pub returns-else-is_empty : goal.returns-else-is_empty
returns-else-is_empty c =
    let changes = c.args.changes.now in
    let past : length changes ≤ c.loop-change.change-index = omega arith in
    let whole : c.loop-change.text ≡ fold with_assignment [] changes = sym (at_drop_all (λ (rest : List Change). fold with_assignment c.loop-change.text rest) changes c.loop-change.change-index past) ∙ c.loop-change.invariant in
    some_joined c.loop-change.text changes whole (ap (λ bytes. eqb (length bytes) 0) (sym c.as_slice.ensures) ∙ sym c.is_empty.ensures ∙ c.if-is_empty.false)
