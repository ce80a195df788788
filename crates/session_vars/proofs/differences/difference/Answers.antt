use Rattle.std.proofs.Common.{◌≡◌, ◌<◌, ◌+◌, ◌++◌, ℕ, List, drop, sym, ap, ◌∙◌, arith}
use Rattle.std.proofs.lemmas.List.{append-nil, at_drop_more}
use Rattle.session_vars.specs.Settings.{changes_of, padded}
use Rattle.session_vars.specs.Slots.{all_slots}
use Rattle.session_vars.specs.declared.slot.Slot.{Slot}
use Rattle.session_vars.proofs.Unchanged.{differ_nowhere}
use Rattle.session_vars.proofs.differences.difference.Goals as goal

pub loop-slot-preserved : goal.loop-slot-preserved
loop-slot-preserved c =
    let i = c.loop-slot.slot-index in
    let within : i < 67 = omega arith in
    c.in_ok-push_change.ensures (drop (i + 1) all_slots)
    ∙ sym (at_drop_more (λ (rest : List Slot). c.loop-slot.changes ++ changes_of c.args.from.now c.args.to.now rest) all_slots i _ within)
    ∙ c.loop-slot.invariant

-- where they are the same nothing has to change; all slots were passed
pub returns : goal.returns
returns c =
    let i = c.loop-slot.slot-index in
    let end : i ≡ 67 = omega arith in
    sym (append-nil c.loop-slot.changes)
    ∙ ap (λ (k : ℕ). c.loop-slot.changes ++ changes_of c.args.from.now c.args.to.now (drop k all_slots)) (sym end)
    ∙ c.loop-slot.invariant

pub returns-then-are_same : goal.returns-then-are_same
returns-then-are_same c =
    let same : c.args.from.now ≡ c.args.to.now = sym c.kept.ensures ∙ ap padded (c.are_same.ensures c.if-are_same.true) ∙ c.kept-2.ensures in
    c.new-changes.ensures ∙ sym (differ_nowhere c.args.from.now c.args.to.now same)
