use Rattle.std.proofs.Common.{◌<◌, ◌+◌, ◌++◌, ℕ, List, drop, sym, ap, ◌∙◌, append_assoc, arith}
use Rattle.std.proofs.lemmas.List.{at_drop_more}
use Rattle.session_vars.specs.Slots.{all_slots}
use Rattle.session_vars.specs.declared.slot.Slot.{Slot}
use Rattle.session_vars.specs.declared.change.SlotValue.{SlotValue}
use Rattle.place_keys.specs.Keys.{value_key, values_key}
use Rattle.place_keys.proofs.key.place_key.Goals as goal

pub loop-slot-preserved : goal.loop-slot-preserved
loop-slot-preserved c =
    let i = c.loop-slot.slot-index in
    let within : i < 67 = omega arith in
    let key = c.loop-slot.key.items in
    let rest = values_key c.args.settings.now (drop (i + 1) all_slots) in
    ap (λ (l : List ℕ). l ++ rest) (c.in_ok-put_value.ensures ∙ ap (λ (v : SlotValue). key ++ value_key v) c.value.ensures.value)
    ∙ append_assoc key _ rest
    ∙ sym (at_drop_more (λ (slots : List Slot). key ++ values_key c.args.settings.now slots) all_slots i _ within)
    ∙ c.loop-slot.invariant
