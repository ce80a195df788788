use Rattle.std.proofs.Common.{◌≡◌, ◌++◌, drop}
use Rattle.session_vars.specs.Slots.{all_slots}
use Rattle.place_keys.specs.Keys.{place_key, values_key}
use Rattle.place_keys.proofs.key.place_key.Given as goal

abbrev pub invariant-loop-slot : goal.invariant-loop-slot
invariant-loop-slot l = l.key.items ++ values_key l.settings (drop l.slot-index all_slots) ≡ place_key l.schema l.settings
