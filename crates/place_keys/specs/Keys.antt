-- The bytes that a place goes by: its schema, and the value of each setting in their order.
use Rattle.std.specs.Prelude.{ℕ, nat_le, if◌then◌else◌, List, [], ◌∷◌, ◌++◌}
use Rattle.session_vars.specs.declared.change.SlotValue.{SlotValue}
use Rattle.session_vars.specs.declared.change.SlotValue.TheVariants.{Default, Text}
use Rattle.session_vars.specs.declared.slot.Slot.{Slot}
use Rattle.session_vars.specs.Settings.{value_at}
use Rattle.session_vars.specs.Slots.{all_slots}

-- a text ends with 0; a byte of it that is 0 or 1 stands behind a 1
abbrev pub spelled : List ℕ → List ℕ
spelled [] = 0 ∷ []
spelled (byte ∷ text) = if nat_le byte 1 then 1 ∷ byte ∷ spelled text else byte ∷ spelled text

abbrev pub value_key : SlotValue → List ℕ
value_key Default = 1 ∷ 2 ∷ []
value_key (Text text) = spelled text

abbrev pub values_key : (values : List SlotValue) → List Slot → List ℕ
values_key values [] = []
values_key values (slot ∷ slots) = value_key (value_at values slot) ++ values_key values slots

abbrev pub place_key : (schema : List ℕ) → (settings : List SlotValue) → List ℕ
place_key schema settings = spelled schema ++ values_key settings all_slots
