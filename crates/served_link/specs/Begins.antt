-- What is to be written next on a link.
use Rattle.std.specs.Prelude.{ℕ, List, [], ◌∷◌, ◌++◌, codes, decimal, Some, None}
use Rattle.mx_base.specs.declared.tag.Tag.{Tag}
use Rattle.mx_base.specs.declared.tag.Tag.TheVariants as tags
use Rattle.pin_classifier.specs.Classes.{class_of}
use Rattle.reply_relay.specs.Cells.{new_cell}
use Rattle.session_state.specs.declared.names.SessionName.{SessionName}
use Rattle.link_state.specs.Asks.{tag_of}
use Rattle.link_state.specs.Classes.{use_class}
use Rattle.link_state.specs.Spells.{spelt, with_number}
use Rattle.link_state.specs.declared.asking.Asking.{Asking}
use Rattle.link_state.specs.declared.asking.Form.TheVariants as forms
use Rattle.link_state.specs.declared.asking.Purpose.{Purpose}
use Rattle.link_state.specs.declared.asking.Purpose.TheVariants as purposes
use Rattle.link_state.specs.declared.wish.Wish.{Wish}
use Rattle.link_state.specs.declared.wish.Wish.TheVariants as wishes
use Rattle.lent_link.specs.Links.{stands_next}
use Rattle.lent_link.specs.declared.link.Begins.{Begins}
use Rattle.lent_link.specs.declared.link.Begins.TheVariants as begins
use Rattle.served_link.specs.declared.row.Row.{Row}

abbrev pub stands : Tag → (bytes : List ℕ) → Begins → (first number : ℕ) → Row → Row
stands tag bytes next first number row =
    record row { link = stands_next tag bytes next first number row.link; longer = None; multiplex = None; cell = None }

-- a question of the router's own
abbrev pub asks : Asking → (bytes : List ℕ) → Row → Row
asks asking bytes row = stands (tag_of asking.purpose) bytes (begins.Asks asking) 1 0 row

-- Steps.

abbrev pub step_begins : Purpose → Wish → Row → Row
step_begins purpose (wishes.Schema schema) row = asks (record { purpose = purpose; form = forms.Text (use_class schema) }) (spelt (2 ∷ schema)) row
step_begins purpose (wishes.Settings text) row = asks (record { purpose = purpose; form = forms.Text (class_of text) }) (spelt (3 ∷ text)) row
step_begins purpose (wishes.SetId id) row =
    asks (record { purpose = purpose; form = forms.SetId id }) (spelt (3 ∷ (codes "SET SESSION last_insert_id = " ++ decimal id))) row
step_begins purpose (wishes.Closes number) row = stands tags.Own (spelt (with_number 0x19 number)) (begins.Closes number) 1 0 row
step_begins purpose (wishes.Resets number) row = stands tags.Own (spelt (with_number 0x1a number)) (begins.Resets number) 1 0 row
step_begins purpose _ row = row

abbrev pub prepares : SessionName → (ordinal key : ℕ) → (text : List ℕ) → Row → Row
prepares name ordinal key text row =
    asks (record { purpose = purposes.Prep name ordinal key; form = forms.Prepare (class_of text) }) (spelt (0x16 ∷ text)) row

-- Ends.

abbrev pub ends : SessionName → Row → Row
ends name row = asks (record { purpose = purposes.End name; form = forms.Reset }) (spelt (0x1f ∷ [])) row

abbrev pub captures : SessionName → Row → Row
captures name row = record (asks (record { purpose = purposes.Capture name; form = forms.ReadId }) (spelt (3 ∷ codes "SELECT LAST_INSERT_ID()")) row)
    { cell = Some new_cell }

abbrev pub farewell : Row → Row
farewell row = stands tags.Own (spelt (1 ∷ [])) begins.Quits 1 0 row
