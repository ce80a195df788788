-- Steps to a place: to its schema, and then to its settings by SET NAMES where character sets differ, and then by SET SESSION.
use Rattle.std.specs.Prelude.{ℕ, Bool, false, not, bytes_eq, if◌then◌else◌, unwrap_or, List, [], ◌∷◌, Option, Some, None}
use Rattle.std.specs.Option.{option_or}
use Rattle.session_vars.specs.Settings.{changed, difference_of, value_at}
use Rattle.session_vars.specs.Texts.{names_text, session_text}
use Rattle.session_vars.specs.declared.change.Change.{Change}
use Rattle.session_vars.specs.declared.change.SlotValue.{SlotValue}
use Rattle.session_vars.specs.declared.slot.Slot.TheVariants.{Autocommit}
use Rattle.session_state.specs.declared.place.Place.{Place}
use Rattle.session_state.specs.declared.place.Told.{Told}
use Rattle.link_state.specs.declared.wish.Wish.{Wish}
use Rattle.link_state.specs.declared.wish.Wish.TheVariants.{Schema, Settings}

abbrev pub is_schema : Option (List ℕ) → (schema : List ℕ) → Bool
is_schema (Some told) schema = bytes_eq told schema
is_schema None schema = false

abbrev pub first_text : (names session : Option (List ℕ)) → List ℕ
first_text names session = unwrap_or (option_or names session) []

-- the text that makes changes, or the first of two
abbrev pub text_of : List Change → Option (List ℕ)
text_of [] = None
text_of (change ∷ changes) = Some (first_text (names_text (change ∷ changes)) (session_text (change ∷ changes)))

-- settings with autocommit as a link was told it
abbrev pub calm : (settings told : List SlotValue) → List SlotValue
calm settings told = changed settings (record { slot = Autocommit; value = value_at told Autocommit; adds = false })

abbrev pub calm_place : Place → Told → Place
calm_place place told = record { schema = place.schema; settings = calm place.settings told.settings }

abbrev pub settings_wish : Option (List ℕ) → Option Wish
settings_wish None = None
settings_wish (Some text) = Some (Settings text)

abbrev pub place_wish : Told → Place → Option Wish
place_wish told place =
    if not (is_schema told.schema place.schema) then Some (Schema place.schema)
    else settings_wish (text_of (difference_of told.settings place.settings))
