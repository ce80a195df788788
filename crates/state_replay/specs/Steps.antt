-- The next step on a link, by what it was told and what is wanted.
use Rattle.std.specs.Prelude.{ℕ, Bool, false, not, ◌&&◌, bytes_eq, nat_eq, if◌then◌else◌, List, [], ◌∷◌, Option, Some, None}
use Rattle.session_vars.specs.declared.change.SlotValue.{SlotValue}
use Rattle.session_vars.specs.declared.slot.Slot.TheVariants.{Autocommit}
use Rattle.session_vars.specs.Settings.{applied, difference_of, value_at}
use Rattle.session_vars.specs.Shapes.{changes_by}
use Rattle.session_vars.specs.Texts.{names_text, session_text}
use Rattle.session_state.specs.declared.place.Place.{Place}
use Rattle.session_state.specs.declared.place.Told.{Told}
use Rattle.state_replay.specs.declared.step.Step.{Step}
use Rattle.state_replay.specs.declared.step.Step.TheVariants.{InitDb, Prepare, SetId, SetText, Statement}

-- the link isn't known to be in this schema; nothing leads to none
abbrev pub needs_schema : (told : Option (List ℕ)) → (schema : List ℕ) → Bool
needs_schema None schema = not (bytes_eq schema [])
needs_schema (Some told) schema = not (bytes_eq told schema) && not (bytes_eq schema [])

abbrev pub text_step : (names session : Option (List ℕ)) → Option Step
text_step (Some text) session = Some (SetText text)
text_step None (Some text) = Some (SetText text)
text_step None None = None

-- SET NAMES first, then SET SESSION, of what differs
unfoldable pub settings_step : (told wanted : List SlotValue) → Option Step
settings_step told wanted = text_step (names_text (difference_of told wanted)) (session_text (difference_of told wanted))

abbrev pub place_step : Told → Place → Option Step
place_step told place = if needs_schema told.schema place.schema then Some (InitDb place.schema) else settings_step told.settings place.settings

-- to the insert id that the statement has to find
abbrev pub id_step : (known wanted : Option ℕ) → Step
id_step known None = Statement
id_step None (Some n) = SetId n
id_step (Some id) (Some n) = if nat_eq id n then Statement else SetId n

abbrev pub step_or : Option Step → Step → Step
step_or (Some step) other = step
step_or None other = other

abbrev pub next_step : Told → Place → (known wanted : Option ℕ) → Step
next_step told place known wanted = step_or (place_step told place) (id_step known wanted)

-- settings with autocommit as in others
unfoldable pub calm : (settings told : List SlotValue) → List SlotValue
calm settings told = applied settings (record { slot = Autocommit; value = value_at told Autocommit; adds = false } ∷ [])

abbrev pub preparation_step : Told → Place → Step
preparation_step told place =
    step_or (place_step told (record { schema = place.schema; settings = calm place.settings told.settings })) Prepare

-- what a step leaves, answered OK
abbrev pub after : Told → Step → Told
after told (InitDb schema) = record { schema = Some schema; settings = told.settings }
after told (SetText text) = record { schema = told.schema; settings = applied told.settings (changes_by (Some text)) }
after told _ = told
