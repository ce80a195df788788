-- What a statement does by its class, answered so.
use Rattle.std.specs.Prelude.{ℕ, Bool, true, false, not, ◌&&◌, ◌||◌, List}
use Rattle.std.specs.List.{list_any}
use Rattle.session_vars.specs.Settings.{applied}
use Rattle.session_vars.specs.declared.change.Change.{Change}
use Rattle.session_vars.specs.declared.change.SlotValue.{SlotValue}
use Rattle.session_vars.specs.declared.shape.SetShape.{SetShape}
use Rattle.session_vars.specs.declared.shape.SetShape.TheVariants as sets
use Rattle.session_vars.specs.declared.slot.Slot.{Slot}
use Rattle.session_vars.specs.declared.slot.Slot.TheVariants.{Autocommit}
use Rattle.pin_classifier.specs.declared.class.Class.{Class}
use Rattle.pin_classifier.specs.declared.class.Locking.{Locking}
use Rattle.pin_classifier.specs.declared.class.Locking.TheVariants.{Takes, Frees}
use Rattle.pin_classifier.specs.declared.class.Shape.{Shape}
use Rattle.pin_classifier.specs.declared.class.Shape.TheVariants as shapes
use Rattle.session_state.specs.Endings.{is_ok, is_err, shows_neither, warns}
use Rattle.session_state.specs.declared.reply_end.ReplyEnd.{ReplyEnd}

abbrev pub takes_by : Locking → Bool
takes_by Takes = true
takes_by _ = false

abbrev pub frees_by : Locking → Bool
frees_by Frees = true
frees_by _ = false

abbrev pub takes : Class → Bool
takes class = takes_by class.locks

abbrev pub frees : Class → Bool
frees class = frees_by class.locks

abbrev pub takes_locks : Class → ReplyEnd → Bool
takes_locks class end = takes class && not (is_err end)

abbrev pub frees_locks : Class → ReplyEnd → Bool
frees_locks class end = frees class && is_ok end

abbrev pub sets_next : Class → ReplyEnd → Bool
sets_next class end = class.next_tx && is_ok end

-- Its diagnostics are its own: it uses a table, or its reply warns and it reads no older ones.
abbrev pub leaves_diag : Class → ReplyEnd → Bool
leaves_diag class end = not class.keeps_diag || (not class.reads_diag && warns end)

-- it counted the rows that it found
abbrev pub leaves_found : Class → ReplyEnd → Bool
leaves_found class end = not class.keeps_found && not (is_err end)

-- A savepoint that no transaction takes along: its reply shows none, and no autocommit, under which there would be no savepoint
-- either. One that is refused isn't set.
abbrev pub is_lone_savepoint : Class → ReplyEnd → Bool
is_lone_savepoint class end = class.savepoint && shows_neither end

-- What it changes of schema and settings, answered OK.
pub data Effect : Type 0 where
  Tracked : (changes : List Change) → Effect  -- a tracked SET
  Uses : (schema : List ℕ) → Effect  -- another schema
  Neither : Effect

abbrev pub set_effect : SetShape → Effect
set_effect (sets.Tracked changes) = Tracked changes
set_effect _ = Neither

abbrev pub effect_in : Shape → Effect
effect_in (shapes.Set shape) = set_effect shape
effect_in (shapes.Use schema) = Uses schema
effect_in _ = Neither

abbrev pub effect_of : Class → Effect
effect_of class = effect_in class.shape

abbrev pub is_effect : Effect → Bool
is_effect Neither = false
is_effect _ = true

-- it sets tracked settings, or chooses a schema
abbrev pub changes_place : Class → Bool
changes_place class = is_effect (effect_of class)

abbrev pub is_autocommit : Slot → Bool
is_autocommit Autocommit = true
is_autocommit _ = false

-- autocommit is among the settings
abbrev pub sets_autocommit : List Change → Bool
sets_autocommit changes = list_any (λ change. is_autocommit change.slot) changes

abbrev pub schema_by : Effect → (ok : Bool) → List ℕ → List ℕ
schema_by (Uses schema) true old = schema
schema_by _ _ old = old

abbrev pub settings_by : Effect → (ok : Bool) → List SlotValue → List SlotValue
settings_by (Tracked changes) true old = applied old changes
settings_by _ _ old = old
