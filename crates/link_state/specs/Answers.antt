-- What an answer makes of a link, by how it ended: of what the link was told, of its insert id, and of what is prepared there.
use Rattle.std.specs.Prelude.{ℕ, Bool, true, if◌then◌else◌, List, [], Option, Some, None}
use Rattle.std.specs.Option.{option_or}
use Rattle.session_vars.specs.Settings.{defaults}
use Rattle.session_state.specs.Classes.{Effect, Uses, effect_of, settings_by}
use Rattle.session_state.specs.Endings.{is_err, is_ok}
use Rattle.session_state.specs.InsertIds.{id_after_text, id_prepared}
use Rattle.session_state.specs.declared.place.Told.{Told}
use Rattle.session_state.specs.declared.reply_end.ReplyEnd.{ReplyEnd}
use Rattle.link_state.specs.declared.asking.Asking.{Asking}
use Rattle.link_state.specs.declared.asking.Form.{Form}
use Rattle.link_state.specs.declared.asking.Form.TheVariants.{Text, Fields, Prepare, SetId, ReadId, Reset}
use Rattle.link_state.specs.declared.asking.Purpose.{Purpose}
use Rattle.link_state.specs.declared.asking.Purpose.TheVariants.{Statement, Prep, End}
use Rattle.link_state.specs.Stood.{stood}

-- What it was told.

abbrev pub schema_told : Effect → (ok : Bool) → Option (List ℕ) → Option (List ℕ)
schema_told (Uses schema) true old = Some schema
schema_told _ _ old = old

abbrev pub affected : Effect → (ok : Bool) → Told → Told
affected effect ok told = record { schema = schema_told effect ok told.schema; settings = settings_by effect ok told.settings }

abbrev pub told_by : Form → ReplyEnd → Told → Told
told_by (Text class) end told = affected (effect_of class) (is_ok end) told
told_by Reset end told = record { schema = None; settings = defaults }
told_by _ end told = told

-- Its insert id, where it is known; `number` is the one number of the answer.

abbrev pub id_in : Form → ReplyEnd → (number old : Option ℕ) → Option ℕ
id_in (Text class) end number old = id_after_text class class.sets_id end old
id_in Fields end number old = old
id_in (Prepare class) end number old = id_prepared class end old
id_in (SetId n) end number old = if is_ok end then Some n else old
id_in ReadId end number old = if is_err end then old else option_or number old
id_in Reset end number old = Some 0

-- a preparation on the way to a statement leaves it
abbrev pub id_for : Purpose → Form → ReplyEnd → (number old : Option ℕ) → Option ℕ
id_for (Prep name ordinal key) form end number old = old
id_for _ form end number old = id_in form end number old

abbrev pub id_by : Asking → ReplyEnd → (number old : Option ℕ) → Option ℕ
id_by asking end number old = id_for asking.purpose asking.form end number old

-- What is prepared.

abbrev pub live_of_key : (key : ℕ) → ReplyEnd → List (ℕ × ℕ) → List (ℕ × ℕ)
live_of_key key end live = if is_err end then live else stood live key end.server_number

abbrev pub live_for : Purpose → Form → ReplyEnd → List (ℕ × ℕ) → List (ℕ × ℕ)
live_for (Statement name ordinal key) (Prepare class) end live = live_of_key key end live
live_for (Prep name ordinal key) form end live = live_of_key key end live
live_for (End name) form end live = []
live_for _ form end live = live

abbrev pub live_by : Asking → ReplyEnd → List (ℕ × ℕ) → List (ℕ × ℕ)
live_by asking end live = live_for asking.purpose asking.form end live
