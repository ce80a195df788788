-- What is known of a command by looking at it.
use Rattle.std.specs.Prelude.{ℕ, Bool, true, false, List, Option, Some, None}
use Rattle.session_state.specs.Endings.{warns}
use Rattle.session_state.specs.declared.reply_end.ReplyEnd.{ReplyEnd}
use Rattle.session_vars.specs.Settings.{changed}
use Rattle.session_vars.specs.declared.change.SlotValue.{SlotValue}
use Rattle.session_vars.specs.declared.change.SlotValue.TheVariants.{Default}
use Rattle.session_vars.specs.declared.slot.Slot.TheVariants.{Autocommit}
use Rattle.pin_classifier.specs.Classes.{class_of}
use Rattle.pin_classifier.specs.declared.class.Class.{Class}
use Rattle.session_state.specs.Classes.{Effect, Uses, Neither, effect_of, leaves_diag, leaves_found}
use Rattle.server_rule.specs.declared.command.Cmd.{Cmd}
use Rattle.server_rule.specs.declared.command.Cmd.TheVariants.{Query, InitDb, FieldList, Prepare, Run, Reset, Close}

-- The class of each text, and whether it may set the insert id in a way that no reply shows.
pub record Reads : Type 0 where
  pub class : List ℕ → Class
  pub hides_id : List ℕ → Bool

-- as the router reads them
unfoldable pub router_reads : Reads
router_reads = record { class = class_of; hides_id = λ text. (class_of text).sets_id }

-- the text that a command runs
abbrev pub text_run : Cmd → Option (List ℕ)
text_run (Query text) = Some text
text_run (Run text schema settings types nulls values long) = Some text
text_run _ = None

-- whether it may do what no reset takes back
abbrev pub outlasts_run : Reads → Cmd → Bool
outlasts_run reads (Query text) = (reads.class text).outlasts_reset
outlasts_run reads (Run text schema settings types nulls values long) = (reads.class text).outlasts_reset
outlasts_run reads _ = false

abbrev pub is_prepare : Cmd → Bool
is_prepare (Prepare text) = true
is_prepare _ = false

abbrev pub is_close : Cmd → Bool
is_close Close = true
is_close _ = false

-- settings but for autocommit
unfoldable pub core : List SlotValue → List SlotValue
core settings = changed settings (record { slot = Autocommit; value = Default; adds = false })

-- what a command changes of schema and settings, answered OK
abbrev pub effect_run : Reads → Cmd → Effect
effect_run reads (Query text) = effect_of (reads.class text)
effect_run reads (Run text schema settings types nulls values long) = effect_of (reads.class text)
effect_run reads (InitDb schema) = Uses schema
effect_run reads _ = Neither

-- Whether its answer may depend on what an earlier statement left to be shown, on how many rows one found, or on the insert
-- id. To prepare a text does nothing of what it says.

abbrev pub sees_diag : Reads → Cmd → Bool
sees_diag reads (Query text) = (reads.class text).reads_diag
sees_diag reads (Run text schema settings types nulls values long) = (reads.class text).reads_diag
sees_diag reads (InitDb schema) = false
sees_diag reads (FieldList rest) = false
sees_diag reads (Prepare text) = false
sees_diag reads Reset = true
sees_diag reads Close = true

abbrev pub sees_found : Reads → Cmd → Bool
sees_found reads (Query text) = (reads.class text).reads_found
sees_found reads (Run text schema settings types nulls values long) = (reads.class text).reads_found
sees_found reads (InitDb schema) = false
sees_found reads (FieldList rest) = false
sees_found reads (Prepare text) = false
sees_found reads Reset = true
sees_found reads Close = true

abbrev pub sees_id : Reads → Cmd → Bool
sees_id reads (Query text) = (reads.class text).marks_id
sees_id reads (Run text schema settings types nulls values long) = (reads.class text).marks_id
sees_id reads (InitDb schema) = false
sees_id reads (FieldList rest) = false
sees_id reads (Prepare text) = false
sees_id reads Reset = true
sees_id reads Close = true

-- Whether what it leaves to be shown is its own, or the number of rows found, answered so.

abbrev pub leaves_diag_run : Reads → Cmd → ReplyEnd → Bool
leaves_diag_run reads (Query text) end = leaves_diag (reads.class text) end
leaves_diag_run reads (Run text schema settings types nulls values long) end = leaves_diag (reads.class text) end
leaves_diag_run reads Reset end = false
leaves_diag_run reads Close end = false
leaves_diag_run reads _ end = warns end

abbrev pub leaves_found_run : Reads → Cmd → ReplyEnd → Bool
leaves_found_run reads (Query text) end = leaves_found (reads.class text) end
leaves_found_run reads (Run text schema settings types nulls values long) end = leaves_found (reads.class text) end
leaves_found_run reads _ end = false
