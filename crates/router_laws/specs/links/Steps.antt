-- Which step of the router's own begins with what stands next on a link: by its row alone.
use Rattle.std.specs.Prelude.{◌%◌, ◌^◌, ℕ, is_some, nat_eq, if◌then◌else◌, List, [], ◌∷◌, length, Option, Some, None}
use Rattle.std.specs.Option.{option_and_then}
use Rattle.std.proofs.Math.Nat.{mod-lt, zero-lt-suc}
use Rattle.packet_frame.specs.Packets.{Found, first_message}
use Rattle.packet_frame.specs.Packets.Found.{Faulty, Nothing, Whole}
use Rattle.private_model.specs.Commands.{Command, InitDb, Number, Query, Quit, SetId}
use Rattle.private_model.specs.Names.{LinkId}
use Rattle.log_story.specs.Plan.{Asks, Closes, Resets, StepText, com_init_db}
use Rattle.link_state.specs.declared.asking.Asking.{Asking}
use Rattle.link_state.specs.declared.asking.Form.{Form}
use Rattle.link_state.specs.declared.asking.Form.TheVariants as forms
use Rattle.link_state.specs.declared.asking.Purpose.{Purpose}
use Rattle.link_state.specs.declared.asking.Purpose.TheVariants as purposes
use Rattle.link_state.specs.declared.writing.Writing.{Writing}
use Rattle.lent_link.specs.declared.link.Begins.{Begins}
use Rattle.lent_link.specs.declared.link.Begins.TheVariants as begins
use Rattle.served_link.specs.declared.row.Row.{Row}
use Rattle.core_tables.specs.Tables.{Tabled}
use Rattle.core_tables.specs.declared.server.Server.{Server}

-- the payload of the one message that bytes spell

abbrev pub payload_found : Found → List ℕ
payload_found (Whole message rest) = message.payload
payload_found Nothing = []
payload_found (Faulty fault) = []

abbrev pub payload_of : List ℕ → List ℕ
payload_of bytes = payload_found (first_message (length bytes) 0 bytes)

abbrev pub payload_in : Option Writing → List ℕ
payload_in None = []
payload_in (Some w) = payload_of w.bytes

-- the command: to a schema, to settings or to an insert id

abbrev pub text_command : (payload : List ℕ) → Command
text_command [] = Query []
text_command (byte ∷ text) = if nat_eq byte com_init_db then InitDb text else Query text

abbrev pub id_of : ℕ → Number
id_of n = record { value = n % 2 ^ 64; fits = mod-lt n (zero-lt-suc 18446744073709551615) }

abbrev pub command_by : Form → (payload : List ℕ) → Command
command_by (forms.SetId id) payload = SetId (id_of id)
command_by form payload = text_command payload

abbrev pub step_for : Purpose → Form → Option Writing → Option StepText
step_for (purposes.Sync name) form writing = Some (Asks (command_by form (payload_in writing)))
step_for purposes.Own form writing = Some (Asks (command_by form (payload_in writing)))
step_for _ form writing = None

abbrev pub step_by : Option Begins → Option Writing → Option StepText
step_by (Some (begins.Asks asking)) writing = step_for asking.purpose asking.form writing
step_by (Some (begins.Closes number)) writing = Some (Closes number)
step_by (Some (begins.Resets number)) writing = Some (Resets number)
step_by (Some begins.Quits) writing = Some (Asks Quit)
step_by None writing = None

abbrev pub step_of : Row → Option StepText
step_of row = step_by row.link.next row.link.writing

-- what the plan is to have as the step that begins there now, if it is to have one
abbrev pub step_on : LinkId → Tabled → Option StepText
step_on l t = option_and_then (λ (server : Server). step_of server.row) (t.links l)

-- whether something begins as bytes are written there, and which step that is, if it is one

abbrev pub begins_of : Row → Option (Option StepText)
begins_of row = if is_some row.link.next then Some (step_of row) else None

abbrev pub begins_on : LinkId → Tabled → Option (Option StepText)
begins_on l t = option_and_then (λ (server : Server). begins_of server.row) (t.links l)
