-- What a message asks a server for, by what its client has prepared.
use Rattle.std.specs.Prelude.{◌≡◌, ℕ, nat_eq, if◌then◌else◌, List, drop, slice_index_or, unwrap_or, Option, Some, None}
use Rattle.std.specs.Option.{option_and_then, option_map, option_or}
use Rattle.mx_base.specs.Fields.{number_at}
use Rattle.packet_frame.specs.Packets.{spelling}
use Rattle.reply_track.specs.declared.reply.ReplyKind.{ReplyKind}
use Rattle.reply_track.specs.declared.reply.ReplyKind.TheVariants as kind
use Rattle.private_model.specs.Commands.{Args, Command}
use Rattle.private_model.specs.View.{Setup}
use Rattle.log_story.specs.Executes as executes
use Rattle.log_story.specs.Executes.{given_in, run_of, text_asked}
use Rattle.log_story.specs.Plan.{com_execute, com_field_list, com_init_db, com_prepare, com_query, text_payload}
use Rattle.log_story.specs.Servers.{kind_by}
use Rattle.stmt_map.specs.declared.client.ClientStatements.{ClientStatements}
use Rattle.client_seat.specs.Numbers.{Numbered, number_in}
use Rattle.client_seat.specs.declared.request.Request.{Request}
use Rattle.client_seat.specs.declared.request.Request.TheVariants.{Text, Run}

-- a command as a text; or the run of what is prepared under a key, which is a number of the client's router
pub data Asked : Type 0 where
  Says : Command → Asked
  Runs : (key : ℕ) → Args → Asked

-- what that is in a story, where its route has this key, its client stands in this schema, and numbers stand for the story's keys
abbrev pub request_of : Setup → (stands : List ℕ) → (key : ℕ) → (named : ℕ → ℕ) → Asked → executes.Request
request_of setup stands key named (Says command) = record { command = command; key = key }
request_of setup stands key named (Runs number args) = run_of setup args stands key (named number)

-- the text stands in place of the message's own
abbrev pub text_in : (payload : List ℕ) → (text : Option (List ℕ)) → Option Asked
text_in payload text = option_map (λ command. Says command) (text_asked (slice_index_or payload 0 0) (unwrap_or text (drop 1 payload)))

-- an execute with what was bound before
abbrev pub args_by : Numbered → (payload : List ℕ) → Args
args_by one payload =
    let sent = given_in one.prepared.params payload in
    record sent { types = option_or sent.types one.bound.types; long = one.bound.long }

abbrev pub run_in : ClientStatements → (payload : List ℕ) → Option Asked
run_in statements payload =
    option_map (λ (one : Numbered). Runs one.prepared.key (args_by one payload))
    (option_and_then (number_in statements) (number_at 4 1 payload))

abbrev pub asked_in : ClientStatements → (payload : List ℕ) → (text : Option (List ℕ)) → Option Asked
asked_in statements payload text =
    if nat_eq (slice_index_or payload 0 0) com_execute then run_in statements payload else text_in payload text

-- what kind of reply a command has that is sent as a text
abbrev pub kind_of : (byte : ℕ) → Option ReplyKind
kind_of byte =
    if nat_eq byte com_query then Some kind.Command
    else if nat_eq byte com_init_db then Some kind.Command
    else if nat_eq byte com_field_list then Some kind.Fields
    else if nat_eq byte com_prepare then Some kind.Prepare
    else None

-- a request in code is what is asked for, a text in its one spelling

pub record IsText (command : Command) (of : ReplyKind) (packets : List ℕ) : Type 0 where
  pub kind : of ≡ kind_by command
  pub spelt : packets ≡ spelling 0 (text_payload command)

pub record IsRun (key : ℕ) (args : Args) (is : ℕ) (with_args : Args) : Type 0 where
  pub same : is ≡ key
  pub given : with_args ≡ args

abbrev pub IsOf : Asked → Request → Type 0
IsOf (Says command) (Text kind packets) = IsText command kind packets.items
IsOf (Runs key args) (Run is with_args) = IsRun key args is with_args
IsOf _ _ = ⊥

abbrev pub IsAsked : Option Asked → Option Request → Type 0
IsAsked None None = Unit {0}
IsAsked (Some asked) (Some request) = IsOf asked request
IsAsked _ _ = ⊥
