-- What a client's message that came up makes of the client, as it is taken up.
use Rattle.std.specs.Prelude.{◌≡◌, ℕ, Bool, false, true, IfSome, IsSome, List, Option, Some, None}
use Rattle.std.specs.Option.{option_and_then}
use Rattle.mx_base.specs.declared.names.ClientNo.{ClientNo}
use Rattle.mx_base.specs.declared.names.Hostgroup.{Hostgroup}
use Rattle.packet_frame.specs.Packets.{Framed, spelling}
use Rattle.private_model.specs.Commands.{Args, Command}
use Rattle.log_story.specs.Plan.{text_payload}
use Rattle.stmt_map.specs.declared.client.ClientStatements.{ClientStatements}
use Rattle.link_state.specs.Asks.{marks}
use Rattle.link_state.specs.declared.asking.Form.{Form}
use Rattle.link_state.specs.declared.wish.Command as links
use Rattle.link_state.specs.declared.wish.Command.TheVariants.{Plain, Prepare, Execute}
use Rattle.client_side.specs.declared.stage.Stage.TheVariants.{Commands}
use Rattle.client_seat.specs.Answers.{grown, replied}
use Rattle.client_seat.specs.Numbers.{AreNoted}
use Rattle.client_seat.specs.Requests.{Asked, Runs, Says, asked_in}
use Rattle.client_seat.specs.Seats.{ended}
use Rattle.client_seat.specs.Takings.{taken, taken_to}
use Rattle.client_seat.specs.declared.seat.Seat.{Seat}
use Rattle.client_desk.specs.Desks.{taken_on}
use Rattle.client_desk.specs.declared.work.Body.TheVariants.{Packets, Run, Away}
use Rattle.client_desk.specs.declared.work.Work.{Work}
use Rattle.core_tables.specs.Arrivals.{seated}
use Rattle.core_tables.specs.Parting.{left_in}
use Rattle.core_tables.specs.Tables.{IsSame, Tabled, client_changed}
use Rattle.core_tables.specs.declared.client.Client.{Client}

-- the message that came up
abbrev pub found_of : Client → Option Framed
found_of client = client.desk.seat.client.framer.found

-- The message is behind, and goes to no server. Rules are tried first by this flag from now on, and `statements` is what the client has prepared.

abbrev pub passes_found : (flag : ℕ) → ClientStatements → Option Framed → Client → Client
passes_found flag statements None client = client
passes_found flag statements (Some message) client = record (seated (taken flag message statements) client) { went = None }

abbrev pub passes : (flag : ℕ) → ClientStatements → Client → Client
passes flag statements client = passes_found flag statements (found_of client) client

-- and the router answers it itself, in these packets
abbrev pub answers : (flag : ℕ) → (packets : List ℕ) → ClientStatements → Client → Client
answers flag packets statements client = seated (λ seat. replied (grown packets seat)) (passes flag statements client)

-- A COM_RESET_CONNECTION: the client has left its sessions before.
abbrev pub begins_anew : ClientNo → (flag : ℕ) → (packets : List ℕ) → ClientStatements → Tabled → Tabled
begins_anew c flag packets statements t = client_changed c (answers flag packets statements) (left_in c (λ (seat : Seat). seat) t)

-- A COM_QUIT: the client has ended before, and left them.
abbrev pub quits : ClientNo → (flag : ℕ) → ClientStatements → Tabled → Tabled
quits c flag statements t = client_changed c (passes flag statements) (left_in c ended t)

-- It goes to a server, and its statement is due.

abbrev pub goes_found : (flag : ℕ) → Work → ClientStatements → Option Framed → Client → Client
goes_found flag work statements None client = client
goes_found flag work statements (Some message) client =
    let passed = seated (taken_to work.hostgroup flag message statements) client in
    record passed { desk = taken_on work passed.desk; went = Some work.hostgroup }

abbrev pub goes : (flag : ℕ) → Work → ClientStatements → Client → Client
goes flag work statements client = goes_found flag work statements (found_of client) client

-- a statement that is sent as a text, in these packets
abbrev pub text_work : (ordinal : ℕ) → Hostgroup → (since_ms : ℕ) → (multiplex : Option Bool) → Form → (packets : List ℕ) → Work
text_work ordinal hostgroup since_ms multiplex form packets = record {
  ordinal = ordinal;
  hostgroup = hostgroup;
  since_ms = since_ms;
  anew = true;
  multiplex = multiplex;
  key = 0;
  command = Plain;
  marks = marks form;
  form = Some form;
  body = Packets packets;
  sent = false;
}

-- a statement whose body is to come: a text that it prepares or executes has this key
abbrev pub bare_work : (ordinal : ℕ) → Hostgroup → (since_ms : ℕ) → (multiplex : Option Bool) → (key : ℕ) → links.Command → Form → Work
bare_work ordinal hostgroup since_ms multiplex key command form = record {
  ordinal = ordinal;
  hostgroup = hostgroup;
  since_ms = since_ms;
  anew = true;
  multiplex = multiplex;
  key = key;
  command = command;
  marks = marks form;
  form = Some form;
  body = Away;
  sent = false;
}

-- that is packets, or the arguments of an execute

abbrev pub with_packets : Work → (packets : List ℕ) → Work
with_packets work packets = record work { body = Packets packets }

abbrev pub with_args : Work → Args → Work
with_args work args = record work { body = Run args }

-- a STMT_PREPARE, and an execute

abbrev pub prepare_work : (ordinal : ℕ) → Hostgroup → (since_ms : ℕ) → (multiplex : Option Bool) → (key : ℕ) → Form → (packets : List ℕ) → Work
prepare_work ordinal hostgroup since_ms multiplex key form = with_packets (bare_work ordinal hostgroup since_ms multiplex key Prepare form)

abbrev pub run_work : (ordinal : ℕ) → Hostgroup → (since_ms : ℕ) → (multiplex : Option Bool) → (key : ℕ) → Form → Args → Work
run_work ordinal hostgroup since_ms multiplex key form = with_args (bare_work ordinal hostgroup since_ms multiplex key Execute form)

-- What code asks of a client's row, and says of it.

-- a message came up, past the login
pub record IsUpAt (client : Client) : Type 0 where
  pub found : IsSome (found_of client)
  pub past_login : client.desk.seat.client.stage ≡ Commands

abbrev pub IsUpOr : Option Client → Type 0
IsUpOr None = ⊥
IsUpOr (Some client) = IsUpAt client

-- What it has prepared then, by its message, of which the router may have refused that it goes to a server.

abbrev pub AreNotedOf : (refused : Bool) → Client → ClientStatements → Type 0
AreNotedOf refused client statements =
    IfSome (found_of client) (λ (message : Framed). AreNoted refused message.payload client.desk.seat.statements statements)

abbrev pub AreNotedIn : (refused : Bool) → Option Client → ClientStatements → Type 0
AreNotedIn refused None statements = Unit {0}
AreNotedIn refused (Some client) statements = AreNotedOf refused client statements

-- what becomes of a client that has prepared these then
pub record IsTaken (refused : Bool) (by : ClientStatements → Client → Client) (c : ClientNo) (old new : Tabled) : Type 0 where
  pub statements : ClientStatements
  pub noted : AreNotedIn refused (old.clients c) statements
  pub same : IsSame new (client_changed c (by statements) old)

-- what its message asks for, with this text in place of its own
abbrev pub asked_of : Client → (text : Option (List ℕ)) → Option Asked
asked_of client text =
    option_and_then (λ (message : Framed). asked_in client.desk.seat.statements message.payload text) (found_of client)

-- it goes to a server, and asks for this: a statement of it is due, which is this one by its packets
pub record IsSentAs (flag : ℕ) (text : Option (List ℕ)) (work : (packets : List ℕ) → Work) (old new : Client) : Type 0 where
  pub command : Command
  pub asked : asked_of old text ≡ Some (Says command)
  pub is : new ≡ goes flag (work (spelling 0 (text_payload command))) new.desk.seat.statements old
  pub noted : AreNotedOf false old new.desk.seat.statements

pub record IsDue (flag : ℕ) (text : Option (List ℕ)) (work : (packets : List ℕ) → Work) (c : ClientNo) (old new : Tabled) : Type 0 where
  pub row : Client
  pub there : old.clients c ≡ Some row
  pub command : Command
  pub asked : asked_of row text ≡ Some (Says command)
  pub taken : IsTaken false (goes flag (work (spelling 0 (text_payload command)))) c old new

-- an execute goes to a server: a statement of it is due, which is this one by its arguments
pub record IsRunAs (flag : ℕ) (work : Args → Work) (old new : Client) : Type 0 where
  pub key : ℕ
  pub args : Args
  pub asked : asked_of old None ≡ Some (Runs key args)
  pub is : new ≡ goes flag (work args) new.desk.seat.statements old
  pub noted : AreNotedOf false old new.desk.seat.statements

pub record IsRunDue (flag : ℕ) (work : Args → Work) (c : ClientNo) (old new : Tabled) : Type 0 where
  pub row : Client
  pub there : old.clients c ≡ Some row
  pub key : ℕ
  pub args : Args
  pub asked : asked_of row None ≡ Some (Runs key args)
  pub taken : IsTaken false (goes flag (work args)) c old new
