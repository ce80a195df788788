-- What a server in code does on a link.
use Rattle.std.specs.Prelude.{ℕ, Bool, true, false, not, ◌&&◌, nat_eq, bit_and, List, [], ◌∷◌, ◌++◌, codes, Option, Some, None, if◌then◌else◌}
use Rattle.mx_base.specs.declared.names.ClientNo.{ClientNo}
use Rattle.mx_wire.specs.declared.wire.Got.{Got}
use Rattle.mx_wire.specs.declared.wire.Got.TheVariants as got
use Rattle.packet_frame.specs.Packets.{Framed, spelling, spellings}
use Rattle.reply_text.specs.Replies.{err_payload, ok_payload}
use Rattle.handshake.specs.declared.response.Response.{Response}
use Rattle.client_side.specs.Client.{ClientState, counted, fed, login_of, new_client, past_message}
use Rattle.client_side.specs.Steps.{Next, next_of}
use Rattle.client_side.specs.declared.stage.Stage.{Stage}
use Rattle.client_side.specs.declared.stage.Stage.TheVariants as stage
use Rattle.client_side.specs.declared.step.ClientStep.{ClientStep}
use Rattle.client_side.specs.declared.step.ClientStep.TheVariants as client_step
use Rattle.server_rule.specs.declared.session.Capabilities.{Capabilities}
use Rattle.server_rule.specs.Servers.{Step, fresh}
use Rattle.server_rule.specs.declared.command.Cmd.TheVariants as cmd
use Rattle.scripted_wire.specs.Asked.{asks}
use Rattle.scripted_wire.specs.Hosts.{Hosted, Ran, ran}
use Rattle.scripted_wire.specs.declared.asked.Asked.{Asked}
use Rattle.scripted_wire.specs.declared.asked.Asked.TheVariants as asked
use Rattle.scripted_wire.specs.declared.did.Did.{Did}
use Rattle.scripted_wire.specs.declared.did.Did.TheVariants as did
use Rattle.scripted_wire.specs.declared.server_link.ServerLink.{ServerLink}
use Rattle.scripted_wire.specs.declared.server_link.LetsIn.{LetsIn}
use Rattle.scripted_wire.specs.declared.server_link.LetsIn.TheVariants as whom

-- a link on which the server's greeting is to be read
abbrev pub first_link : LetsIn → (server : ℕ) → ClientNo → (salt : List ℕ) → ServerLink
first_link lets_in server number salt = record { client = new_client number salt 1073741824 (codes "8.0.30-scripted"); lets_in = lets_in; server = server; seat = None; ended = false }

-- bytes are written there
abbrev pub hears : List ℕ → ServerLink → ServerLink
hears bytes link = record link { client = fed link.client bytes }

-- and read
abbrev pub link_read : Got → ServerLink → ServerLink
link_read (got.Got n) link = record link { client = record link.client { outgoing = Rattle.std.specs.Prelude.drop n link.client.outgoing } }
link_read _ link = link

-- What the server does at a wake: the link, the servers and sessions behind it, and what that is in the log.
pub record Served : Type 0 where
  pub link : ServerLink
  pub hosted : Hosted
  pub did : Did

abbrev pub answered : List ℕ → ServerLink → ServerLink
answered bytes link = record link { client = record link.client { outgoing = link.client.outgoing ++ bytes } }

abbrev pub says : (first : ℕ) → Option (List (List ℕ)) → ServerLink → ServerLink
says first None link = link
says first (Some payloads) link = answered (spellings first payloads) link

-- the session is closed, where there is one, and nothing more is heard

abbrev pub drops_in : Step → Option ℕ → ServerLink → Hosted → Served
drops_in step None link hosted = record { link = link; hosted = hosted; did = did.Nothing }
drops_in step (Some seat) link hosted = record { link = link; hosted = (ran step seat cmd.Close hosted).hosted; did = did.Dropped }

abbrev pub drops : Step → ServerLink → Hosted → Served
drops step link hosted = drops_in step link.seat (record link { ended = true }) hosted

-- nothing is left to run: the session of a link that the router has closed is closed too
abbrev pub rests : Step → (closed : Bool) → ServerLink → Hosted → Served
rests step closed link hosted = if closed then drops step link hosted else record { link = link; hosted = hosted; did = did.Nothing }

-- what was found is done with
abbrev pub past_found : Option Framed → ClientState → ClientState
past_found None client = client
past_found (Some message) client = record client { framer = past_message message client.framer; arrived = counted client.arrived }

abbrev pub done_by : Stage → ClientState → ClientState
done_by (stage.Login response first) client = record client { stage = stage.Commands }
done_by _ client = past_found client.framer.found client

abbrev pub done : ClientState → ClientState
done client = done_by client.stage client

-- Who logs in is let in by an OK, and its session is fresh; or it is turned away.

-- one without a password answers the salt with nothing
abbrev pub is_welcome : LetsIn → Response → Bool
is_welcome whom.Anybody response = true
is_welcome whom.WithoutPassword response = nat_eq (Rattle.std.specs.Prelude.length response.answer) 0

abbrev pub denied : List ℕ
denied = err_payload 1045 (codes "28000") (codes "Access denied")

abbrev pub turned_away : (first : ℕ) → ServerLink → ServerLink
turned_away first link = record (answered (spelling first denied) link) { ended = true }

abbrev pub has_bit : (bit capabilities : ℕ) → Bool
has_bit bit capabilities = not (nat_eq (bit_and capabilities bit) 0)

-- what it asks for that changes what a server answers
abbrev pub asked_for : (capabilities : ℕ) → Capabilities
asked_for capabilities = record {
  found_rows = has_bit 0x2 capabilities;
  multi_results = has_bit 0x20000 capabilities && has_bit 0x40000 capabilities;
  ignore_space = has_bit 0x100 capabilities;
}

abbrev pub seated : ServerLink → Response → Hosted → Hosted
seated link response hosted =
    record hosted { seats = hosted.seats ++ record { server = link.server; session = fresh response.user (asked_for response.capabilities) [] } ∷ [] }

abbrev pub lets_in : (first : ℕ) → Response → ServerLink → Hosted → Served
lets_in first response link hosted = record {
  link = record link { client = done (record link.client { outgoing = link.client.outgoing ++ spelling first (ok_payload 2 []) }); seat = Some (Rattle.std.specs.Prelude.length hosted.seats) };
  hosted = seated link response hosted;
  did = did.Answered;
}

abbrev pub logs_in_by : (first : ℕ) → Option Response → ServerLink → Hosted → Served
logs_in_by first None link hosted = record { link = link; hosted = hosted; did = did.Nothing }
logs_in_by first (Some response) link hosted =
    if is_welcome link.lets_in response then lets_in first response link hosted else record { link = turned_away first link; hosted = hosted; did = did.Answered }

abbrev pub logs_in : (first : ℕ) → ServerLink → Hosted → Served
logs_in first link hosted = logs_in_by first (login_of link.client.stage) link hosted

-- What is asked in a session is done.

abbrev pub replied : (first : ℕ) → Ran → ServerLink → Served
replied first it link = record { link = says first it.reply link; hosted = it.hosted; did = did.Ran }

abbrev pub unknown_command : List ℕ
unknown_command = err_payload 1047 (codes "08S01") (codes "Unknown command")

abbrev pub answers : Step → (first seat : ℕ) → Asked → ServerLink → Hosted → Served
answers step first seat (asked.Run command) link hosted = replied first (ran step seat command hosted) link
answers step first seat asked.Quit link hosted = record { link = record link { ended = true }; hosted = (ran step seat cmd.Close hosted).hosted; did = did.Ran }
answers step first seat asked.Unknown link hosted = record { link = answered (spelling first unknown_command) link; hosted = hosted; did = did.Ran }

abbrev pub payload_in : Option Framed → List ℕ
payload_in None = []
payload_in (Some message) = message.payload

abbrev pub runs_in : Step → (first : ℕ) → Option ℕ → Asked → ServerLink → Hosted → Served
runs_in step first None asked link hosted = record { link = record link { ended = true }; hosted = hosted; did = did.Nothing }
runs_in step first (Some seat) asked link hosted = answers step first seat asked link hosted

abbrev pub runs : Step → (first : ℕ) → ServerLink → Hosted → Served
runs step first link hosted = runs_in step first link.seat (asks (payload_in link.client.framer.found)) (record link { client = done link.client }) hosted

-- Bytes came that can be no message: a login is answered so, and a session is closed.

abbrev pub bad_handshake : List ℕ
bad_handshake = err_payload 1043 (codes "08S01") (codes "Bad handshake")

abbrev pub refuses_in : Step → (first : ℕ) → Option ℕ → ServerLink → Hosted → Served
refuses_in step first (Some seat) link hosted = drops step link hosted
refuses_in step first None link hosted = record { link = record (answered (spelling first bad_handshake) link) { ended = true }; hosted = hosted; did = did.Answered }

abbrev pub refuses : Step → (first : ℕ) → ServerLink → Hosted → Served
refuses step first link hosted = refuses_in step first link.seat link hosted

-- By what was written whole.

abbrev pub serves : Step → (closed : Bool) → ClientStep → ServerLink → Hosted → Served
serves step closed client_step.Nothing link hosted = rests step closed link hosted
serves step closed (client_step.Login first) link hosted = logs_in first link hosted
serves step closed (client_step.Message ordinal first) link hosted = runs step first link hosted
serves step closed (client_step.Refused first fault) link hosted = refuses step first link hosted

abbrev pub serves_next : Step → (closed : Bool) → Next → ServerLink → Hosted → Served
serves_next step closed next link hosted = serves step closed next.step (record link { client = next.client }) hosted

abbrev pub served : Step → (closed : Bool) → ServerLink → Hosted → Served
served step closed link hosted =
    if link.ended then record { link = link; hosted = hosted; did = did.Nothing } else serves_next step closed (next_of link.client.stage link.client) link hosted
