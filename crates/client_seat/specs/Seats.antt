-- A client's seat, and what is asked of it.
use Rattle.std.specs.Prelude.{ℕ, Bool, true, false, ◌&&◌, ◌||◌, List, [], ◌∷◌, length, nat_eq, nat_lt, not, Option, Some, None}
use Rattle.mx_base.specs.declared.names.{ClientNo.ClientNo, LinkId.LinkId, Port.Port}
use Rattle.packet_frame.specs.Packets.{spelling}
use Rattle.handshake.specs.declared.response.Response.{Response}
use Rattle.server_side.specs.Account.{Account}
use Rattle.client_side.specs.Client.{ClientState, fed, told_first}
use Rattle.client_side.specs.Login.{greeting_said}
use Rattle.client_session.specs.Errors.{too_many_connections}
use Rattle.client_session.specs.Setups.{Setup}
use Rattle.pin_classifier.specs.declared.class.Class.{Class}
use Rattle.session_state.specs.Classes.{effect_of, schema_by, settings_by}
use Rattle.session_state.specs.declared.place.Place.{Place}
use Rattle.session_vars.specs.Settings.{collation_settings, defaults}
use Rattle.stmt_map.specs.declared.client.ClientStatements.{ClientStatements}
use Rattle.client_seat.specs.Outgoing.{said, went}
use Rattle.client_seat.specs.declared.phase.Phase.{Phase}
use Rattle.client_seat.specs.declared.phase.Phase.TheVariants as phase
pub use Rattle.client_seat.specs.declared.seat.Seat.{Seat}

-- Where a client stands: once it is logged in, in the schema that it names, or else the default; an empty name names none.

abbrev pub schema_named : (otherwise : List ℕ) → Option (List ℕ) → List ℕ
schema_named otherwise None = otherwise
schema_named otherwise (Some []) = otherwise
schema_named otherwise (Some (byte ∷ bytes)) = byte ∷ bytes

abbrev pub first_place : (default : List ℕ) → Response → Place
first_place default response = record { schema = schema_named default response.schema; settings = collation_settings response.collation }

-- behind a statement of this class, answered OK or not
abbrev pub place_by : Class → (ok : Bool) → Place → Place
place_by class ok place = record {
  schema = schema_by (effect_of class) ok place.schema;
  settings = settings_by (effect_of class) ok place.settings;
}

-- A client that comes.

abbrev pub seat_of : LinkId → Port → ClientState → ClientStatements → Seat
seat_of link port client statements = record {
  link = link;
  port = port;
  client = client;
  phase = phase.LoggingIn;
  switched = false;
  answered = true;
  first = 0;
  place = record { schema = []; settings = defaults };
  collation = 0;
  flag = 0;
  last = None;
  statements = statements;
  outbox = record { due = []; coming = [] };
}

-- what its link says is due
abbrev pub drained : Seat → Seat
drained seat = record seat {
  client = record seat.client { outgoing = [] };
  outbox = said seat.client.outgoing seat.outbox;
}

abbrev pub new_seat : LinkId → ClientNo → (salt : List ℕ) → Port → Setup → ClientStatements → Seat
new_seat link number salt port setup statements =
    record (seat_of link port (told_first number salt setup.limit []) statements) {
      outbox = record { due = greeting_said number.0 salt setup.version; coming = [] };
    }

-- no more is read of it
abbrev pub ended : Seat → Seat
ended seat = record seat { phase = phase.Ended }

abbrev pub away_bytes : List ℕ
away_bytes = spelling 0 too_many_connections

abbrev pub turned_away : LinkId → ClientNo → (salt : List ℕ) → Port → ClientStatements → Seat
turned_away link number salt port statements =
    record (seat_of link port (told_first number salt 0 []) statements) {
      phase = phase.Ended;
      outbox = record { due = away_bytes; coming = [] };
    }

-- Bytes come and go.

abbrev pub is_ended : Phase → Bool
is_ended phase.Ended = true
is_ended _ = false

abbrev pub got_in : Phase → List ℕ → Seat → Seat
got_in phase.Ended bytes seat = seat
got_in _ bytes seat = record seat { client = fed seat.client bytes }

abbrev pub got : List ℕ → Seat → Seat
got bytes seat = got_in seat.phase bytes seat

abbrev pub wrote : ℕ → Seat → Seat
wrote n seat = record seat { outbox = went n seat.outbox }

abbrev pub wants_read : Seat → Bool
wants_read seat = not (is_ended seat.phase) && (seat.answered || nat_lt (length seat.client.framer.kept) 1048576)

abbrev pub has_room : Seat → Bool
has_room seat = nat_lt (length seat.outbox.due) 1048576

abbrev pub is_finished : Seat → Bool
is_finished seat = is_ended seat.phase && nat_eq (length seat.outbox.due) 0

abbrev pub account_in : Phase → Option Account
account_in (phase.Serving account) = Some account
account_in _ = None
