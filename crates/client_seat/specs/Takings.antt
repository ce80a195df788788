-- A message that came up is taken up.
use Rattle.std.specs.Prelude.{ℕ, false, nat_eq, if◌then◌else◌, slice_index_or, Some}
use Rattle.mx_base.specs.declared.names.Hostgroup.{Hostgroup}
use Rattle.packet_frame.specs.Packets.{Framed}
use Rattle.client_side.specs.Client.{counted, past_message}
use Rattle.log_story.specs.Plan.{com_reset}
use Rattle.session_vars.specs.Settings.{collation_settings}
use Rattle.stmt_map.specs.declared.client.ClientStatements.{ClientStatements}
use Rattle.client_seat.specs.Seats.{Seat}

-- it is behind, and isn't answered yet; rules are tried first by this flag from now on
abbrev pub passed : (flag : ℕ) → Framed → Seat → Seat
passed flag message seat = record seat {
  client = record seat.client { framer = past_message message seat.client.framer; arrived = counted seat.client.arrived };
  answered = false;
  flag = flag;
}

-- with its settings as they were behind its login
abbrev pub begun_anew : Seat → Seat
begun_anew seat = record seat { place = record seat.place { settings = collation_settings seat.collation } }

abbrev pub anew_by : Framed → Seat → Seat
anew_by message seat = if nat_eq (slice_index_or message.payload 0 0) com_reset then begun_anew seat else seat

-- by what it makes of what the client has prepared
abbrev pub taken : (flag : ℕ) → Framed → ClientStatements → Seat → Seat
taken flag message statements seat = record (passed flag message (anew_by message seat)) { statements = statements }

-- and it goes to a server
abbrev pub taken_to : Hostgroup → (flag : ℕ) → Framed → ClientStatements → Seat → Seat
taken_to hostgroup flag message statements seat =
    record (passed flag message seat) { last = Some hostgroup; statements = statements }
