-- A client comes: of the code alone.
use Rattle.std.specs.Prelude.{◌≡◌, ℕ, false, List, None}
use Rattle.mx_base.specs.declared.names.ClientNo.{ClientNo}
use Rattle.mx_base.specs.declared.names.LinkId.{LinkId}
use Rattle.mx_base.specs.declared.names.Port.{Port}
use Rattle.client_session.specs.Setups.{Setup as Service}
use Rattle.client_seat.specs.Seats.{ended, is_ended, new_seat, turned_away}
use Rattle.client_seat.specs.declared.seat.Seat.{Seat}
use Rattle.stmt_map.specs.declared.client.ClientStatements.{ClientStatements}
use Rattle.core_tables.specs.Arrivals.{came}
use Rattle.core_tables.specs.Parting.{left_in}
use Rattle.core_tables.specs.Tables.{IsSame, Tabled}
use Rattle.core_tables.specs.declared.client.ClientNote.{ClientNote}
use Rattle.client_seat.specs.Numbers.{number_in}

-- How it is received: it is served, or turned away, and ends at once.
pub data Welcome : Type 0 where
  Served : Welcome
  TurnedAway : Welcome

-- its row is there, with this seat
pub record IsReceived (seat : ClientStatements → Seat) (link : LinkId) (c : ClientNo) (old new : Tabled) : Type 0 where
  pub statements : ClientStatements
  pub note : ClientNote
  pub none : is_ended (seat statements).phase ≡ false → (number : ℕ) → number_in statements number ≡ None
  pub same : IsSame new (came c link (seat statements) note old)

pub record IsTurnedAway (port : Port) (link : LinkId) (salt : List ℕ) (c : ClientNo) (old new : Tabled) : Type 0 where
  pub between : Tabled
  pub comes : IsReceived (turned_away link c salt port) link c old between
  pub ends : IsSame new (left_in c ended between)

abbrev pub ComesSo : Welcome → Service → Port → LinkId → (salt : List ℕ) → ClientNo → (old new : Tabled) → Type 0
ComesSo Served service port link salt c old new = IsReceived (new_seat link c salt port service) link c old new
ComesSo TurnedAway service port link salt c old new = IsTurnedAway port link salt c old new
