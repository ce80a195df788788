-- Bytes are written to a client: of the code alone.
use Rattle.std.specs.Prelude.{◌≡◌, ◌≤◌, ℕ, Bool, false, not, ◌&&◌, ◌||◌, length, take, List}
use Rattle.mx_base.specs.declared.names.ClientNo.{ClientNo}
use Rattle.mx_base.specs.declared.names.LinkId.{LinkId}
use Rattle.private_model.specs.Story.{is_client}
use Rattle.client_seat.specs.Seats.{has_room, is_ended, wrote}
use Rattle.core_tables.specs.Arrivals.{written_to}
use Rattle.core_tables.specs.Tables.{IsSame, Tabled}
use Rattle.core_tables.specs.declared.client.Client.{Client}
use Rattle.router_laws.specs.clients.Speaks.{IsLinkOf}

-- It goes on, and has room again: it lacks an event, by which its messages were taken up.
abbrev pub lacks_event : (count : ℕ) → Client → Bool
lacks_event count row =
    not (is_ended row.desk.seat.phase) && (not (has_room row.desk.seat) && has_room (wrote count row.desk.seat))

-- it is then among those who have room again, with all who were
abbrev pub AreRoomy : (count : ℕ) → ClientNo → Client → (roomy room : ClientNo → Bool) → Type 0
AreRoomy count c row roomy room =
    (other : ClientNo) → room other ≡ false → (roomy other || (is_client c other && lacks_event count row)) ≡ false

-- So many of the bytes that were due to it are; it may have ended.
pub record WroteSo (link : LinkId) (bytes : List ℕ) (count : ℕ) (c : ClientNo) (roomy room : ClientNo → Bool) (old new : Tabled) : Type 0 where
  pub row : Client
  pub its : IsLinkOf link c row old
  pub few : count ≤ length row.desk.seat.outbox.due
  pub front : bytes ≡ take count row.desk.seat.outbox.due
  pub roomy_then : AreRoomy count c row roomy room
  pub same : IsSame new (written_to c count old)
