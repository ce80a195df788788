-- What clients make of the tables that come, speak, are looked at, are written to, and are forgotten.
use Rattle.std.specs.Prelude.{ℕ, List, [], Option, Some, None}
use Rattle.mx_base.specs.declared.names.ClientNo.{ClientNo}
use Rattle.mx_base.specs.declared.names.LinkId.{LinkId}
use Rattle.client_session.specs.Setups.{Setup}
use Rattle.client_seat.specs.Seats.{got, wrote}
use Rattle.client_seat.specs.declared.seat.Seat.{Seat}
use Rattle.client_seat.specs.Turns.{IsUp, turned}
use Rattle.client_seat.specs.declared.next.Next.{Next}
use Rattle.client_seat.specs.declared.next.Next.TheVariants as next
use Rattle.client_desk.specs.Desks.{new_desk}
use Rattle.core_tables.specs.Tables.{Tabled, client_changed, client_put, number_put}
use Rattle.core_tables.specs.declared.client.Client.{Client}
use Rattle.core_tables.specs.declared.client.ClientNote.{ClientNote}

-- one that comes
abbrev pub newcomer : Seat → ClientNote → Client
newcomer seat note = record { desk = new_desk seat; went = None; note = note }

abbrev pub came : ClientNo → LinkId → Seat → ClientNote → Tabled → Tabled
came c link seat note t = number_put link (Some c) (client_put c (Some (newcomer seat note)) t)

-- its seat changes
abbrev pub seated : (Seat → Seat) → Client → Client
seated by row = record row { desk = record row.desk { seat = by row.desk.seat } }

abbrev pub spoke : ClientNo → (bytes : List ℕ) → Tabled → Tabled
spoke c bytes t = client_changed c (seated (got bytes)) t

abbrev pub turn : Setup → (default : List ℕ) → Seat → Seat
turn setup default seat = (turned setup default seat).seat

abbrev pub looked : Setup → (default : List ℕ) → ClientNo → Tabled → Tabled
looked setup default c t = client_changed c (seated (turn setup default)) t

abbrev pub written_to : ClientNo → (count : ℕ) → Tabled → Tabled
written_to c count t = client_changed c (seated (wrote count)) t

-- it is no more, where it is there
abbrev pub without : ClientNo → Option Client → Tabled → Tabled
without c None t = t
without c (Some row) t = number_put row.desk.seat.link None (client_put c None t)

abbrev pub forgotten : ClientNo → Tabled → Tabled
forgotten c t = without c (t.clients c) t

-- what one that is looked at says next, and that a message is found there

abbrev pub next_of : Setup → (default : List ℕ) → Option Client → Next
next_of setup default None = next.Nothing
next_of setup default (Some row) = (turned setup default row.desk.seat).next

abbrev pub IsUpIn : Next → Option Client → Type 0
IsUpIn said None = Unit {0}
IsUpIn said (Some row) = IsUp said row.desk.seat

abbrev pub due_in : Option Client → List ℕ
due_in None = []
due_in (Some row) = row.desk.seat.outbox.due
