-- Clients begin anew, and say that they end.
use Rattle.std.specs.Prelude.{ℕ, List, true}
use Rattle.mx_base.specs.declared.names.ClientNo.{ClientNo}
use Rattle.client_seat.specs.Seats.{ended}
use Rattle.client_seat.specs.declared.seat.Seat.{Seat}
use Rattle.core_tables.specs.Parting.{left_in}
use Rattle.core_tables.specs.Tables.{Tabled}
use Rattle.core_tables.specs.Taking.{IsTaken, answers, passes}

-- it leaves its sessions, and then the router answers its message itself, in these packets
abbrev pub BeginsAnew : (flag : ℕ) → (packets : List ℕ) → ClientNo → (old new : Tabled) → Type 0
BeginsAnew flag packets c old new = IsTaken true (answers flag packets) c (left_in c (λ (seat : Seat). seat) old) new

-- it ends, and then its message is behind
abbrev pub Quits : (flag : ℕ) → ClientNo → (old new : Tabled) → Type 0
Quits flag c old new = IsTaken true (passes flag) c (left_in c ended old) new
