-- A client is told its last.
use Rattle.std.specs.Prelude.{◌≡◌, ℕ, Bool, true, ◌&&◌, is_some, length, nat_eq, List, Some}
use Rattle.std.specs.Str.{bytes_eq}
use Rattle.mx_base.specs.declared.names.ClientNo.{ClientNo}
use Rattle.client_side.specs.Client.{ClientState}
use Rattle.client_seat.specs.Seats.{account_in}
use Rattle.core_service.specs.Failures.{payload_of}
use Rattle.core_service.specs.declared.failure.Failure.{Failure}
use Rattle.core_tables.specs.Tables.{Tabled}
use Rattle.core_tables.specs.Wording.{IsTold}
use Rattle.core_tables.specs.declared.client.Client.{Client}
use Rattle.core_laws.specs.clients.Follows.{LeavesTold}
use Rattle.own_words.specs.Own.{IsFailure}
use Rattle.shared_core.specs.declared.telling.Who.{Who}

-- it is this one, with no more to say of its login
abbrev pub is_who : Who → ClientState → Bool
is_who who client =
    nat_eq client.number.0 who.number.0 && (bytes_eq client.salt who.salt && nat_eq (length client.outgoing) 0)

-- one that waits for nothing is this one
pub record RestsAs (who : Who) (row : Client) : Type 0 where
  pub serves : is_some (account_in row.desk.seat.phase) ≡ true
  pub answered : row.desk.seat.answered ≡ true
  pub number : row.desk.seat.client.number ≡ who.number
  pub salt : row.desk.seat.client.salt ≡ who.salt

pub record RestsThere (who : Who) (c : ClientNo) (t : Tabled) : Type 0 where
  pub row : Client
  pub there : t.clients c ≡ Some row
  pub rests : RestsAs who row

pub record IsItStill (who : Who) (c : ClientNo) (t : Tabled) : Type 0 where
  pub row : Client
  pub there : t.clients c ≡ Some row
  pub is : is_who who row.desk.seat.client ≡ true

pub record HasTold (c : ClientNo) (why : Failure) (old new : Tabled) : Type 0 where
  pub payload : List ℕ
  pub is : payload ≡ payload_of why
  pub own : IsFailure payload
  pub told : IsTold c payload old new

pub record HasLeftTold (c : ClientNo) (why : Failure) (old new : Tabled) : Type 0 where
  pub payload : List ℕ
  pub is : payload ≡ payload_of why
  pub own : IsFailure payload
  pub leaves : LeavesTold payload c old new
