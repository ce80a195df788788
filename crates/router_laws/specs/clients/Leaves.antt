-- A client's link is lost: of the code alone.
use Rattle.std.specs.Prelude.{◌≡◌, ◌⊎◌, ℕ, Bool, true, false, ◌&&◌, is_some, List, [], None}
use Rattle.mx_base.specs.declared.names.ClientNo.{ClientNo}
use Rattle.mx_base.specs.declared.names.LinkId.{LinkId}
use Rattle.mx_wire.specs.declared.entry.Entry.{Entry}
use Rattle.mx_wire.specs.declared.entry.Entry.TheVariants.{Ended, ReadFailed, WriteFailed}
use Rattle.client_session.specs.Setups.{Setup as Service}
use Rattle.client_seat.specs.Seats.{account_in, ended, is_ended}
use Rattle.client_seat.specs.declared.seat.Seat.{Seat}
use Rattle.client_seat.specs.Takings.{begun_anew}
use Rattle.core_tables.specs.Parting.{left_in}
use Rattle.core_tables.specs.Tables.{IsSame, Tabled}
use Rattle.core_tables.specs.declared.client.Client.{Client}
use Rattle.core_laws.specs.entry.Freeing.{all_freed}
use Rattle.core_laws.specs.clients.Follows.{AreHomesOf, FollowsSo, LeavesThere, Parting, ends_by}
use Rattle.core_laws.specs.clients.Turns.{Choice, Halt, MayLeave}
use Rattle.router_laws.specs.clients.Speaks.{IsLinkOf, next_ordinal}

-- a link is lost
abbrev pub IsLossOf : LinkId → Entry → Type 0
IsLossOf link e = (e ≡ Ended link) ⊎ (e ≡ ReadFailed link) ⊎ (e ≡ WriteFailed link)

-- It is logged in, and waits for nothing: its messages may be taken up once more, as it left its sessions.
abbrev pub is_at_rest : Client → Bool
is_at_rest row = is_some (account_in row.desk.seat.phase) && row.desk.seat.answered

-- How it leaves: it had ended, and leaves again; or it ends at once, and leaves again; or it begins anew, goes on and then ends. The links are
-- those that carried its sessions.
pub data Departure : Type 0 where
  Again : Departure
  AtOnce : (links : List LinkId) → Departure
  GoingOn : (links : List LinkId) → (ordinal : ℕ) → List Choice → Halt → Parting → Departure

pub record LeavesAgain (link : LinkId) (c : ClientNo) (old new : Tabled) : Type 0 where
  pub row : Client
  pub its : IsLinkOf link c row old
  pub over : is_ended row.desk.seat.phase ≡ true
  pub lives : MayLeave row
  pub same : IsSame new (left_in c (λ (seat : Seat). seat) old)

-- with this seat, and those links are given back
pub record IsGivenBack (by : Seat → Seat) (links : List LinkId) (c : ClientNo) (row : Client) (old new : Tabled) : Type 0 where
  pub lives : MayLeave row
  pub homes : AreHomesOf c links old
  pub left : Tabled
  pub leaves : IsSame left (left_in c by old)
  pub freed : IsSame new (all_freed links left)

-- it waits for an answer, or it isn't logged in yet, and lacks no event
pub record LeavesAtOnce (link : LinkId) (links : List LinkId) (c : ClientNo) (roomy : ClientNo → Bool) (old new : Tabled) : Type 0 where
  pub row : Client
  pub its : IsLinkOf link c row old
  pub going : is_ended row.desk.seat.phase ≡ false
  pub busy : (row.desk.seat.answered ≡ false) ⊎ ((account_in row.desk.seat.phase ≡ None) × (roomy c ≡ false))
  pub between : Tabled
  pub ends : IsGivenBack ended links c row old between
  pub again : LeavesThere c between new

pub record LeavesGoing (service : Service) (default : List ℕ) (link : LinkId) (links : List LinkId) (ordinal : ℕ) (choices : List Choice)
    (halt : Halt) (parting : Parting) (c : ClientNo) (old new : Tabled) : Type 0 where
  pub row : Client
  pub its : IsLinkOf link c row old
  pub next : ordinal ≡ next_ordinal row
  pub rests : is_at_rest row ≡ true
  pub between : Tabled
  pub leaves : IsGivenBack begun_anew links c row old between
  pub follows : FollowsSo service default c choices halt parting [] between new
  pub ends : ends_by halt parting ≡ true

abbrev pub LeavesSo : Departure → Service → (default : List ℕ) → LinkId → ClientNo → (roomy : ClientNo → Bool) → (old new : Tabled) → Type 0
LeavesSo Again service default link c roomy old new = LeavesAgain link c old new
LeavesSo (AtOnce links) service default link c roomy old new = LeavesAtOnce link links c roomy old new
LeavesSo (GoingOn links ordinal choices halt parting) service default link c roomy old new =
    LeavesGoing service default link links ordinal choices halt parting c old new
