-- What follows for one client at an entry, once what it tells is told and what is given up is: its turns, its end, and links that carried its
-- sessions are given back: of the code alone.
use Rattle.std.specs.Prelude.{◌≡◌, ℕ, Bool, true, false, ◌||◌, All, is_some, List, [], Option, Some, None}
use Rattle.mx_base.specs.declared.names.ClientNo.{ClientNo}
use Rattle.mx_base.specs.declared.names.Hostgroup.{Hostgroup}
use Rattle.mx_base.specs.declared.names.LinkId.{LinkId}
use Rattle.client_session.specs.Setups.{Setup as Service}
use Rattle.client_side.specs.Client.{ClientState}
use Rattle.client_side.specs.declared.stage.Stage.TheVariants as stage
use Rattle.packet_frame.specs.Packets.{first_message}
use Rattle.packet_frame.specs.Packets.Found.{Faulty}
use Rattle.packet_frame.specs.declared.fault.FrameFault.{FrameFault}
use Rattle.client_seat.specs.Seats.{account_in, ended}
use Rattle.client_desk.specs.Desks.{session_of}
use Rattle.step_laws.specs.Freed.{Ascend, is_among}
use Rattle.core_tables.specs.Parting.{left_in}
use Rattle.core_tables.specs.Tables.{IsSame, Tabled}
use Rattle.core_tables.specs.Wording.{IsTold}
use Rattle.core_tables.specs.declared.client.Client.{Client}
use Rattle.core_laws.specs.entry.Freeing.{all_freed}
use Rattle.core_laws.specs.clients.Turns.{Choice, Ends, Halt, MayLeave, Quits, Rests, Turns, Waits}

-- How a client that goes on behind its turns is ended, if it is: with no word, or with a last word of this payload.
pub data Parting : Type 0 where
  Stays : Parting
  Leaves : Parting
  Tells : (payload : List ℕ) → Parting

pub record LeavesThere (c : ClientNo) (old new : Tabled) : Type 0 where
  pub row : Client
  pub there : old.clients c ≡ Some row
  pub lives : MayLeave row
  pub same : IsSame new (left_in c ended old)

-- No error stands next in what is kept of it, once it was looked at.
abbrev pub IsUnfaulty : ClientState → Type 0
IsUnfaulty client =
    client.stage ≡ stage.Commands → client.framer.fault ≡ None → (fault : FrameFault)
    → first_message client.framer.limit 0 client.framer.kept ≡ Faulty fault → ⊥

-- it is who it was, with no more to say of its login
pub record IsStillIt (old new : ClientState) : Type 0 where
  pub number : new.number ≡ old.number
  pub salt : new.salt ≡ old.salt
  pub drained : new.outgoing ≡ []

-- One that is served, waits for nothing, and was looked at is told its last word.
pub record LeavesTold (payload : List ℕ) (c : ClientNo) (old new : Tabled) : Type 0 where
  pub row : Client
  pub there : old.clients c ≡ Some row
  pub serves : is_some (account_in row.desk.seat.phase) ≡ true
  pub answered : row.desk.seat.answered ≡ true
  pub unfaulty : IsUnfaulty row.desk.seat.client
  pub between : Tabled
  pub told : IsTold c payload old between
  pub still_it : IsStillIt row.desk.seat.client told.client
  pub leaves : LeavesThere c between new

abbrev pub PartsSo : Parting → ClientNo → (old new : Tabled) → Type 0
PartsSo Stays c old new = IsSame new old
PartsSo Leaves c old new = LeavesThere c old new
PartsSo (Tells payload) c old new = LeavesTold payload c old new

-- These are links to servers in the order of their ids, which is that in which they were opened; all that carry its present sessions are among
-- them.
pub record AreHomesOf (c : ClientNo) (links : List LinkId) (t : Tabled) : Type 0 where
  pub row : Client
  pub there : t.clients c ≡ Some row
  pub homes : (h : Hostgroup) (l : LinkId) → (session_of row.desk h).home ≡ Some l → is_some (t.links l) ≡ true → is_among links l ≡ true
  pub known : All (λ (l : LinkId). is_some (t.links l) ≡ true) links
  pub rising : Ascend (λ l. l.0) links

-- it ended in its turns
abbrev pub quits_by : Halt → Bool
quits_by Waits = false
quits_by Rests = false
quits_by Quits = true
quits_by Ends = true

-- All of it: by links as they are before its turns. One that ended in them isn't ended behind them.
pub record FollowsSo (service : Service) (default : List ℕ) (c : ClientNo) (choices : List Choice) (halt : Halt) (parting : Parting)
    (links : List LinkId) (old new : Tabled) : Type 0 where
  pub homes : AreHomesOf c links old
  pub turned : Tabled
  pub turns : Turns choices halt service default c old turned
  pub once : quits_by halt ≡ true → parting ≡ Stays
  pub parted : Tabled
  pub parts : PartsSo parting c turned parted
  pub freed : IsSame new (all_freed links parted)

-- whether it ended, in its turns or behind them

abbrev pub parts_by : Parting → Bool
parts_by Stays = false
parts_by Leaves = true
parts_by (Tells payload) = true

-- by an end of its turns that lets it be ended then
abbrev pub ends_by : Halt → Parting → Bool
ends_by halt parting = quits_by halt || parts_by parting
