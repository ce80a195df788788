-- A link to a server is lost: of the code alone. With it goes the present session that it carries. A statement is given up, or none; and one client
-- goes on, or none.
use Rattle.std.specs.Prelude.{◌≡◌, ◌⊎◌, ◌<◌, ◌+◌, ◌^◌, ℕ, suc, Bool, true, false, is_some, List, Option, Some, None}
use Rattle.std.specs.Option.{option_map}
use Rattle.mx_base.specs.declared.names.ClientNo.{ClientNo}
use Rattle.mx_base.specs.declared.names.Hostgroup.{Hostgroup}
use Rattle.mx_base.specs.declared.names.LinkId.{LinkId}
use Rattle.mx_wire.specs.declared.entry.Entry.{Entry}
use Rattle.mx_wire.specs.declared.entry.Entry.TheVariants.{Ended, ReadFailed, WriteFailed}
use Rattle.private_model.specs.Story.{is_hostgroup}
use Rattle.session_state.specs.declared.names.SessionName.{SessionName}
use Rattle.client_session.specs.Setups.{Setup as Service}
use Rattle.client_seat.specs.Seats.{ended}
use Rattle.client_desk.specs.Desks.{session_of}
use Rattle.client_desk.specs.declared.work.Work.{Work}
use Rattle.desk_laws.specs.Spares.{IsElsewhere}
use Rattle.core_tables.specs.Parting.{given_up_in, left_in, lost_in, name_in, present_in}
use Rattle.core_tables.specs.Tables.{IsSame, Tabled}
use Rattle.core_tables.specs.declared.client.Client.{Client}
use Rattle.core_tables.specs.declared.server.Server.{Server}
use Rattle.core_laws.specs.parting.Partings.{IsAtWork}
use Rattle.core_laws.specs.entry.Freeing.{all_freed}
use Rattle.core_laws.specs.clients.Follows.{AreHomesOf, LeavesThere}
use Rattle.core_laws.specs.clients.Going.{GivenUp, GoesSo, Going, IsCalled, told_to}
use Rattle.router_laws.specs.reading.Givings.{IsLentBut}

-- The statement that is given up is in work; and it wasn't sent, or it was to this link; and no other is lent to its session.
pub record IsGivenUpWith (l : LinkId) (c : ClientNo) (t : Tabled) : Type 0 where
  pub row : Client
  pub work : Work
  pub at_work : IsAtWork t c row work
  pub aside : (work.sent ≡ false) ⊎ ((session_of row.desk work.hostgroup).home ≡ Some l)
  pub lent : IsLentBut l t row work

abbrev pub MayGiveUpWith : LinkId → Option GivenUp → Tabled → Type 0
MayGiveUpWith l None t = Unit {0}
MayGiveUpWith l (Some up) t = IsGivenUpWith l up.client t

-- The present session that the link carries: what its client has in work is elsewhere, or is given up; and there is a life for the next.
pub record GoesWithIt (l : LinkId) (given : ClientNo → Bool) (t : Tabled) : Type 0 where
  pub lives : (n : SessionName) → present_in l t ≡ Some n → suc n.life < 2 ^ 64
  pub work : (n : SessionName) (row : Client) → present_in l t ≡ Some n → t.clients n.client ≡ Some row
      → IsElsewhere n.hostgroup row.desk.work ⊎ (given n.client ≡ true)

abbrev pub gives : Option GivenUp → ClientNo → Bool
gives given c = is_some (told_to given c)

pub record LosesSo (service : Service) (default : List ℕ) (l : LinkId) (given : Option GivenUp) (going : Option Going) (old new : Tabled) : Type 0 where
  pub server : Server
  pub there : old.links l ≡ Some server
  pub may : MayGiveUpWith l given old
  pub with_it : GoesWithIt l (gives given) old
  pub lost : Tabled
  pub loses : IsSame lost (given_up_in (told_to given) (lost_in l old))
  pub called : IsCalled (name_in server.row.link.state.carries) given old (option_map (λ (g : Going). g.client) going)
  pub goes : GoesSo going service default lost new

-- Or the client of the present session that it carries is ended with it: a statement of its was in work there. It makes no turns, and is told no
-- last word; then links are given back that carried its other sessions.
pub record LosesEnded (l : LinkId) (c : ClientNo) (links : List LinkId) (old new : Tabled) : Type 0 where
  pub name : SessionName
  pub carries : present_in l old ≡ Some name
  pub its : name.client ≡ c
  pub lives : suc name.life < 2 ^ 64
  pub row : Client
  pub work : Work
  pub at_work : IsAtWork old c row work
  pub there : is_hostgroup work.hostgroup name.hostgroup ≡ true
  pub homes : AreHomesOf c links (lost_in l old)
  pub parted : Tabled
  pub parts : LeavesThere c (lost_in l old) parted
  pub freed : IsSame new (all_freed links parted)

-- How it is told that the link is lost: a read ends or fails, or a write fails.

pub data Break : Type 0 where
  ReadEnds : Break
  ReadFails : Break
  WriteFails : Break

abbrev pub entry_by : Break → LinkId → Entry
entry_by ReadEnds l = Ended l
entry_by ReadFails l = ReadFailed l
entry_by WriteFails l = WriteFailed l
