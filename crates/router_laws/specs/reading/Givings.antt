-- A statement in work may be given up, of which no reply comes: of the code alone.
use Rattle.std.specs.Prelude.{◌≡◌, ◌⊎◌, Bool, false, if◌then◌else◌, IfSome, Option, Some, None}
use Rattle.std.specs.Option.{option_and_then, option_map_or}
use Rattle.mx_base.specs.declared.names.ClientNo.{ClientNo}
use Rattle.mx_base.specs.declared.names.LinkId.{LinkId}
use Rattle.client_desk.specs.Desks.{session_of}
use Rattle.client_desk.specs.declared.work.Work.{Work}
use Rattle.core_tables.specs.Passing.{is_lent}
use Rattle.core_tables.specs.Tables.{Tabled}
use Rattle.core_tables.specs.declared.client.Client.{Client}
use Rattle.core_tables.specs.declared.server.Server.{Server}
use Rattle.core_laws.specs.parting.Partings.{IsAtWork, is_sound}
use Rattle.core_laws.specs.clients.Going.{GivenUp}

-- the link of its session is spoilt or lost, or that session was left
pub record IsBroken (t : Tabled) (row : Client) (work : Work) : Type 0 where
  pub link : LinkId
  pub home : (session_of row.desk work.hostgroup).home ≡ Some link
  pub server : Server
  pub there : t.links link ≡ Some server
  pub unsound : is_sound server.row ≡ false

-- The link that is lent to its session, if one is: it is given back as the statement is given up.

abbrev pub is_lent_in : LinkId → Tabled → Bool
is_lent_in l t = option_map_or (λ (server : Server). is_lent server.row.link.state.carries) (t.links l) false

abbrev pub if_lent : Tabled → LinkId → Option LinkId
if_lent t l = if is_lent_in l t then Some l else None

abbrev pub lent_home : Tabled → Client → Work → Option LinkId
lent_home t row work = option_and_then (if_lent t) (session_of row.desk work.hostgroup).home

-- none but this one
abbrev pub IsLentBut : LinkId → Tabled → Client → Work → Type 0
IsLentBut l t row work = IfSome (lent_home t row work) (λ (home : LinkId). home ≡ l)

-- It is in work, and it wasn't sent, or the link broke to which it was; and no other link than this one is lent to its session.
pub record MayBeGivenUp (l : LinkId) (c : ClientNo) (t : Tabled) : Type 0 where
  pub row : Client
  pub work : Work
  pub at_work : IsAtWork t c row work
  pub aside : (work.sent ≡ false) ⊎ IsBroken t row work
  pub lent : IsLentBut l t row work

abbrev pub MayGiveUp : LinkId → Option GivenUp → Tabled → Type 0
MayGiveUp l None t = Unit {0}
MayGiveUp l (Some up) t = MayBeGivenUp l up.client t
