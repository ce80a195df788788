-- Statements are given up, and clients that are called go on, one after the other: of the code alone.
use Rattle.std.specs.Prelude.{◌≡◌, ◌<◌, ℕ, Bool, true, false, All, is_some, List, [], ◌∷◌, Some, None}
use Rattle.std.specs.List.{list_any}
use Rattle.mx_base.specs.declared.names.ClientNo.{ClientNo}
use Rattle.mx_base.specs.declared.names.Hostgroup.{Hostgroup}
use Rattle.mx_base.specs.declared.names.LinkId.{LinkId}
use Rattle.client_session.specs.Setups.{Setup as Service}
use Rattle.private_model.specs.Story.{is_client}
use Rattle.client_seat.specs.Seats.{is_ended}
use Rattle.client_desk.specs.Desks.{session_of}
use Rattle.client_desk.specs.declared.work.Work.{Work}
use Rattle.step_laws.specs.Freed.{Ascend, is_among}
use Rattle.core_tables.specs.Parting.{given_up}
use Rattle.core_tables.specs.Tables.{IsSame, Tabled}
use Rattle.core_tables.specs.declared.client.Client.{Client}
use Rattle.core_laws.specs.parting.Partings.{IsAtWork}
use Rattle.core_laws.specs.entry.Freeing.{all_freed}
use Rattle.core_laws.specs.clients.Follows.{Parting, PartsSo, Stays, quits_by}
use Rattle.core_laws.specs.clients.Going.{GivenUp}
use Rattle.core_laws.specs.clients.Turns.{Choice, Halt, Turns}
use Rattle.router_laws.specs.reading.Givings.{lent_home}

-- Statements are given up, one after the other: each is in work and wasn't sent, and no link is lent to its session.

pub record IsUnsent (c : ClientNo) (t : Tabled) : Type 0 where
  pub row : Client
  pub work : Work
  pub at_work : IsAtWork t c row work
  pub unsent : work.sent ≡ false
  pub unlent : lent_home t row work ≡ None

pub record GivesUp (up : GivenUp) (old new : Tabled) : Type 0 where
  pub late : IsUnsent up.client old
  pub same : IsSame new (given_up up.client up.payload old)

abbrev pub GivesUpAll : List GivenUp → (old new : Tabled) → Type 0
GivesUpAll [] old new = IsSame new old
GivesUpAll (up ∷ others) old new = (between : Tabled) × GivesUp up old between × GivesUpAll others between new

abbrev pub is_given : List GivenUp → ClientNo → Bool
is_given given c = list_any (λ (up : GivenUp). is_client c up.client) given

-- A client that is called: what is decided of its messages, how that halts, and how it is ended behind that, if it is.
pub record Caller : Type 0 where
  pub client : ClientNo
  pub choices : List Choice
  pub halt : Halt
  pub parting : Parting

-- Whoever ends does so before the next goes on.

pub record CallerGoesOn (service : Service) (default : List ℕ) (caller : Caller) (old new : Tabled) : Type 0 where
  pub turned : Tabled
  pub turns : Turns caller.choices caller.halt service default caller.client old turned
  pub once : quits_by caller.halt ≡ true → caller.parting ≡ Stays
  pub parts : PartsSo caller.parting caller.client turned new

abbrev pub AllGoOn : List Caller → Service → (default : List ℕ) → (old new : Tabled) → Type 0
AllGoOn [] service default old new = IsSame new old
AllGoOn (caller ∷ others) service default old new =
    (between : Tabled) × CallerGoesOn service default caller old between × AllGoOn others service default between new

abbrev pub is_called : List Caller → ClientNo → Bool
is_called callers c = list_any (λ (caller : Caller). is_client c caller.client) callers

-- in the order of their numbers, each once
abbrev pub AreInOrder : List Caller → Type 0
AreInOrder [] = Unit {0}
AreInOrder (caller ∷ others) = All (λ (other : Caller). caller.client.0 < other.client.0) others × AreInOrder others

-- it is there, and goes on
pub record IsThere (t : Tabled) (c : ClientNo) : Type 0 where
  pub row : Client
  pub there : t.clients c ≡ Some row
  pub going : is_ended row.desk.seat.phase ≡ false

-- These are links to servers in the order of their ids; all that carry present sessions of these clients are among them.
pub record AreHomesOf (whose : ClientNo → Bool) (links : List LinkId) (t : Tabled) : Type 0 where
  pub homes : (c : ClientNo) (row : Client) (h : Hostgroup) (l : LinkId) → whose c ≡ true → t.clients c ≡ Some row
      → (session_of row.desk h).home ≡ Some l → is_some (t.links l) ≡ true → is_among links l ≡ true
  pub known : All (λ (l : LinkId). is_some (t.links l) ≡ true) links
  pub rising : Ascend (λ l. l.0) links

-- They go on from here, and links are given back that were their homes.
pub record CallsSo (service : Service) (default : List ℕ) (callers : List Caller) (links : List LinkId) (old new : Tabled) : Type 0 where
  pub in_order : AreInOrder callers
  pub there : All (λ (caller : Caller). IsThere old caller.client) callers
  pub homes : AreHomesOf (is_called callers) links old
  pub turned : Tabled
  pub going : AllGoOn callers service default old turned
  pub freed : IsSame new (all_freed links turned)
