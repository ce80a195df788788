-- What is tested of clients and of links.
use Rattle.std.specs.Prelude.{◌≡◌, ◌<◌, ◌^◌, ℕ, suc, Bool, true, false, not, ◌&&◌, nat_eq, nat_lt, ◌⊎◌, IfSome, Option, Some, None}
use Rattle.std.specs.Option.{option_and_then, option_map_or}
use Rattle.mx_base.specs.declared.names.ClientNo.{ClientNo}
use Rattle.mx_base.specs.declared.names.Hostgroup.{Hostgroup}
use Rattle.mx_base.specs.declared.names.LinkId.{LinkId}
use Rattle.session_state.specs.declared.names.SessionName.{SessionName}
use Rattle.session_state.specs.declared.place.Place.{Place}
use Rattle.session_state.specs.declared.place.Told.{Told}
use Rattle.session_vars.specs.Settings.{AreSettings}
use Rattle.link_state.specs.Places.{calm_place, place_wish}
use Rattle.client_desk.specs.Desks.{name_of, session_of}
use Rattle.client_desk.specs.declared.desk.Desk.{Desk}
use Rattle.client_desk.specs.declared.session.Session.{Session}
use Rattle.client_desk.specs.declared.work.Work.{Work}
use Rattle.core_tables.specs.Tables.{Tabled}
use Rattle.core_tables.specs.declared.client.Client.{Client}
use Rattle.core_tables.specs.declared.server.Server.{Server}
use Rattle.core_laws.specs.parting.Partings.{IsAtWork, is_sound}
use Rattle.router_laws.specs.reading.Givings.{IsBroken, if_lent}

-- there are lives for it to leave its sessions twice
abbrev pub HasLives : Desk → Type 0
HasLives desk = (h : Hostgroup) → suc (suc (session_of desk h).life) < 2 ^ 64

abbrev pub has_two_lives : Session → Bool
has_two_lives s = nat_lt s.life 18446744073709551614

-- a client's statement in work, and the link that carries the session of it

abbrev pub work_at : ClientNo → Tabled → Option Work
work_at c t = option_and_then (λ (row : Client). row.desk.work) (t.clients c)

abbrev pub home_in : Client → Option LinkId
home_in row = option_and_then (λ (work : Work). (session_of row.desk work.hostgroup).home) row.desk.work

abbrev pub home_at : ClientNo → Tabled → Option LinkId
home_at c t = option_and_then home_in (t.clients c)

-- the link that is lent to that session, if one is
abbrev pub lent_home_at : ClientNo → Tabled → Option LinkId
lent_home_at c t = option_and_then (if_lent t) (home_at c t)

abbrev pub IsLentNoOther : LinkId → ClientNo → Tabled → Type 0
IsLentNoOther l c t = IfSome (lent_home_at c t) (λ (home : LinkId). nat_eq home.0 l.0 ≡ true)

-- it is in the hostgroup of this session
abbrev pub is_worked_in : SessionName → Tabled → Bool
is_worked_in name t = option_map_or (λ (work : Work). nat_eq work.hostgroup.0 name.hostgroup.0) (work_at name.client t) false

-- a reply comes no more to what stands on a link
abbrev pub is_unsound_in : LinkId → Tabled → Bool
is_unsound_in l t = option_map_or (λ (server : Server). not (is_sound server.row)) (t.links l) false

abbrev pub same_name : SessionName → SessionName → Bool
same_name a b = nat_eq a.client.0 b.client.0 && (nat_eq a.hostgroup.0 b.hostgroup.0 && nat_eq a.life b.life)

-- its statement in work wasn't sent, and is in its present session of this name
abbrev pub is_stated : SessionName → Client → Bool
is_stated name row =
    option_map_or (λ (work : Work). not work.sent && same_name name (name_of row.desk work.hostgroup)) row.desk.work false

-- it wasn't sent
pub record WorkIsUnsent (c : ClientNo) (t : Tabled) : Type 0 where
  pub row : Client
  pub work : Work
  pub at_work : IsAtWork t c row work
  pub unsent : work.sent ≡ false

-- or the link broke to which it was sent, or that is this one

pub record WorkIsAside (c : ClientNo) (t : Tabled) : Type 0 where
  pub row : Client
  pub work : Work
  pub at_work : IsAtWork t c row work
  pub aside : (work.sent ≡ false) ⊎ IsBroken t row work

pub record WorkIsAsideWith (l : LinkId) (c : ClientNo) (t : Tabled) : Type 0 where
  pub row : Client
  pub work : Work
  pub at_work : IsAtWork t c row work
  pub aside : (work.sent ≡ false) ⊎ ((session_of row.desk work.hostgroup).home ≡ Some l)

-- the link broke to which it was sent
pub record WorkIsBroken (c : ClientNo) (t : Tabled) : Type 0 where
  pub row : Client
  pub work : Work
  pub at_work : IsAtWork t c row work
  pub broken : IsBroken t row work

-- A link that was told this is at this place, but for autocommit, which no preparation needs.
pub record IsToldPlace (place : Place) (told : Told) : Type 0 where
  pub of_key : AreSettings place.settings
  pub of_link : AreSettings told.settings
  pub is_there : place_wish told (calm_place place told) ≡ None
