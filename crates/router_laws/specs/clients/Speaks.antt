-- Bytes come on a client's link: of the code alone.
use Rattle.std.specs.Prelude.{◌≡◌, ℕ, suc, false, List, Some}
use Rattle.mx_base.specs.declared.names.ClientNo.{ClientNo}
use Rattle.mx_base.specs.declared.names.LinkId.{LinkId}
use Rattle.client_session.specs.Setups.{Setup as Service}
use Rattle.client_seat.specs.Seats.{is_ended}
use Rattle.core_tables.specs.Arrivals.{spoke}
use Rattle.core_tables.specs.Tables.{IsSame, Tabled}
use Rattle.core_tables.specs.declared.client.Client.{Client}
use Rattle.core_laws.specs.clients.Follows.{FollowsSo, Parting}
use Rattle.core_laws.specs.clients.Turns.{Choice, Halt}

-- a link is that of a client, whose row this is
pub record IsLinkOf (link : LinkId) (c : ClientNo) (row : Client) (t : Tabled) : Type 0 where
  pub numbered : t.numbers link ≡ Some c
  pub there : t.clients c ≡ Some row

-- its next message has this ordinal
abbrev pub next_ordinal : Client → ℕ
next_ordinal row = suc row.desk.seat.client.arrived

-- Of one that goes on: they are kept, and it goes on; so links are given back that carried its sessions.
pub record SpeaksSo (service : Service) (default : List ℕ) (link : LinkId) (bytes : List ℕ) (c : ClientNo) (ordinal : ℕ) (choices : List Choice)
    (halt : Halt) (parting : Parting) (links : List LinkId) (old new : Tabled) : Type 0 where
  pub row : Client
  pub its : IsLinkOf link c row old
  pub next : ordinal ≡ next_ordinal row
  pub going : is_ended row.desk.seat.phase ≡ false
  pub heard : Tabled
  pub hears : IsSame heard (spoke c bytes old)
  pub follows : FollowsSo service default c choices halt parting links heard new
