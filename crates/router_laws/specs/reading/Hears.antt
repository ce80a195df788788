-- Bytes come on a link to a server: of the code alone.
use Rattle.std.specs.Prelude.{◌≡◌, ℕ, false, List, Option, Some}
use Rattle.std.specs.Option.{option_map}
use Rattle.mx_base.specs.declared.names.LinkId.{LinkId}
use Rattle.client_session.specs.Setups.{Setup as Service}
use Rattle.core_promises.specs.Ruled.{Ruling}
use Rattle.core_tables.specs.Hearing.{IsHeardOn}
use Rattle.core_tables.specs.Parting.{freed_in, given_up_in, name_in}
use Rattle.core_tables.specs.Preparing.{IsKeptFor}
use Rattle.core_tables.specs.Tables.{IsSame, Tabled}
use Rattle.core_tables.specs.declared.said.Said.{Said}
use Rattle.core_tables.specs.declared.server.Server.{Server}
use Rattle.core_laws.specs.clients.Going.{GivenUp, GoesSo, Going, IsCalled, told_to}
use Rattle.router_laws.specs.decisions.Rulings.{IsRuledOn}
use Rattle.router_laws.specs.reading.Givings.{MayGiveUp}

-- The bytes are read at this moment, and what they prepared is kept; what is given up is; the link is given back, if it is done with its session; and who is called goes on.
pub record HearsSo (service : Service) (default : List ℕ) (l : LinkId) (bytes : List ℕ) (now : ℕ) (given : Option GivenUp) (going : Option Going)
    (old new : Tabled) : Type 0 where
  pub server : Server
  pub there : old.links l ≡ Some server
  pub whole : server.row.lost ≡ false
  pub sound : server.row.link.spoilt ≡ false
  pub said : Said
  pub read : Tabled
  pub hears : IsHeardOn server l bytes now said read old
  pub heard : Tabled
  pub keeps : IsKeptFor said l read heard
  pub may : MayGiveUp l given heard
  pub freed : Tabled
  pub frees : IsSame freed (freed_in l (given_up_in (told_to given) heard))
  pub called : IsCalled (name_in server.row.link.state.carries) given freed (option_map (λ (g : Going). g.client) going)
  pub goes : GoesSo going service default freed new

-- And the turns of the client that goes on are ruled.
pub record HearsRuled (ruling : Ruling) (service : Service) (default : List ℕ) (l : LinkId) (bytes : List ℕ) (now : ℕ) (given : Option GivenUp)
    (going : Option Going) (old new : Tabled) : Type 0 where
  pub so : HearsSo service default l bytes now given going old new
  pub ruled : IsRuledOn ruling going service default so.freed new so.goes
