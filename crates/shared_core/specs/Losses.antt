-- What is made of the tables as a link to a server is lost.
use Rattle.std.specs.Prelude.{◌≡◌, ◌<◌, ◌^◌, suc, Bool, true, false, nat_eq, IfSome, List, Option, None, Some}
use Rattle.std.specs.Option.{option_map_or}
use Rattle.mx_base.specs.declared.names.ClientNo.{ClientNo}
use Rattle.mx_base.specs.declared.names.LinkId.{LinkId}
use Rattle.private_model.specs.Story.{is_hostgroup}
use Rattle.session_state.specs.declared.names.SessionName.{SessionName}
use Rattle.client_desk.specs.declared.work.Work.{Work}
use Rattle.core_policy.specs.declared.verdict.GiveUp.{GiveUp}
use Rattle.core_service.specs.Serves.{rules_in}
use Rattle.core_service.specs.declared.service.Service.{Service}
use Rattle.core_tables.specs.Parting.{name_in, present_in}
use Rattle.core_tables.specs.Tables.{Tabled}
use Rattle.core_tables.specs.declared.client.Client.{Client}
use Rattle.core_tables.specs.declared.server.Server.{Server}
use Rattle.core_laws.specs.clients.Going.{GivenUp, Going}
use Rattle.core_laws.specs.parting.Partings.{IsAtWork}
use Rattle.router_laws.specs.links.Loses.{GoesWithIt, LosesEnded, LosesSo}
use Rattle.marked_tables.specs.Marking.{carried_at}
use Rattle.router_laws.specs.decisions.Causes.{IsLostFor}
use Rattle.router_laws.specs.decisions.Partings.{IsGoingParted}
use Rattle.router_laws.specs.decisions.Rulings.{IsRuledOn}
use Rattle.router_laws.specs.decisions.Speaks.{AreGivenOurs, AreGoingOurs}
use Rattle.shared_core.specs.Follows.{Made, MayBeGivenWith, ruling_in}

-- this client's statement is given up
abbrev pub is_given : Option GiveUp → ClientNo → Bool
is_given given c = option_map_or (λ (up : GiveUp). nat_eq up.client.0 c.0) given false

-- The client of the present session that the link carries has a statement in work there; and there is a life for the next.
pub record IsHeldBy (link : LinkId) (c : ClientNo) (t : Tabled) : Type 0 where
  pub name : SessionName
  pub carries : present_in link t ≡ Some name
  pub its : name.client ≡ c
  pub lives : suc name.life < 2 ^ 64
  pub row : Client
  pub work : Work
  pub at_work : IsAtWork t c row work
  pub there : is_hostgroup work.hostgroup name.hostgroup ≡ true

-- Who ends with that session; and where nobody does, it may go with its link.
abbrev pub EndsWith : LinkId → Option GiveUp → Option ClientNo → Tabled → Type 0
EndsWith link given None t = GoesWithIt link (is_given given) t
EndsWith link given (Some c) t = IsHeldBy link c t

-- Whose session it carries; what is given up may be; and the session that goes with it may.
pub record MayLose (link : LinkId) (name : Option SessionName) (given : Option GiveUp) (t : Tabled) : Type 0 where
  pub server : Server
  pub there : t.links link ≡ Some server
  pub named : name ≡ name_in server.row.link.state.carries
  pub may : IfSome given (λ (up : GiveUp). MayBeGivenWith link name up t)
  pub carried : name ≡ carried_at (t.links link)
  pub with_it : GoesWithIt link (is_given given) t

-- A statement was given up, if one was, and a client went on, if one was called.
pub record HasLost (service : Service) (made : Made) (link : LinkId) (old new : Tabled) : Type 0 where
  pub given : Option GivenUp
  pub going : Option Going
  pub given_ours : AreGivenOurs given
  pub why : IsLostFor link old given
  pub parted : IsGoingParted service.buffer_budget link old going
  pub ours : AreGoingOurs (rules_in service) made.texts going
  pub so : LosesSo service.setup service.default_schema link given going old new
  pub ruled : IsRuledOn (ruling_in service made) going service.setup service.default_schema so.lost new so.goes

-- Or a client was ended with it.
pub record HasLostEnded (link : LinkId) (c : ClientNo) (old new : Tabled) : Type 0 where
  pub links : List LinkId
  pub so : LosesEnded link c links old new
