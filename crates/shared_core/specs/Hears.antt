-- What is made of the tables as bytes come on a link to a server.
use Rattle.std.specs.Prelude.{ℕ, List, Option}
use Rattle.mx_base.specs.declared.names.LinkId.{LinkId}
use Rattle.core_service.specs.Serves.{rules_in}
use Rattle.core_service.specs.declared.service.Service.{Service}
use Rattle.core_laws.specs.clients.Going.{GivenUp, Going}
use Rattle.router_laws.specs.decisions.Causes.{IsHeardFor}
use Rattle.router_laws.specs.decisions.Partings.{IsGoingParted}
use Rattle.router_laws.specs.decisions.Rulings.{IsRuledOn}
use Rattle.router_laws.specs.decisions.Speaks.{AreGivenOurs, AreGoingOurs}
use Rattle.router_laws.specs.reading.Hears.{HearsSo}
use Rattle.shared_core.specs.Follows.{made_by, ruling_in}
use Rattle.shared_core.specs.Stands.{tables}
use Rattle.shared_core.specs.declared.router.Router.{Router}

-- A statement was given up, if one was, and a client went on, if one was called.
pub record HasHeard (service : Service) (link : LinkId) (bytes : List ℕ) (old new : Router) : Type 0 where
  pub given : Option GivenUp
  pub going : Option Going
  pub given_ours : AreGivenOurs given
  pub why : IsHeardFor link (tables old) given
  pub parted : IsGoingParted service.buffer_budget link (tables old) going
  pub ours : AreGoingOurs (rules_in service) new.texts going
  pub so : HearsSo service.setup service.default_schema link bytes old.came.clock given going (tables old) (tables new)
  pub ruled : IsRuledOn (ruling_in service (made_by service old new)) going service.setup service.default_schema so.freed (tables new) so.goes
