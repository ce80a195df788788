-- What the router promises of a log.
use Rattle.mx_wire.specs.Log.{Log}
use Rattle.mx_wire.specs.Moments.{AllLawful, AtEachMoment}
use Rattle.mx_config.specs.declared.config.Config.{Config}
use Rattle.private_model.specs.Lawful.{IsLawful}
use Rattle.private_model.specs.Names.{ServerId}
use Rattle.std.specs.Prelude.{ℕ, List}
use Rattle.router_promises.specs.Closes.{ClosesSo}
use Rattle.router_promises.specs.Due.{DueSo}
use Rattle.router_promises.specs.Ends.{EndsSo}
use Rattle.router_promises.specs.GivenUp.{GivesUpSo}
use Rattle.router_promises.specs.Opens.{OpensSo}
use Rattle.router_promises.specs.Rest.{RestsSo}
use Rattle.router_promises.specs.Router.{IsConfiguredBy, Router}
use Rattle.router_promises.specs.Routed.{RoutesSo}
use Rattle.log_story.specs.Said as said
use Rattle.router_promises.specs.Steps.{StepsSo}
use Rattle.router_promises.specs.Tags.{TagsSo}
use Rattle.router_promises.specs.Terms.{AreWhoTheySay, Decided, IsRouters, Terms, plan_in, setup_in, tale_at}
use Rattle.mx_wire.specs.Tells.{Fits}

-- what is written on each link to a server is a front of its spelling
abbrev pub SaysSo : Terms → Log → Type 0
SaysSo terms log = said.SaysSo (setup_in terms) (plan_in terms) (tale_at terms log)

-- the story that the log tells is lawful
abbrev pub IsLawfulSo : Terms → Log → Type 0
IsLawfulSo terms log = IsLawful (setup_in terms) (tale_at terms log).story

-- The log is one of a wire. Of each moment: clients are who they say; each question's bytes are a front of its spelling; the story is lawful; and each client's
-- bytes are a front of what it is due. Of each entry: messages go where the configuration says, or are answered as it says; what
-- begins on a link has its tag and place; steps are wanted; links are opened and closed for a cause; statements are given up, and
-- clients end, for a cause; and each wait comes at rest.
pub record Keeps (terms : Terms) (log : Log) : Type 0 where
  pub router : IsRouters terms
  pub fits : AllLawful Fits log
  pub who : AtEachMoment (AreWhoTheySay terms) log
  pub said : AtEachMoment (SaysSo terms) log
  pub lawful : AtEachMoment (IsLawfulSo terms) log
  pub due : AtEachMoment (DueSo terms) log
  pub routed : AllLawful (RoutesSo terms) log
  pub tagged : AllLawful (TagsSo terms) log
  pub steps : AllLawful (StepsSo terms) log
  pub opens : AllLawful (OpensSo terms) log
  pub closes : AllLawful (ClosesSo terms) log
  pub gives_up : AllLawful (GivesUpSo terms) log
  pub ends : AllLawful (EndsSo terms) log
  pub rests : AllLawful (RestsSo terms) log

-- All by one decision for the whole log, whatever servers have stored.
pub record Promises (router : Router) (log : Log) : Type 0 where
  pub decided : Decided
  pub keeps : (stored : (server : ServerId) → List ℕ) → Keeps (record { router = router; decided = decided; stored = stored }) log

-- and the router is the one of the configuration
pub record Serves (config : Config) (log : Log) : Type 0 where
  pub router : Router
  pub configured : IsConfiguredBy config router
  pub promises : Promises router log
