-- What the router promises of its clients' sessions: no client sees another's.
use Rattle.std.specs.Prelude.{ℕ, length, List}
use Rattle.mx_config.specs.declared.config.Config.{Config}
use Rattle.log_story.specs.Said.{IsSaidLog}
use Rattle.mx_wire.specs.Log.{Log}
use Rattle.mx_wire.specs.Moments.{AllLawful, AtEachMoment}
use Rattle.mx_wire.specs.Tells.{Fits}
use Rattle.private_model.specs.Names.{MessageName, ServerId}
use Rattle.query_rules.specs.declared.rule.Rule.{Rule}
use Rattle.own_words.specs.Own.{SpeaksOwn}
use Rattle.core_promises.specs.Asks.{AsksSo, CopiesNothing}
use Rattle.core_promises.specs.Causes.{GivesUpSo}
use Rattle.core_promises.specs.Endings.{EndsForCauses}
use Rattle.core_promises.specs.Administered.{Administers, outcomes_at}
use Rattle.core_promises.specs.Judges.{JudgesSo}
use Rattle.core_promises.specs.Waits.{WaitsSo}
use Rattle.router_promises.specs.Due.{DueSo}
use Rattle.router_promises.specs.Headline.{IsLawfulSo}
use Rattle.router_promises.specs.Router.{IsConfiguredBy, Router}
use Rattle.router_promises.specs.Terms.{AreWhoTheySay, Decided, IsRouters, Terms, plan_in, setup_in}

-- The log is one of a wire. Of each moment: clients are who they say, and begin where they say; each question's bytes are a front of its
-- spelling, and nothing begins on a link before what was begun there is whole; the story is lawful, so that no session is lent that another's
-- is in; and each client's bytes are a front of what it is due. What a server is asked for a client is the client's own text, or what the rules
-- make of it. What becomes of each message is what the verdict says, by the rules in force before its entry: those of the configuration, or that an
-- administrator loaded last; and each administrator is answered by the rows that administrators staged. What the router says by itself are its own words, whatever it decided; and
-- a statement is given up for a cause, and a client ends for one. At each wait all is done but lending.
pub record KeepsApart (terms : Terms) (log : Log) : Type 0 where
  pub router : IsRouters terms
  pub fits : AllLawful Fits log
  pub who : AtEachMoment (AreWhoTheySay terms) log
  pub said : IsSaidLog (setup_in terms) (plan_in terms) log
  pub lawful : AtEachMoment (IsLawfulSo terms) log
  pub due : AtEachMoment (DueSo terms) log
  pub rules : MessageName → List Rule
  pub administers : Administers (outcomes_at rules (plan_in terms) (length log)) (setup_in terms) (plan_in terms) terms.router.rules log
  pub asks : AsksSo terms rules log
  pub copies : CopiesNothing (plan_in terms)
  pub judges : JudgesSo terms rules log
  pub speaks : SpeaksOwn rules (plan_in terms)
  pub gives : GivesUpSo terms log
  pub ends : EndsForCauses terms log
  pub waits : AllLawful (WaitsSo terms) log

-- All by one decision for the whole log, whatever servers have stored.
pub record Separates (router : Router) (log : Log) : Type 0 where
  pub decided : Decided
  pub keeps : (stored : (server : ServerId) → List ℕ) → KeepsApart (record { router = router; decided = decided; stored = stored }) log

-- and the router is the one of the configuration
pub record ServesApart (config : Config) (log : Log) : Type 0 where
  pub router : Router
  pub configured : IsConfiguredBy config router
  pub separates : Separates router log
