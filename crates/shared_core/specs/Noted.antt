-- By when what clients have in work had been taken up: how the router notes it.
use Rattle.std.specs.Prelude.{◌≡◌, ℕ}
use Rattle.mx_wire.specs.Log.{Log}
use Rattle.core_service.specs.declared.service.Service.{Service}
use Rattle.core_texts.specs.declared.noted.Noted.{Noted}
use Rattle.shared_core.specs.Stands.{Moves, StandsFor}
use Rattle.shared_core.specs.declared.router.Router.{Router}

-- what is noted is of the message of this place, and says this moment
pub record IsNotedBy (one : Noted) (ordinal by_ms : ℕ) : Type 0 where
  pub place : one.ordinal ≡ ordinal
  pub moment : one.by_ms ≡ by_ms

-- Something was noted: the router stands for what it stood for.
pub record HasNoted (old new : Router) : Type 0 where
  pub stands : (service : Service) (log : Log) → StandsFor service log old → StandsFor service log new
  pub moves : Moves old new
