-- Links to servers of a log, and clients, whatever the plan.
use Rattle.std.specs.Prelude.{◌≡◌, length}
use Rattle.mx_wire.specs.Log.{Log, accepted_links, opened_links}
use Rattle.step_laws.specs.Freed.{Ascend}
use Rattle.step_laws.specs.Seats.{AreCounted, numbers}
use Rattle.log_story.specs.Tale.{Tale}

-- each link that was opened has a greater number than those before it
abbrev pub Rises : Log → Type 0
Rises log = Ascend (λ l. l.0) (opened_links log)

-- A tale has them in their order, and as many clients as came, each with its place as its number.
pub record IsTaleOf (log : Log) (tale : Tale) : Type 0 where
  pub moment : tale.moment ≡ length log
  pub links : tale.links ≡ opened_links log
  pub clients : length tale.clients ≡ length (accepted_links log)
  pub counted : AreCounted 1 (numbers tale)
