-- A client's messages are taken up one by one.
use Rattle.std.specs.Prelude.{◌≡◌, ◌≤◌, ℕ, ◌+◌, length}
use Rattle.client_session.specs.Setups.{Setup as Service}
use Rattle.log_story.specs.Clients.{taken_up}
use Rattle.log_story.specs.Owed.{messages}
use Rattle.log_story.specs.Tale as tales
use Rattle.log_story.specs.Tale.{Tale}
use Rattle.step_laws.specs.Seats.{IsSeated}
use Rattle.step_laws.specs.Taken.{all_taken}
use Rattle.core_tables.specs.Tables.{Tabled}
use Rattle.core_stands.specs.Grounds.{Ground}
use Rattle.core_stands.specs.Stands.{Stands}

-- Of a client of a tale some were, so that it stands as `client` now: what it takes up from here on is all that it takes up from there.
pub record IsTaking (service : Service) (first : tales.Client) (from : Tale) (g : Ground) (t : Tabled) (client : tales.Client) : Type 0 where
  pub stands : Stands service g t
  pub seated : IsSeated g.tale client
  pub number : client.number ≡ first.number
  pub most : ℕ
  pub enough : length (messages g.plan client) ≤ most + client.taken
  pub to_come : taken_up most g.setup g.plan client g.tale ≡ all_taken g.setup g.plan first from
