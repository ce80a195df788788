-- What a router's tables are, whatever the setup and the plan.
use Rattle.std.specs.Prelude.{◌≡◌, Bool, Some, None}
use Rattle.mx_wire.specs.Log.{Log}
use Rattle.client_session.specs.Setups.{Setup as Service}
use Rattle.private_model.specs.Names.{ClientNo, LinkId}
use Rattle.log_story.specs.Headline.{tale_of}
use Rattle.core_tables.specs.Tables.{Tabled}
use Rattle.core_tables.specs.declared.client.Client.{Client}
use Rattle.core_stands.specs.Grounds.{Ground}
use Rattle.core_stands.specs.Stands.{Rests}

-- they rest for a tale of the log, by some setup and plan
pub record RestsSomehow (service : Service) (log : Log) (t : Tabled) (roomy : ClientNo → Bool) : Type 0 where
  pub g : Ground
  pub tale_is : g.tale ≡ tale_of g.setup g.plan log
  pub rests : Rests service g t roomy

-- a link of a client is that of its row, and no link to a server

pub record IsLinked (l : LinkId) (c : ClientNo) (t : Tabled) : Type 0 where
  pub row : Client
  pub there : t.clients c ≡ Some row
  pub link : row.desk.seat.link ≡ l
  pub aside : t.links l ≡ None

abbrev pub AreLinked : Tabled → Type 0
AreLinked t = (l : LinkId) (c : ClientNo) → t.numbers l ≡ Some c → IsLinked l c t
