-- What is asked of an entry, beside that the tables rest behind it, for a core to go on with it.
use Rattle.std.specs.Prelude.{◌≡◌, Bool, true, false, is_some}
use Rattle.mx_wire.specs.Log.{Log}
use Rattle.mx_wire.specs.declared.entry.Entry.{Entry}
use Rattle.mx_wire.specs.declared.entry.Entry.TheVariants.{Got, Opened, Wrote}
use Rattle.client_session.specs.Setups.{Setup as Service}
use Rattle.private_model.specs.Names.{ClientNo}
use Rattle.log_story.specs.Tale as tales
use Rattle.log_story.specs.Tale.{Tale, is_to_server}
use Rattle.step_laws.specs.Seats.{IsSeated}
use Rattle.core_tables.specs.Tables.{Tabled}
use Rattle.core_stands.specs.Grounds.{Ground, known_on}
use Rattle.core_stands.specs.Stands.{Rests}
use Rattle.core_laws.specs.entry.Dues.{EndsSaying, IsCome, IsWrittenBy}
use Rattle.core_laws.specs.entry.Entries.{behind}
use Rattle.router_laws.specs.clients.Continues.{HasCome, IsContinued, is_read_on}

-- What it writes to clients was due to them, nothing is read of one that is over, whoever it ends is told a word in its place and has a row
-- still, and on the link of one that comes nothing was written.
pub record IsDueBehind (g : Ground) (log : Log) (e : Entry) (whose over : ClientNo → Bool) (now : Tabled) : Type 0 where
  pub writes : (client : tales.Client) → IsSeated g.tale client → IsWrittenBy g e client
  pub unread : (client : tales.Client) → IsSeated g.tale client → g.over client.number ≡ true → is_read_on e client.link ≡ false
  pub says : (was client : tales.Client) → IsSeated g.tale was → IsContinued g.plan g.tale e was client → whose was.number ≡ true
      → g.over was.number ≡ false → EndsSaying (known_on g) (known_on (behind g e over)) was client
  pub there : (client : tales.Client) → IsSeated g.tale client → whose client.number ≡ true → is_some (now.clients client.number) ≡ true
  pub comes : (client : tales.Client) → IsSeated (behind g e over).tale client → HasCome g.tale e client → IsCome log e client

-- an entry of no link to a server: nothing is read or written there, and none is opened
abbrev pub IsOffServers : Tale → Entry → Type 0
IsOffServers tale (Got link bytes) = is_to_server tale link ≡ false
IsOffServers tale (Wrote link tag bytes) = is_to_server tale link ≡ false
IsOffServers tale (Opened server address link) = ⊥
IsOffServers tale _ = Unit {0}

-- What one kind of entry shows by one setup and plan: the tables rest behind it, what it writes is due, and it is of no
-- link to a server.
pub record IsEntered (service : Service) (g : Ground) (log : Log) (e : Entry) (whose over : ClientNo → Bool) (t now : Tabled)
    (roomy room : ClientNo → Bool) : Type 0 where
  pub rests : Rests service g t roomy → Rests service (behind g e over) now room
  pub due : Rests service g t roomy → IsDueBehind g log e whose over now
  pub off : Rests service g t roomy → IsOffServers g.tale e
