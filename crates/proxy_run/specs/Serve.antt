-- What serving by a configuration keeps on a wire that tells its log, and why it stops.
use Rattle.std.specs.Prelude.{◌≡◌, ◌⊎◌, ℕ, ◌<◌, List, [], ◌∷◌, ◌++◌, Option, Some, true}
use Rattle.mx_base.specs.declared.names.LinkId.{LinkId}
use Rattle.mx_wire.specs.Log.{AreMarks, Log, written_of}
use Rattle.mx_wire.specs.declared.entry.Entry.{Entry}
use Rattle.mx_config.specs.declared.config.Config.{Config}
use Rattle.ready_loop.specs.Round.{wakes_of}
use Rattle.ready_loop.specs.Serving.{EndsWith, IsOver, IsPortFault, IsBusy}
use Rattle.core_promises.specs.InForce.{has_administrator}
use Rattle.core_promises.specs.Sessions.{ServesApart}
use Rattle.proxy_run.specs.declared.stop.Stop.{Stop}
use Rattle.proxy_run.specs.declared.stop.Stop.TheVariants as stop
use Rattle.proxy_run.specs.Replay.{Held, Configures, IsMisconfigured, IsRunBy}

-- The log is one of a run by the configuration, and in it clients are kept apart.
pub record ServesAt (config : Config) (told : Option Log) : Type 0 where
  pub run : (log : Log) → told ≡ Some log → IsRunBy config log
  pub serves : (log : Log) → told ≡ Some log → ServesApart config log

-- a wire that tells its log tells of no call
pub record IsUntouched (told : Option Log) : Type 0 where
  pub empty : (log : Log) → told ≡ Some log → log ≡ []

-- so many waits woke, or one wake took as many calls as it may
pub record IsWornOut (turns : ℕ) (told : Option Log) : Type 0 where
  pub worn : (log : Log) → told ≡ Some log → (wakes_of log ≡ turns) ⊎ IsBusy log

-- how often the router waits at most for a wire that is handed in
abbrev pub most_turns : ℕ
most_turns = 4611686018427387904

-- an administrator came, who may have it shut down
pub record IsShutDown (told : Option Log) : Type 0 where
  pub administrator : (log : Log) → told ≡ Some log → has_administrator log ≡ true

-- the wire has nothing more, or the router has shut down
abbrev pub IsServed : Option Log → Type 0
IsServed told = EndsWith IsOver told ⊎ IsShutDown told

-- the router served by this configuration, and its log ends so
pub record Attended (config : Config) (Ends : Option Log → Type 0) (told : Option Log) : Type 0 where
  pub serves : ServesAt config told
  pub ends : Ends told

-- the log goes on with the answer of one call, and marks before it
pub record GoesOnWith (before log : Log) : Type 0 where
  pub marks : Log
  pub only_marks : AreMarks marks
  pub last : Entry
  pub is : log ≡ before ++ marks ++ last ∷ []

-- So it served, but for the last call, by whose answer memory was refused: nothing was written by it.
pub record ServesButLast (config : Config) (log : Log) : Type 0 where
  pub run : IsRunBy config log
  pub before : Log
  pub serves : ServesApart config before
  pub last : (log ≡ before) ⊎ GoesOnWith before log
  pub unwritten : (link : LinkId) → written_of link log ≡ written_of link before

pub record RefusedAt (config : Config) (told : Option Log) : Type 0 where
  pub serves : (log : Log) → told ≡ Some log → ServesButLast config log

abbrev pub AttendStops : Stop → (turns : ℕ) → Config → Option Log → (faults_before faults_now : ℕ) → Type 0
AttendStops stop.OutOfMemory turns config told before now = IsUntouched told ⊎ RefusedAt config told
AttendStops stop.ListenFault turns config told before now = Attended config (EndsWith IsPortFault) told × (before < now)
AttendStops stop.TurnsSpent turns config told before now = Attended config (IsWornOut turns) told
AttendStops _ turns config told before now = ⊥

-- the bytes under the name say the configuration
pub record Served (name : List ℕ) (held : Held) (Ends : Option Log → Type 0) (told : Option Log) : Type 0 where
  pub config : Config
  pub said : Configures name held config
  pub attended : Attended config Ends told

-- so it did until memory was refused
pub record Refused (name : List ℕ) (held : Held) (told : Option Log) : Type 0 where
  pub config : Config
  pub said : Configures name held config
  pub refused : RefusedAt config told

-- No call of the wire was made, or the router served by the configuration until memory was refused.
pub record ServedUntil (name : List ℕ) (held : Held) (told : Option Log) : Type 0 where
  pub either : IsUntouched told ⊎ Refused name held told

abbrev pub ServeStops : Stop → List ℕ → Held → (read_before read_now : ℕ) → Option Log → (faults_before faults_now : ℕ) → Type 0
ServeStops stop.ReadFault name held read_before read_now told before now = read_before < read_now
ServeStops (stop.BadConfig fault) name held read_before read_now told before now = IsMisconfigured name held fault
ServeStops stop.OutOfMemory name held read_before read_now told before now = ServedUntil name held told
ServeStops stop.ListenFault name held read_before read_now told before now = Served name held (EndsWith IsPortFault) told × (before < now)
ServeStops stop.TurnsSpent name held read_before read_now told before now = Served name held (IsWornOut most_turns) told
ServeStops _ name held read_before read_now told before now = ⊥

-- it stopped before it made a call of the wire
abbrev pub IsEarly : Stop → Type 0
IsEarly stop.ReadFault = Unit {0}
IsEarly (stop.BadConfig fault) = Unit {0}
IsEarly _ = ⊥
