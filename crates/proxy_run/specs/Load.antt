-- What a generated load puts, and why it stops short.
use Rattle.std.specs.Prelude.{◌≡◌, ℕ, ◌+◌, ◌*◌, ◌<◌, true, List, [], ◌∷◌, Option, Some, None}
use Rattle.mx_wire.specs.Log.{Log}
use Rattle.mx_wire.specs.Outside.{Takes, TakesFront}
use Rattle.ready_loop.specs.Serving.{EndsWith, IsOver, IsPortFault}
use Rattle.mem_rule.specs.Stored.{step, tables_out}
use Rattle.scripted_wire.specs.Plays.{Cast, IsPlayOf}
use Rattle.scripted_wire.specs.Stages.{is_over}
use Rattle.generated_load.specs.Configs.{load_config}
use Rattle.generated_load.specs.Server.{load_tables}
use Rattle.generated_load.specs.Talks.{AreScripts, load_of}
use Rattle.generated_load.specs.Text.{load_text}
use Rattle.generated_load.specs.declared.ask.LoadAsk.{LoadAsk}
use Rattle.proxy_run.specs.declared.stop.Stop.{Stop}
use Rattle.proxy_run.specs.declared.stop.Stop.TheVariants as stop
use Rattle.proxy_run.specs.Replay.{PutsNothing}
use Rattle.proxy_run.specs.Serve.{Attended, IsWornOut}

-- how often the router waits at most
abbrev pub load_turns : LoadAsk → ℕ
load_turns ask = 1000 * (ask.clients + ask.statements) + 1000

-- the clients say what the numbers say, and the one server has at first what that of a load has
pub record IsCastOf (ask : LoadAsk) (cast : Cast) : Type 0 where
  pub says : AreScripts (load_of ask).talks cast.scripts
  pub stored : cast.stored ≡ tables_out load_tables ∷ []

-- The log is one of a load: these clients and that server give it, the router served by the configuration of loads, and clients are kept apart in
-- it, until it ended so.
pub record IsLoad (ask : LoadAsk) (Ends : Option Log → Type 0) (log : Log) : Type 0 where
  pub cast : Cast
  pub is : IsCastOf ask cast
  pub plays : IsPlayOf step cast log
  pub attended : Attended load_config Ends (Some log)

-- It ended where the wire had nothing more: nobody waits, and each client whose link is open has said all and was answered.
pub record IsDoneLoad (ask : LoadAsk) (log : Log) : Type 0 where
  pub load : IsLoad ask (EndsWith IsOver) log
  pub over : is_over load.plays.scene.stage ≡ true

-- what is counted of such a log is put
pub record Counted (ask : LoadAsk) (old new : Option (List ℕ)) : Type 0 where
  pub log : Log
  pub load : IsDoneLoad ask log
  pub put : Takes old (load_text ask log) new

-- a front of it is, where the sink failed
pub record CountedInPart (ask : LoadAsk) (old : Option (List ℕ)) (before : ℕ) (new : Option (List ℕ)) (now : ℕ) : Type 0 where
  pub log : Log
  pub load : IsDoneLoad ask log
  pub put : TakesFront old (load_text ask log) new
  pub rose : before < now

-- what is counted of a log is put, or a front of it
pub record PutsCounts (ask : LoadAsk) (told : Option Log) (old new : Option (List ℕ)) : Type 0 where
  pub log : Log
  pub is : told ≡ Some log
  pub put : Takes old (load_text ask log) new

pub record PutsCountsFront (ask : LoadAsk) (told : Option Log) (old : Option (List ℕ)) (before : ℕ) (new : Option (List ℕ)) (now : ℕ) : Type 0 where
  pub log : Log
  pub is : told ≡ Some log
  pub put : TakesFront old (load_text ask log) new
  pub rose : before < now

abbrev pub PutCountsStops : Stop → LoadAsk → Option Log → Option (List ℕ) → ℕ → Option (List ℕ) → ℕ → Type 0
PutCountsStops stop.SinkFault ask told old before new now = PutsCountsFront ask told old before new now
PutCountsStops stop.OutOfMemory ask told old before new now = PutsNothing old before new now
PutCountsStops _ ask told old before new now = ⊥

-- a log that is no longer told stands for want of memory
abbrev pub told_stop : Option Log → Stop → Stop
told_stop None given = stop.OutOfMemory
told_stop (Some log) given = given

abbrev pub RunStops : Stop → LoadAsk → Option Log → Type 0
RunStops stop.OutOfMemory ask told = Unit {0}
RunStops stop.ListenFault ask told = Attended load_config (EndsWith IsPortFault) told
RunStops stop.TurnsSpent ask told = Attended load_config (IsWornOut (load_turns ask)) told
RunStops _ ask told = ⊥

-- Why a load stops short: of a sink that failed a front is put, and else nothing.
abbrev pub LoadStops : Stop → LoadAsk → Option (List ℕ) → ℕ → Option (List ℕ) → ℕ → Type 0
LoadStops stop.SinkFault ask old before new now = CountedInPart ask old before new now
LoadStops stop.OutOfMemory ask old before new now = PutsNothing old before new now
LoadStops stop.ListenFault ask old before new now = ((log : Log) × IsLoad ask (EndsWith IsPortFault) log) × PutsNothing old before new now
LoadStops stop.TurnsSpent ask old before new now = ((log : Log) × IsLoad ask (IsWornOut (load_turns ask)) log) × PutsNothing old before new now
LoadStops _ ask old before new now = ⊥
