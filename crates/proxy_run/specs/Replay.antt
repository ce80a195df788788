-- What a replay puts, and why it stops short.
use Rattle.mx_wire.specs.Outside.{HasUnder, Takes, TakesFront}
use Rattle.std.specs.Prelude.{Bool, Err, List, None, Ok, Option, Some, [], length, true, ℕ, ◌++◌, ◌<◌, ◌∷◌, ◌≡◌, ◌≤◌, ◌⊎◌}
use Rattle.mx_base.{specs.declared.names.LinkId.LinkId, specs.declared.names.Port.Port}
use Rattle.mx_wire.specs.Log.{read_of}
use Rattle.mx_wire.specs.Tells.{IsOpen}
use Rattle.mem_wire.specs.Came.{Known, accepted_at, known, wakes, with_link}
use Rattle.mem_wire.specs.Lines.{bytes_for, clients_at, moments}
use Rattle.ready_loop.specs.Drained.{read_dry}
use Rattle.mem_wire.{specs.Play.IsPlay, specs.Told.Played}
use Rattle.mx_config.{specs.Reading.reading_of, specs.Values.Agrees, specs.declared.config.Config.Config, specs.declared.fault.ConfigFault.ConfigFault}
use Rattle.mx_wire.{specs.Log.Log, specs.Moments.AllLawful, specs.Tells.Fits, specs.declared.entry.Entry.TheVariants.Over}
use Rattle.core_promises.{specs.InForce.has_administrator, specs.Sessions.ServesApart}
use Rattle.proxy_run.{specs.Words.Named, specs.Words.replay_words, specs.declared.stop.Stop.Stop}
use Rattle.recording.{specs.Recording.recording_of, specs.Transcript.transcript_of, specs.declared.entry.RecordEntry.RecordEntry}
use Rattle.recording.{specs.declared.fault.RecordFault.RecordFault}
use Rattle.{ready_loop.specs.Round.calls_since_wake, ready_loop.specs.Serving.ListensBefore}
use Rattle.proxy_run.specs.declared.stop.Stop.TheVariants as stop

-- names with their bytes, where they are told
abbrev pub Held : Type 0
Held = Option (List (List ℕ × List ℕ))

-- the bytes under the name say this configuration, by each test of texts that knows a pattern of the rules as the reader of patterns does
pub record Configures (name : List ℕ) (held : Held) (config : Config) : Type 0 where
  pub bytes : List ℕ
  pub under : HasUnder name bytes held
  pub said : (is_pattern : List ℕ → Bool) → Agrees is_pattern → reading_of is_pattern bytes ≡ Ok config

-- they say a configuration
pub record IsConfigured (name : List ℕ) (held : Held) : Type 0 where
  pub config : Config
  pub said : Configures name held config

-- they say none, and this is their first fault
pub record IsMisconfigured (name : List ℕ) (held : Held) (fault : ConfigFault) : Type 0 where
  pub bytes : List ℕ
  pub under : HasUnder name bytes held
  pub said : (is_pattern : List ℕ → Bool) → Agrees is_pattern → reading_of is_pattern bytes ≡ Err fault

-- the bytes under the name say these entries
pub record IsUnder (name : List ℕ) (held : Held) (entries : List RecordEntry) : Type 0 where
  pub bytes : List ℕ
  pub under : HasUnder name bytes held
  pub said : recording_of bytes ≡ Ok entries

-- they are no recording, and this is their first fault
pub record IsFaulty (name : List ℕ) (held : Held) (fault : RecordFault) : Type 0 where
  pub bytes : List ℕ
  pub under : HasUnder name bytes held
  pub said : recording_of bytes ≡ Err fault

-- A log of a run by the configuration: it fits its wire, so that moments never fall, no two links have one number, and calls name open links
-- alone; and the router listened at both addresses of the configuration before any other call, and at no others.
pub record IsRunBy (config : Config) (log : Log) : Type 0 where
  pub fits : AllLawful Fits log
  pub listens : AllLawful (ListensBefore config.proxy.listen config.proxy.admin_listen) log

-- Clients are kept apart, until the wire has nothing more.
pub record ServesToEnd (config : Config) (log : Log) : Type 0 where
  pub run : IsRunBy config log
  pub serves : ServesApart config log
  pub before : Log
  pub over : log ≡ before ++ Over ∷ []

-- Clients are kept apart, until the router has shut down: an administrator came.
pub record ServesUntilShut (config : Config) (log : Log) : Type 0 where
  pub run : IsRunBy config log
  pub serves : ServesApart config log
  pub administrator : has_administrator log ≡ true

-- The recording was played to its end: each of its moments came, each of its clients was accepted, and of each open link that was read dry all
-- was read that the recording has for it.
pub record IsPlayedOut (entries : List RecordEntry) (log : Log) : Type 0 where
  pub woke : wakes log ≡ length (moments entries)
  pub accepted : (port : Port) → accepted_at port log ≡ length (clients_at port entries)
  pub read : (link : LinkId) (k : Known) → with_link link (known entries log) ≡ Some k → IsOpen link log → read_dry link log ≡ true
      → read_of link log ≡ bytes_for k.name entries

-- so it was, and clients were kept apart
pub record PlayedToEnd (config : Config) (entries : List RecordEntry) (log : Log) : Type 0 where
  pub serves : ServesToEnd config log
  pub played : IsPlayedOut entries serves.before

-- what a tape tells that has played these entries
pub record HasPlayed (config : Config) (entries : List RecordEntry) (tape : Played) : Type 0 where
  pub plays : (log : Log) → IsPlay tape.recording log → IsPlay entries log
  pub serves : (log : Log) → tape.told ≡ Some log → ServesToEnd config log ⊎ ServesUntilShut config log

-- a play of which the same holds, in which one wake took as many calls as it may
pub record IsSpent (config : Config) (entries : List RecordEntry) (log : Log) : Type 0 where
  pub play : IsPlay entries log
  pub run : IsRunBy config log
  pub serves : ServesApart config log
  pub spent : 4294967296 ≤ calls_since_wake log

abbrev pub ConfigStops : Stop → List ℕ → Held → (before now : ℕ) → Type 0
ConfigStops stop.ReadFault name held before now = before < now
ConfigStops (stop.BadConfig fault) name held before now = IsMisconfigured name held fault
ConfigStops stop.OutOfMemory name held before now = Unit {0}
ConfigStops _ name held before now = ⊥

abbrev pub ReadStops : Stop → List ℕ → Held → (before now : ℕ) → Type 0
ReadStops stop.ReadFault name held before now = before < now
ReadStops (stop.BadRecording fault) name held before now = IsFaulty name held fault
ReadStops stop.OutOfMemory name held before now = Unit {0}
ReadStops _ name held before now = ⊥

abbrev pub PlayStops : Stop → Config → List RecordEntry → Type 0
PlayStops stop.OutOfMemory config entries = Unit {0}
PlayStops stop.TurnsSpent config entries = (log : Log) × IsSpent config entries log
PlayStops _ config entries = ⊥

-- the transcript of the log is put
pub record Puts (tape : Played) (old new : Option (List ℕ)) : Type 0 where
  pub log : Log
  pub is : tape.told ≡ Some log
  pub play : IsPlay tape.recording log
  pub put : Takes old (transcript_of log) new

-- a front of it is, where the sink failed
pub record PutsFront (tape : Played) (old : Option (List ℕ)) (before : ℕ) (new : Option (List ℕ)) (now : ℕ) : Type 0 where
  pub log : Log
  pub is : tape.told ≡ Some log
  pub play : IsPlay tape.recording log
  pub put : TakesFront old (transcript_of log) new
  pub rose : before < now

-- nothing was put
pub record PutsNothing (old : Option (List ℕ)) (before : ℕ) (new : Option (List ℕ)) (now : ℕ) : Type 0 where
  pub same : new ≡ old
  pub calm : now ≡ before

abbrev pub PutStops : Stop → Played → Option (List ℕ) → ℕ → Option (List ℕ) → ℕ → Type 0
PutStops stop.OutOfMemory tape old before new now = PutsNothing old before new now
PutStops stop.SinkFault tape old before new now = PutsFront tape old before new now
PutStops _ tape old before new now = ⊥

-- The words name a configuration and a recording, and the recording is replayed to this log.
pub record IsReplay (words : List (List ℕ)) (held : Held) (log : Log) : Type 0 where
  pub names : Named
  pub named : replay_words words ≡ Some names
  pub configured : IsConfigured names.config held
  pub entries : List RecordEntry
  pub under : IsUnder names.recording held entries
  pub play : IsPlay entries log
  pub served : PlayedToEnd configured.config entries log ⊎ ServesUntilShut configured.config log

-- and the transcript of that log is put
pub record Replayed (words : List (List ℕ)) (held : Held) (old new : Option (List ℕ)) : Type 0 where
  pub log : Log
  pub replay : IsReplay words held log
  pub put : Takes old (transcript_of log) new

pub record ReplayedInPart (words : List (List ℕ)) (held : Held) (old : Option (List ℕ)) (before : ℕ) (new : Option (List ℕ)) (now : ℕ) : Type 0 where
  pub log : Log
  pub replay : IsReplay words held log
  pub put : TakesFront old (transcript_of log) new
  pub rose : before < now

-- the configuration is refused, whatever the recording
pub record IsUnconfigured (words : List (List ℕ)) (held : Held) (fault : ConfigFault) : Type 0 where
  pub names : Named
  pub named : replay_words words ≡ Some names
  pub wrong : IsMisconfigured names.config held fault

pub record IsRefused (words : List (List ℕ)) (held : Held) (fault : RecordFault) : Type 0 where
  pub names : Named
  pub named : replay_words words ≡ Some names
  pub configured : IsConfigured names.config held
  pub faulty : IsFaulty names.recording held fault

pub record RanOut (words : List (List ℕ)) (held : Held) : Type 0 where
  pub names : Named
  pub named : replay_words words ≡ Some names
  pub configured : IsConfigured names.config held
  pub entries : List RecordEntry
  pub under : IsUnder names.recording held entries
  pub log : Log
  pub spent : IsSpent configured.config entries log

pub record IsUnread (words : List (List ℕ)) (before now : ℕ) : Type 0 where
  pub names : Named
  pub named : replay_words words ≡ Some names
  pub rose : before < now

-- Why a replay stops short: of a sink that failed a front of the transcript is put, and else nothing.
abbrev pub Stops : Stop → List (List ℕ) → Held → (read_before read_now : ℕ) → Option (List ℕ) → ℕ → Option (List ℕ) → ℕ → Type 0
Stops stop.Usage words held read_before read_now old before new now = (replay_words words ≡ None) × PutsNothing old before new now
Stops stop.ReadFault words held read_before read_now old before new now = IsUnread words read_before read_now × PutsNothing old before new now
Stops stop.SinkFault words held read_before read_now old before new now = ReplayedInPart words held old before new now
Stops stop.OutOfMemory words held read_before read_now old before new now = ((names : Named) × (replay_words words ≡ Some names)) × PutsNothing old before new now
Stops (stop.BadConfig fault) words held read_before read_now old before new now = IsUnconfigured words held fault × PutsNothing old before new now
Stops (stop.BadRecording fault) words held read_before read_now old before new now = IsRefused words held fault × PutsNothing old before new now
Stops stop.ListenFault words held read_before read_now old before new now = ⊥
Stops stop.TurnsSpent words held read_before read_now old before new now = RanOut words held × PutsNothing old before new now
