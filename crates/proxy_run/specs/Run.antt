-- How a run ends, with its statuses and their causes.
use Rattle.std.specs.Prelude.{◌≡◌, ◌⊎◌, ℕ, ◌<◌, ◌==◌, if◌then◌else◌, List, [], ◌++◌, codes, Option, Some, None}
use Rattle.std.specs.Fmt.{decimal}
use Rattle.mx_wire.specs.Log.{Log}
use Rattle.mx_wire.specs.Outside.{Takes, TakesFront}
use Rattle.recording.specs.declared.fault.RecordFault.{RecordFault}
use Rattle.mx_config.specs.declared.fault.ConfigFault.{ConfigFault}
use Rattle.proxy_run.specs.declared.stop.Stop.{Stop}
use Rattle.proxy_run.specs.declared.stop.Stop.TheVariants as stop
use Rattle.ready_loop.specs.Serving.{EndsWith, IsPortFault}
use Rattle.proxy_run.specs.ReportWords.{ReportNamed, report_words}
use Rattle.proxy_run.specs.Reports.{Reported, ReportedInPart}
use Rattle.proxy_run.specs.Words.{Named, replay_words, serve_words, text_words}
use Rattle.proxy_run.specs.Replay.{Held, IsMisconfigured, Replayed, ReplayedInPart, IsUnconfigured, IsRefused, RanOut, IsUnread}
use Rattle.generated_load.specs.declared.ask.LoadAsk.{LoadAsk}
use Rattle.proxy_run.specs.Load.{Counted, CountedInPart, IsLoad, load_turns}
use Rattle.proxy_run.specs.LoadWords.{load_words}
use Rattle.proxy_run.specs.Serve.{IsServed, Served, ServedUntil, IsUntouched, IsWornOut, most_turns}

-- a front of the line was put, and the sink failed
pub record FailsAt (line : List ℕ) (old : Option (List ℕ)) (before : ℕ) (new : Option (List ℕ)) (now : ℕ) : Type 0 where
  pub front : TakesFront old line new
  pub rose : before < now

-- the line is put, or a front of it where the sink failed
pub record Says (line : List ℕ) (old : Option (List ℕ)) (before : ℕ) (new : Option (List ℕ)) (now : ℕ) : Type 0 where
  pub either : (Takes old line new) ⊎ (FailsAt line old before new now)

abbrev pub usage_line : List ℕ
usage_line = codes "usage: mx_proxy serve <config> or replay <config> <recording> or load <start> <clients> <statements> or audit <config> <lines> <workers> or learn <config> <lines> <workers>\n"

abbrev pub fault_line : RecordFault → List ℕ
fault_line fault = codes "recording: line " ++ (decimal fault.line ++ (codes " kind " ++ (decimal fault.kind ++ codes "\n")))

-- the name of a table of the configuration
abbrev pub table_name : ℕ → List ℕ
table_name table =
    if table == 1 then codes "proxy"
    else if table == 2 then codes "users"
    else if table == 3 then codes "servers"
    else if table == 4 then codes "rules"
    else if table == 5 then codes "whitelist"
    else codes "file"

unfoldable pub config_line : ConfigFault → List ℕ
config_line fault = codes "config: " ++ (decimal fault.kind ++ (codes " " ++ (table_name fault.table ++ (codes " " ++ (decimal fault.row ++ (codes " " ++ (fault.key ++ codes "\n")))))))

-- nothing is said
pub record Silent (old : Option (List ℕ)) (before : ℕ) (new : Option (List ℕ)) (now : ℕ) : Type 0 where
  pub same : new ≡ old
  pub calm : now ≡ before

pub record SaysWith (status : ℕ) (line : List ℕ) (old : Option (List ℕ)) (before : ℕ) (new : Option (List ℕ)) (now : ℕ) (given : ℕ) : Type 0 where
  pub is : given ≡ status
  pub says : Says line old before new now

-- what is said of a stop, and its status
abbrev pub Told : Stop → Option (List ℕ) → ℕ → Option (List ℕ) → ℕ → ℕ → Type 0
Told stop.Usage old before new now status = SaysWith 2 usage_line old before new now status
Told stop.ReadFault old before new now status = SaysWith 3 (codes "read fault\n") old before new now status
Told stop.SinkFault old before new now status = (status ≡ 4) × Silent old before new now
Told stop.OutOfMemory old before new now status = SaysWith 5 (codes "out of memory\n") old before new now status
Told (stop.BadConfig fault) old before new now status = (SaysWith 1 (config_line fault) old before new now status) ⊎ (SaysWith 5 (codes "out of memory\n") old before new now status)
Told (stop.BadRecording fault) old before new now status = (SaysWith 7 (fault_line fault) old before new now status) ⊎ (SaysWith 5 (codes "out of memory\n") old before new now status)
Told stop.ListenFault old before new now status = SaysWith 6 (codes "listen fault\n") old before new now status
Told stop.TurnsSpent old before new now status = SaysWith 8 (codes "turns spent\n") old before new now status

-- The status of a replay, its cause and what is printed.
pub data ReplayOutcome (words : List (List ℕ)) (held : Held) (read_before read_now : ℕ) (old : Option (List ℕ)) (before : ℕ) (new : Option (List ℕ)) (now : ℕ) : ℕ → Type 0 where
  Done : Replayed words held old new → ReplayOutcome words held read_before read_now old before new now 0
  Unconfigured : (fault : ConfigFault) → IsUnconfigured words held fault → Says (config_line fault) old before new now → ReplayOutcome words held read_before read_now old before new now 1
  NoCommand : replay_words words ≡ None → Says usage_line old before new now → ReplayOutcome words held read_before read_now old before new now 2
  Unread : IsUnread words read_before read_now → Says (codes "read fault\n") old before new now → ReplayOutcome words held read_before read_now old before new now 3
  Unput : ReplayedInPart words held old before new now → ReplayOutcome words held read_before read_now old before new now 4
  NoMemory : (names : Named) → replay_words words ≡ Some names → Says (codes "out of memory\n") old before new now → ReplayOutcome words held read_before read_now old before new now 5
  Refused : (fault : RecordFault) → IsRefused words held fault → Says (fault_line fault) old before new now → ReplayOutcome words held read_before read_now old before new now 7
  Spent : RanOut words held → Says (codes "turns spent\n") old before new now → ReplayOutcome words held read_before read_now old before new now 8

-- The same of `serve`, on a wire that tells this log in the end.
pub data ServeOutcome (name : List ℕ) (held : Held) (read_before read_now : ℕ) (told : Option Log) (ports_before ports_now : ℕ) (old : Option (List ℕ)) (before : ℕ) (new : Option (List ℕ)) (now : ℕ) : ℕ → Type 0 where
  ServedOut : Served name held IsServed told → Silent old before new now → ServeOutcome name held read_before read_now told ports_before ports_now old before new now 0
  Misconfigured : (fault : ConfigFault) → IsMisconfigured name held fault → Says (config_line fault) old before new now → ServeOutcome name held read_before read_now told ports_before ports_now old before new now 1
  NotRead : read_before < read_now → Says (codes "read fault\n") old before new now → ServeOutcome name held read_before read_now told ports_before ports_now old before new now 3
  RefusedMemory : ServedUntil name held told → Says (codes "out of memory\n") old before new now → ServeOutcome name held read_before read_now told ports_before ports_now old before new now 5
  PortFailed : Served name held (EndsWith IsPortFault) told → ports_before < ports_now → Says (codes "listen fault\n") old before new now → ServeOutcome name held read_before read_now told ports_before ports_now old before new now 6
  WornOut : Served name held (IsWornOut most_turns) told → Says (codes "turns spent\n") old before new now → ServeOutcome name held read_before read_now told ports_before ports_now old before new now 8

-- The status, its cause and what is printed. Words that don't ask for serving are those of a replay, or no command.
abbrev pub OutcomeOf : Option (List ℕ) → List (List ℕ) → Held → (read_before read_now : ℕ) → Option Log → (ports_before ports_now : ℕ) → Option (List ℕ) → ℕ → Option (List ℕ) → ℕ → ℕ → Type 0
OutcomeOf (Some name) words held read_before read_now told ports_before ports_now old before new now status = ServeOutcome name held read_before read_now told ports_before ports_now old before new now status
OutcomeOf None words held read_before read_now told ports_before ports_now old before new now status = ReplayOutcome words held read_before read_now old before new now status

-- The same of a report.
pub data ReportOutcome (names : ReportNamed) (held : Held) (read_before read_now : ℕ) (old : Option (List ℕ)) (before : ℕ) (new : Option (List ℕ)) (now : ℕ) : ℕ → Type 0 where
  ReportPut : Reported names held old new → ReportOutcome names held read_before read_now old before new now 0
  ReportUnconfigured : (fault : ConfigFault) → IsMisconfigured names.config held fault → Says (config_line fault) old before new now → ReportOutcome names held read_before read_now old before new now 1
  ReportUnread : read_before < read_now → Says (codes "read fault\n") old before new now → ReportOutcome names held read_before read_now old before new now 3
  ReportUnput : ReportedInPart names held old before new now → ReportOutcome names held read_before read_now old before new now 4
  ReportNoMemory : Says (codes "out of memory\n") old before new now → ReportOutcome names held read_before read_now old before new now 5

-- and the wire isn't touched
pub record ReportRun (names : ReportNamed) (held : Held) (read_before read_now : ℕ) (told : Option Log) (old : Option (List ℕ)) (before : ℕ) (new : Option (List ℕ)) (now : ℕ) (status : ℕ) : Type 0 where
  pub outcome : ReportOutcome names held read_before read_now old before new now status
  pub untouched : IsUntouched told

-- Words that don't ask for a report ask for serving or a replay, or are no command.
abbrev pub FilesOutcome : Option ReportNamed → List (List ℕ) → Held → (read_before read_now : ℕ) → Option Log → (ports_before ports_now : ℕ) → Option (List ℕ) → ℕ → Option (List ℕ) → ℕ → ℕ → Type 0
FilesOutcome (Some names) words held read_before read_now told ports_before ports_now old before new now status = ReportRun names held read_before read_now told old before new now status
FilesOutcome None words held read_before read_now told ports_before ports_now old before new now status = OutcomeOf (serve_words words) words held read_before read_now told ports_before ports_now old before new now status

-- The same of a generated load.
pub data LoadOutcome (ask : LoadAsk) (old : Option (List ℕ)) (before : ℕ) (new : Option (List ℕ)) (now : ℕ) : ℕ → Type 0 where
  LoadCounted : Counted ask old new → LoadOutcome ask old before new now 0
  LoadUnput : CountedInPart ask old before new now → LoadOutcome ask old before new now 4
  LoadNoMemory : Says (codes "out of memory\n") old before new now → LoadOutcome ask old before new now 5
  LoadPortFailed : (log : Log) → IsLoad ask (EndsWith IsPortFault) log → Says (codes "listen fault\n") old before new now → LoadOutcome ask old before new now 6
  LoadSpent : (log : Log) → IsLoad ask (IsWornOut (load_turns ask)) log → Says (codes "turns spent\n") old before new now → LoadOutcome ask old before new now 8

-- and the wire that was handed in isn't touched
pub record LoadRun (ask : LoadAsk) (told : Option Log) (old : Option (List ℕ)) (before : ℕ) (new : Option (List ℕ)) (now : ℕ) (status : ℕ) : Type 0 where
  pub outcome : LoadOutcome ask old before new now status
  pub untouched : IsUntouched told

-- Words that don't ask for a load ask for something of files, or are no command.
abbrev pub AskedOutcome : Option LoadAsk → List (List ℕ) → Held → (read_before read_now : ℕ) → Option Log → (ports_before ports_now : ℕ) → Option (List ℕ) → ℕ → Option (List ℕ) → ℕ → ℕ → Type 0
AskedOutcome (Some ask) words held read_before read_now told ports_before ports_now old before new now status = LoadRun ask told old before new now status
AskedOutcome None words held read_before read_now told ports_before ports_now old before new now status = FilesOutcome (report_words words) words held read_before read_now told ports_before ports_now old before new now status

-- A text that was asked for is put, or a front of it where the sink failed.
pub record TextPut (text : List ℕ) (old : Option (List ℕ)) (before : ℕ) (new : Option (List ℕ)) (now : ℕ) (status : ℕ) : Type 0 where
  pub either : ((status ≡ 0) × Takes old text new) ⊎ ((status ≡ 4) × FailsAt text old before new now)

-- and the wire isn't touched
pub record TextOutcome (text : List ℕ) (told : Option Log) (old : Option (List ℕ)) (before : ℕ) (new : Option (List ℕ)) (now : ℕ) (status : ℕ) : Type 0 where
  pub put : TextPut text old before new now status
  pub untouched : IsUntouched told

abbrev pub OutcomeBy : Option (List ℕ) → List (List ℕ) → Held → (read_before read_now : ℕ) → Option Log → (ports_before ports_now : ℕ) → Option (List ℕ) → ℕ → Option (List ℕ) → ℕ → ℕ → Type 0
OutcomeBy (Some text) words held read_before read_now told ports_before ports_now old before new now status = TextOutcome text told old before new now status
OutcomeBy None words held read_before read_now told ports_before ports_now old before new now status = AskedOutcome (load_words words) words held read_before read_now told ports_before ports_now old before new now status

abbrev pub Outcome : List (List ℕ) → Held → (read_before read_now : ℕ) → Option Log → (ports_before ports_now : ℕ) → Option (List ℕ) → ℕ → Option (List ℕ) → ℕ → ℕ → Type 0
Outcome words held read_before read_now told ports_before ports_now old before new now status = OutcomeBy (text_words words) words held read_before read_now told ports_before ports_now old before new now status

-- The wire that was handed in is left as it was, by words that don't ask for serving, and where the configuration can't be read or is refused.
pub record LeavesWire {W : Type 0} (served : Option (List ℕ)) (status : ℕ) (old new : W) : Type 0 where
  pub unasked : served ≡ None → new ≡ old
  pub unconfigured : status ≡ 1 → new ≡ old
  pub unread : status ≡ 3 → new ≡ old
