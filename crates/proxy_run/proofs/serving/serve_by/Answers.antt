use Rattle.std.specs.Prelude.{◌≡◌, ℕ, List, Option, Result, Ok, Err, IfErr}
use Rattle.std.proofs.Common.{inl, inr}
use Rattle.mx_wire.specs.Log.{Log}
use Rattle.mx_config.specs.declared.config.Config.{Config}
use Rattle.proxy_run.specs.declared.stop.Stop.{Stop}
use Rattle.proxy_run.specs.declared.stop.Stop.TheVariants as stop
use Rattle.proxy_run.specs.Replay.{Held, Configures, ConfigStops}
use Rattle.proxy_run.specs.Serve.{AttendStops, IsEarly, IsUntouched, ServeStops, most_turns}
use Rattle.proxy_run.proofs.serving.serve_by.Goals as goal

-- the configuration can't be had, and the wire wasn't touched
unconfigured : (given : Stop) (name : List ℕ) (held : Held) (rb rn : ℕ) (told : Option Log) (pb pn : ℕ) → IsUntouched told → ConfigStops given name held rb rn → ServeStops given name held rb rn told pb pn
unconfigured stop.ReadFault name held rb rn told pb pn untouched stops = stops
unconfigured (stop.BadConfig fault) name held rb rn told pb pn untouched stops = stops
unconfigured stop.OutOfMemory name held rb rn told pb pn untouched stops = record { either = inl untouched }
unconfigured _ name held rb rn told pb pn untouched stops = absurd stops

-- it was served
attended : (given : Stop) (config : Config) (name : List ℕ) (held : Held) (rb rn : ℕ) (told : Option Log) (pb pn : ℕ) → Configures name held config → AttendStops given most_turns config told pb pn → ServeStops given name held rb rn told pb pn
attended stop.OutOfMemory config name held rb rn told pb pn said (inl untouched) = record { either = inl untouched }
attended stop.OutOfMemory config name held rb rn told pb pn said (inr stops) = record { either = inr (record { config = config; said = said; refused = stops }) }
attended stop.ListenFault config name held rb rn told pb pn said stops = (record { config = config; said = said; attended = stops.0 }, stops.1)
attended stop.TurnsSpent config name held rb rn told pb pn said stops = record { config = config; said = said; attended = stops }
attended _ config name held rb rn told pb pn said stops = absurd stops

late : (given : Stop) (config : Config) (told : Option Log) (pb pn : ℕ) → AttendStops given most_turns config told pb pn → IsEarly given → ⊥
late stop.ReadFault config told pb pn stops early = stops
late (stop.BadConfig fault) config told pb pn stops early = stops
late _ config told pb pn stops early = early

if-err : {A : Type 0} {P Q : Stop → Type 0} (r : Result A Stop) → ((given : Stop) → P given → Q given) → IfErr r P → IfErr r Q
if-err (Ok done) more held = tt
if-err (Err given) more held = more given held

pub returns-clause-err : goal.returns-clause-err
returns-clause-err g c = if-err c.attend.result (λ given stops. attended given c.in_ok-config.config _ _ _ _ _ _ _ c.in_ok-config.ensures.ok stops) c.attend.ensures.err

pub returns-clause-untouched : goal.returns-clause-untouched
returns-clause-untouched g c = if-err c.attend.result (λ given stops early. absurd (late given c.in_ok-config.config _ _ _ stops early)) c.attend.ensures.err
