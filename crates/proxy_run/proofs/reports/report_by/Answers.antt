use Rattle.std.specs.Prelude.{◌≡◌, ℕ, ◌<◌, List, Option, Result, Ok, Err, OnOk, IfErr}
use Rattle.std.proofs.Common.{sym, refl}
use Rattle.mx_config.specs.declared.config.Config.{Config}
use Rattle.proxy_run.specs.declared.stop.Stop.{Stop}
use Rattle.proxy_run.specs.declared.stop.Stop.TheVariants as stop
use Rattle.proxy_run.specs.Replay.{Configures, Held}
use Rattle.proxy_run.specs.ReportWords.{ReportNamed}
use Rattle.proxy_run.specs.Reports.{IsLinesUnder, IsWanted, IsWantedBy, PutTextStops, ReportStops}
use Rattle.proxy_run.proofs.reports.report_by.Goals as goal

on-ok : {A B : Type 0} (r : Result (Unit {0}) Stop) → (A → B) → OnOk r A → OnOk r B
on-ok (Ok done) more held = more held
on-ok (Err given) more held = tt

if-err : {P Q : Stop → Type 0} (r : Result (Unit {0}) Stop) → ((given : Stop) → P given → Q given) → IfErr r P → IfErr r Q
if-err (Ok done) more held = tt
if-err (Err given) more held = more given held

stopped : (given : Stop) (names : ReportNamed) (held : Held) (read_before read_now : ℕ) (text : List ℕ) (old : Option (List ℕ)) (before : ℕ) (new : Option (List ℕ)) (now : ℕ) → IsWantedBy names held text → PutTextStops given text old before new now → ReportStops given names held read_before read_now old before new now
stopped stop.SinkFault names held rb rn text old before new now wanted stops = record { text = text; wanted = wanted; put = stops }
stopped _ names held rb rn text old before new now wanted stops = absurd stops

pub returns-clause-ok : goal.returns-clause-ok
returns-clause-ok g c =
    on-ok c.put.result (λ puts. record {
      text = c.as_slice.result.now;
      wanted = record { config = c.in_ok-config.config; said = c.in_ok-config.ensures.ok; lines = c.in_ok-lines.lines.items; under = rw c.in_ok-config.ensures.held at c.in_ok-lines.ensures.under; wanted = rw c.as_slice.ensures (rw c.deref.ensures.value at c.in_ok-text.ensures) };
      put = puts;
    }) c.put.ensures.ok

pub returns-clause-err : goal.returns-clause-err
returns-clause-err g c =
    if-err c.put.result (λ given. stopped given _ _ _ _ c.as_slice.result.now _ _ _ _ (record { config = c.in_ok-config.config; said = c.in_ok-config.ensures.ok; lines = c.in_ok-lines.lines.items; under = rw c.in_ok-config.ensures.held at c.in_ok-lines.ensures.under; wanted = rw c.as_slice.ensures (rw c.deref.ensures.value at c.in_ok-text.ensures) })) c.put.ensures.err
