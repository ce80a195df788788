use Rattle.std.specs.Prelude.{◌≢◌, ℕ, ◌<◌, List, Option}
use Rattle.std.proofs.Common.{subst, sym, inl, inr}
use Rattle.mx_wire.specs.Outside.{TakesFront}
use Rattle.proxy_run.specs.declared.stop.Stop.{Stop}
use Rattle.proxy_run.specs.declared.stop.Stop.TheVariants as stop
use Rattle.proxy_run.specs.Replay.{Held, PutsNothing}
use Rattle.proxy_run.specs.ReportWords.{ReportNamed}
use Rattle.proxy_run.specs.Reports.{ReportStops}
use Rattle.proxy_run.specs.Run.{Says, Told, ReportOutcome}
use Rattle.proxy_run.specs.Run.ReportOutcome.{ReportPut, ReportUnconfigured, ReportUnread, ReportUnput, ReportNoMemory}
use Rattle.proxy_run.proofs.reporting.run_report.Goals as goal

-- what is said after nothing was put is all that is said
says-alone : (line : List ℕ) (old : Option (List ℕ)) (before : ℕ) (middle : Option (List ℕ)) (after : ℕ) (new : Option (List ℕ)) (now : ℕ) → PutsNothing old before middle after → Says line middle after new now → Says line old before new now
says-alone line old before middle after new now nothing says =
    subst (λ o. Says line o before new now) nothing.same (subst (λ n. Says line middle n new now) nothing.calm says)

ends : (given : Stop) (names : ReportNamed) (held : Held) (read_before read_now : ℕ) (old : Option (List ℕ)) (before : ℕ) (middle : Option (List ℕ)) (after : ℕ) (new : Option (List ℕ)) (now status : ℕ) → ReportStops given names held read_before read_now old before middle after → Told given middle after new now status → ReportOutcome names held read_before read_now old before new now status
ends stop.ReadFault names held rb rn old before middle after new now status stops told =
    subst (λ s. ReportOutcome names held rb rn old before new now s) (sym told.is) (ReportUnread stops.0 (says-alone _ old before middle after new now stops.1 told.says))
ends stop.SinkFault names held rb rn old before middle after new now status stops told =
    subst (λ s. ReportOutcome names held rb rn old before new now s) (sym told.0) (ReportUnput (record {
      text = stops.text;
      wanted = stops.wanted;
      put = record {
        front = subst (λ n. TakesFront old stops.text n) (sym told.1.same) stops.put.front;
        rose = subst (λ n. before < n) (sym told.1.calm) stops.put.rose;
      };
    }))
ends stop.OutOfMemory names held rb rn old before middle after new now status stops told =
    subst (λ s. ReportOutcome names held rb rn old before new now s) (sym told.is) (ReportNoMemory (says-alone _ old before middle after new now stops told.says))
ends (stop.BadConfig fault) names held rb rn old before middle after new now status stops (inl told) =
    subst (λ s. ReportOutcome names held rb rn old before new now s) (sym told.is) (ReportUnconfigured fault stops.0 (says-alone _ old before middle after new now stops.1 told.says))
ends (stop.BadConfig fault) names held rb rn old before middle after new now status stops (inr told) =
    subst (λ s. ReportOutcome names held rb rn old before new now s) (sym told.is) (ReportNoMemory (says-alone _ old before middle after new now stops.1 told.says))
ends _ names held rb rn old before middle after new now status stops told = absurd stops

no-usage : (names : ReportNamed) (held : Held) (rb rn : ℕ) (old : Option (List ℕ)) (before : ℕ) (new : Option (List ℕ)) (now status : ℕ) → ReportOutcome names held rb rn old before new now status → status ≢ 2
no-usage names held rb rn old before new now _ (ReportPut put) = λ same. cc
no-usage names held rb rn old before new now _ (ReportUnconfigured fault wrong says) = λ same. cc
no-usage names held rb rn old before new now _ (ReportUnread rose says) = λ same. cc
no-usage names held rb rn old before new now _ (ReportUnput put) = λ same. cc
no-usage names held rb rn old before new now _ (ReportNoMemory says) = λ same. cc

pub returns-in-Ok-clause-outcome : goal.returns-in-Ok-clause-outcome
returns-in-Ok-clause-outcome g c = ReportPut c.in-Ok.ensures.ok

pub returns-in-Err-clause-outcome : goal.returns-in-Err-clause-outcome
returns-in-Err-clause-outcome g c = ends _ _ _ _ _ _ _ _ _ _ _ _ c.in-Err.ensures.err c.tell.ensures

pub returns-in-Err-clause-usage : goal.returns-in-Err-clause-usage
returns-in-Err-clause-usage g c = no-usage _ _ _ _ _ _ _ _ _ (returns-in-Err-clause-outcome g c)
