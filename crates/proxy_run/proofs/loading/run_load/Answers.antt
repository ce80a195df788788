use Rattle.std.specs.Prelude.{◌≢◌, ℕ, ◌<◌, List, Option}
use Rattle.std.proofs.Common.{subst, sym}
use Rattle.generated_load.specs.Text.{load_text}
use Rattle.generated_load.specs.declared.ask.LoadAsk.{LoadAsk}
use Rattle.mx_wire.specs.Outside.{TakesFront}
use Rattle.proxy_run.specs.declared.stop.Stop.{Stop}
use Rattle.proxy_run.specs.declared.stop.Stop.TheVariants as stop
use Rattle.proxy_run.specs.Load.{LoadStops}
use Rattle.proxy_run.specs.Replay.{PutsNothing}
use Rattle.proxy_run.specs.Run.{LoadOutcome, Says, Told}
use Rattle.proxy_run.specs.Run.LoadOutcome.{LoadCounted, LoadNoMemory, LoadPortFailed, LoadSpent, LoadUnput}
use Rattle.proxy_run.proofs.loading.run_load.Goals as goal

-- what is said after nothing was put is all that is said
says-alone : (line : List ℕ) (old : Option (List ℕ)) (before : ℕ) (middle : Option (List ℕ)) (after : ℕ) (new : Option (List ℕ)) (now : ℕ) → PutsNothing old before middle after → Says line middle after new now → Says line old before new now
says-alone line old before middle after new now nothing says =
    subst (λ o. Says line o before new now) nothing.same (subst (λ n. Says line middle n new now) nothing.calm says)

ends : (given : Stop) (ask : LoadAsk) (old : Option (List ℕ)) (before : ℕ) (middle : Option (List ℕ)) (after : ℕ) (new : Option (List ℕ)) (now status : ℕ) → LoadStops given ask old before middle after → Told given middle after new now status → LoadOutcome ask old before new now status
ends stop.SinkFault ask old before middle after new now status stops told =
    subst (λ s. LoadOutcome ask old before new now s) (sym told.0) (LoadUnput (record {
      log = stops.log;
      load = stops.load;
      put = subst (λ n. TakesFront old (load_text ask stops.log) n) (sym told.1.same) stops.put;
      rose = subst (λ n. before < n) (sym told.1.calm) stops.rose;
    }))
ends stop.OutOfMemory ask old before middle after new now status stops told =
    subst (λ s. LoadOutcome ask old before new now s) (sym told.is) (LoadNoMemory (says-alone _ old before middle after new now stops told.says))
ends stop.ListenFault ask old before middle after new now status stops told =
    subst (λ s. LoadOutcome ask old before new now s) (sym told.is) (LoadPortFailed stops.0.0 stops.0.1 (says-alone _ old before middle after new now stops.1 told.says))
ends stop.TurnsSpent ask old before middle after new now status stops told =
    subst (λ s. LoadOutcome ask old before new now s) (sym told.is) (LoadSpent stops.0.0 stops.0.1 (says-alone _ old before middle after new now stops.1 told.says))
ends _ ask old before middle after new now status stops told = absurd stops

no-usage : (ask : LoadAsk) (old : Option (List ℕ)) (before : ℕ) (new : Option (List ℕ)) (now status : ℕ) → LoadOutcome ask old before new now status → status ≢ 2
no-usage ask old before new now _ (LoadCounted counted) = λ same. cc
no-usage ask old before new now _ (LoadUnput counted) = λ same. cc
no-usage ask old before new now _ (LoadNoMemory says) = λ same. cc
no-usage ask old before new now _ (LoadPortFailed log load says) = λ same. cc
no-usage ask old before new now _ (LoadSpent log load says) = λ same. cc

pub returns-in-Ok-clause-outcome : goal.returns-in-Ok-clause-outcome
returns-in-Ok-clause-outcome g c = LoadCounted c.in-Ok.ensures.ok

pub returns-in-Err-clause-outcome : goal.returns-in-Err-clause-outcome
returns-in-Err-clause-outcome g c = ends _ _ _ _ _ _ _ _ _ c.in-Err.ensures.err c.tell.ensures

pub returns-in-Err-clause-usage : goal.returns-in-Err-clause-usage
returns-in-Err-clause-usage g c = no-usage _ _ _ _ _ _ (returns-in-Err-clause-outcome g c)
