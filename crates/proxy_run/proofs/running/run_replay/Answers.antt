use Rattle.std.specs.Prelude.{ℕ, ◌<◌, List, Option}
use Rattle.std.proofs.Common.{subst, sym, inl, inr}
use Rattle.mx_wire.specs.Outside.{TakesFront}
use Rattle.recording.specs.Transcript.{transcript_of}
use Rattle.proxy_run.specs.declared.stop.Stop.{Stop}
use Rattle.proxy_run.specs.declared.stop.Stop.TheVariants as stop
use Rattle.proxy_run.specs.Replay.{Held, Stops, PutsNothing}
use Rattle.proxy_run.specs.Run.{Says, Told, ReplayOutcome}
use Rattle.proxy_run.specs.Run.ReplayOutcome.{Done, Unconfigured, NoCommand, Unread, Unput, NoMemory, Refused, Spent}
use Rattle.proxy_run.proofs.running.run_replay.Goals as goal

-- what is said after nothing was put is all that is said
says-alone : (line : List ℕ) (old : Option (List ℕ)) (before : ℕ) (middle : Option (List ℕ)) (after : ℕ) (new : Option (List ℕ)) (now : ℕ) → PutsNothing old before middle after → Says line middle after new now → Says line old before new now
says-alone line old before middle after new now nothing says =
    subst (λ o. Says line o before new now) nothing.same (subst (λ n. Says line middle n new now) nothing.calm says)

ends : (given : Stop) (words : List (List ℕ)) (held : Held) (read_before read_now : ℕ) (old : Option (List ℕ)) (before : ℕ) (middle : Option (List ℕ)) (after : ℕ) (new : Option (List ℕ)) (now status : ℕ) → Stops given words held read_before read_now old before middle after → Told given middle after new now status → ReplayOutcome words held read_before read_now old before new now status
ends stop.Usage words held rb rn old before middle after new now status stops told =
    subst (λ s. ReplayOutcome words held rb rn old before new now s) (sym told.is) (NoCommand stops.0 (says-alone _ old before middle after new now stops.1 told.says))
ends stop.ReadFault words held rb rn old before middle after new now status stops told =
    subst (λ s. ReplayOutcome words held rb rn old before new now s) (sym told.is) (Unread stops.0 (says-alone _ old before middle after new now stops.1 told.says))
ends stop.SinkFault words held rb rn old before middle after new now status stops told =
    subst (λ s. ReplayOutcome words held rb rn old before new now s) (sym told.0) (Unput (record {
      log = stops.log;
      replay = stops.replay;
      put = subst (λ n. TakesFront old (transcript_of stops.log) n) (sym told.1.same) stops.put;
      rose = subst (λ n. before < n) (sym told.1.calm) stops.rose;
    }))
ends stop.OutOfMemory words held rb rn old before middle after new now status stops told =
    subst (λ s. ReplayOutcome words held rb rn old before new now s) (sym told.is) (NoMemory stops.0.0 stops.0.1 (says-alone _ old before middle after new now stops.1 told.says))
ends (stop.BadConfig fault) words held rb rn old before middle after new now status stops (inl told) =
    subst (λ s. ReplayOutcome words held rb rn old before new now s) (sym told.is) (Unconfigured fault stops.0 (says-alone _ old before middle after new now stops.1 told.says))
ends (stop.BadConfig fault) words held rb rn old before middle after new now status stops (inr told) =
    subst (λ s. ReplayOutcome words held rb rn old before new now s) (sym told.is) (NoMemory stops.0.names stops.0.named (says-alone _ old before middle after new now stops.1 told.says))
ends (stop.BadRecording fault) words held rb rn old before middle after new now status stops (inl told) =
    subst (λ s. ReplayOutcome words held rb rn old before new now s) (sym told.is) (Refused fault stops.0 (says-alone _ old before middle after new now stops.1 told.says))
ends (stop.BadRecording fault) words held rb rn old before middle after new now status stops (inr told) =
    subst (λ s. ReplayOutcome words held rb rn old before new now s) (sym told.is) (NoMemory stops.0.names stops.0.named (says-alone _ old before middle after new now stops.1 told.says))
ends stop.ListenFault words held rb rn old before middle after new now status stops told = absurd stops
ends stop.TurnsSpent words held rb rn old before middle after new now status stops told =
    subst (λ s. ReplayOutcome words held rb rn old before new now s) (sym told.is) (Spent stops.0 (says-alone _ old before middle after new now stops.1 told.says))

pub returns-in-Ok-clause-outcome : goal.returns-in-Ok-clause-outcome
returns-in-Ok-clause-outcome g c = Done c.in-Ok.ensures.ok

pub returns-in-Err-clause-outcome : goal.returns-in-Err-clause-outcome
returns-in-Err-clause-outcome g c = ends _ _ _ _ _ _ _ _ _ _ _ _ c.in-Err.ensures.err c.tell.ensures
