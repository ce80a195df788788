use Rattle.std.specs.Prelude.{◌≡◌, ◌≢◌, ◌⊎◌, ℕ, List, Option}
use Rattle.std.proofs.Common.{ap, arith, subst, sym, refl, inl, inr, ◌∙◌}
use Rattle.mx_wire.specs.Log.{Log}
use Rattle.proxy_run.specs.declared.stop.Stop.{Stop}
use Rattle.proxy_run.specs.declared.stop.Stop.TheVariants as stop
use Rattle.proxy_run.specs.Replay.{Held}
use Rattle.proxy_run.specs.Serve.{IsEarly, IsUntouched, ServeStops}
use Rattle.proxy_run.specs.Run.{Told, ServeOutcome}
use Rattle.proxy_run.specs.Run.ServeOutcome.{ServedOut, Misconfigured, NotRead, RefusedMemory, PortFailed, WornOut}
use Rattle.proxy_run.proofs.running.run_serve.Goals as goal

ends : (given : Stop) (name : List ℕ) (held : Held) (read_before read_now : ℕ) (log : Option Log) (ports_before ports_now : ℕ) (old : Option (List ℕ)) (before : ℕ) (new : Option (List ℕ)) (now status : ℕ) → (IsEarly given → IsUntouched log) → ServeStops given name held read_before read_now log ports_before ports_now → Told given old before new now status → ServeOutcome name held read_before read_now log ports_before ports_now old before new now status
ends stop.ReadFault name held rb rn log pb pn old before new now status early stops told =
    subst (λ s. ServeOutcome name held rb rn log pb pn old before new now s) (sym told.is) (NotRead stops told.says)
ends stop.OutOfMemory name held rb rn log pb pn old before new now status early stops told =
    subst (λ s. ServeOutcome name held rb rn log pb pn old before new now s) (sym told.is) (RefusedMemory stops told.says)
ends (stop.BadConfig fault) name held rb rn log pb pn old before new now status early stops (inl told) =
    subst (λ s. ServeOutcome name held rb rn log pb pn old before new now s) (sym told.is) (Misconfigured fault stops told.says)
ends (stop.BadConfig fault) name held rb rn log pb pn old before new now status early stops (inr told) =
    subst (λ s. ServeOutcome name held rb rn log pb pn old before new now s) (sym told.is) (RefusedMemory (record { either = inl (early tt) }) told.says)
ends stop.ListenFault name held rb rn log pb pn old before new now status early stops told =
    subst (λ s. ServeOutcome name held rb rn log pb pn old before new now s) (sym told.is) (PortFailed stops.0 stops.1 told.says)
ends stop.TurnsSpent name held rb rn log pb pn old before new now status early stops told =
    subst (λ s. ServeOutcome name held rb rn log pb pn old before new now s) (sym told.is) (WornOut stops told.says)
ends _ name held rb rn log pb pn old before new now status early stops told = absurd stops

-- a stop before the wire was touched has these statuses, and no other has
early-one : (given : Stop) (name : List ℕ) (held : Held) (rb rn : ℕ) (log : Option Log) (pb pn : ℕ) (old : Option (List ℕ)) (before : ℕ) (new : Option (List ℕ)) (now status : ℕ) → ServeStops given name held rb rn log pb pn → Told given old before new now status → (status ≡ 1) ⊎ (status ≡ 3) → IsEarly given
early-one stop.ReadFault name held rb rn log pb pn old before new now status stops told is = tt
early-one (stop.BadConfig fault) name held rb rn log pb pn old before new now status stops told is = tt
early-one stop.OutOfMemory name held rb rn log pb pn old before new now status stops told is = elim is [ inl one ↦ absurd (omega (arith, told.is, one)) | inr three ↦ absurd (omega (arith, told.is, three)) ]
early-one stop.ListenFault name held rb rn log pb pn old before new now status stops told is = elim is [ inl one ↦ absurd (omega (arith, told.is, one)) | inr three ↦ absurd (omega (arith, told.is, three)) ]
early-one stop.TurnsSpent name held rb rn log pb pn old before new now status stops told is = elim is [ inl one ↦ absurd (omega (arith, told.is, one)) | inr three ↦ absurd (omega (arith, told.is, three)) ]
early-one _ name held rb rn log pb pn old before new now status stops told is = absurd stops

no-usage : (name : List ℕ) (held : Held) (rb rn : ℕ) (log : Option Log) (pb pn : ℕ) (old : Option (List ℕ)) (before : ℕ) (new : Option (List ℕ)) (now status : ℕ) → ServeOutcome name held rb rn log pb pn old before new now status → status ≢ 2
no-usage name held rb rn log pb pn old before new now _ (ServedOut served silent) = λ same. cc
no-usage name held rb rn log pb pn old before new now _ (Misconfigured fault wrong says) = λ same. cc
no-usage name held rb rn log pb pn old before new now _ (NotRead rose says) = λ same. cc
no-usage name held rb rn log pb pn old before new now _ (RefusedMemory until says) = λ same. cc
no-usage name held rb rn log pb pn old before new now _ (PortFailed served rose says) = λ same. cc
no-usage name held rb rn log pb pn old before new now _ (WornOut served says) = λ same. cc

pub returns-in-Ok-clause-outcome : goal.returns-in-Ok-clause-outcome
returns-in-Ok-clause-outcome g c = ServedOut c.in-Ok.ensures.ok (record { same = refl; calm = refl })

pub returns-in-Err-clause-outcome : goal.returns-in-Err-clause-outcome
returns-in-Err-clause-outcome g c = ends _ _ _ _ _ _ _ _ _ _ _ _ _ (λ early. record { empty = λ log is. c.requires.fresh log (ap g.W.Wire.told (sym (c.in-Err.ensures.untouched early)) ∙ is) }) c.in-Err.ensures.err c.tell.ensures

pub returns-in-Err-clause-usage : goal.returns-in-Err-clause-usage
returns-in-Err-clause-usage g c = no-usage _ _ _ _ _ _ _ _ _ _ _ _ (returns-in-Err-clause-outcome g c)

pub returns-in-Err-clause-unconfigured : goal.returns-in-Err-clause-unconfigured
returns-in-Err-clause-unconfigured g c = λ one. c.in-Err.ensures.untouched (early-one _ _ _ _ _ _ _ _ _ _ _ _ _ c.in-Err.ensures.err c.tell.ensures (inl one))

pub returns-in-Err-clause-unread : goal.returns-in-Err-clause-unread
returns-in-Err-clause-unread g c = λ three. c.in-Err.ensures.untouched (early-one _ _ _ _ _ _ _ _ _ _ _ _ _ c.in-Err.ensures.err c.tell.ensures (inr three))
