-- Whether a failure is one for which a statement may be given up, by what happens.
use Rattle.std.specs.Prelude.{ℕ, ◌-◌, ◌&&◌, Bool, true, false, nat_eq, nat_le, Option, None, Some}
use Rattle.core_laws.specs.clients.Going.{GivenUp}
use Rattle.core_policy.specs.declared.verdict.GiveUp.{GiveUp}
use Rattle.core_service.specs.Failures.{payload_of}
use Rattle.core_service.specs.declared.failure.Failure.{Failure}
use Rattle.core_service.specs.declared.failure.Failure.TheVariants.{BadBytes, LinkLost, NoConnection, Refused, ShuttingDown, StepRefused}

-- as bytes come on a link, which carries a session of its client, or doesn't
abbrev pub is_heard : (carried : Bool) → Failure → Bool
is_heard carried (StepRefused code) = true
is_heard carried Refused = true
is_heard carried (BadBytes place) = carried
is_heard carried _ = false

-- as it is lost
abbrev pub is_lost : (carried : Bool) → Failure → Bool
is_lost carried LinkLost = carried
is_lost carried Refused = true
is_lost carried _ = false

-- this moment is noted
abbrev pub is_noted : (noted : Option ℕ) → (since : ℕ) → Bool
is_noted None since = false
is_noted (Some by_ms) since = nat_eq by_ms since

-- at a wake, where an administrator came, or none did, and it is noted since when the statement waits, or isn't
abbrev pub is_late : (wait_ms now_ms : ℕ) → (came : Bool) → (noted : Option ℕ) → Failure → Bool
is_late wait_ms now_ms came noted (NoConnection since told) =
    nat_eq told now_ms && (nat_le since now_ms && (nat_le wait_ms (now_ms - since) && is_noted noted since))
is_late wait_ms now_ms came noted (BadBytes place) = nat_eq place 0
is_late wait_ms now_ms came noted ShuttingDown = came
is_late wait_ms now_ms came noted _ = false

-- where a link couldn't be opened
abbrev pub is_refused : Failure → Bool
is_refused Refused = true
is_refused _ = false

-- what its client is told
abbrev pub given_with : GiveUp → GivenUp
given_with up = record { client = up.client; payload = payload_of up.why }
