-- What the loop counts: calls since the last wake, and wakes.
use Rattle.std.specs.Prelude.{◌≡◌, ℕ, ◌+◌, fold}
use Rattle.mx_base.specs.declared.names.Port.TheVariants as port
use Rattle.mx_wire.specs.Log.{Log}
use Rattle.mx_wire.specs.declared.entry.Entry.{Entry}
use Rattle.mx_wire.specs.declared.entry.Entry.TheVariants.{Woke, Exec, Drop}
use Rattle.ready_loop.specs.Drained.{accept_step, name_step, all_accepted, all_named}
use Rattle.ready_loop.specs.declared.round.Round.{Round}

-- each entry but a mark is a call, and a wake begins the count anew
abbrev pub call_step : ℕ → Entry → ℕ
call_step calls (Woke until_ms now_ms) = 0
call_step calls (Exec link) = calls
call_step calls (Drop link) = calls
call_step calls _ = calls + 1

abbrev pub wake_step : ℕ → Entry → ℕ
wake_step wakes (Woke until_ms now_ms) = wakes + 1
wake_step wakes _ = wakes

-- the calls of the wire since the last wake
abbrev pub calls_since_wake : Log → ℕ
calls_since_wake log = fold call_step 0 log

-- how many waits woke
abbrev pub wakes_of : Log → ℕ
wakes_of log = fold wake_step 0 log

-- what the loop counts is what the log says
pub record CountsOf (round : Round) (log : Log) : Type 0 where
  pub traffic : round.traffic ≡ all_accepted port.Traffic log
  pub admin : round.admin ≡ all_accepted port.Admin log
  pub named : round.named ≡ all_named log
  pub calls : round.calls ≡ calls_since_wake log
  pub wakes : round.wakes ≡ wakes_of log

-- how one entry changes it
abbrev pub round_step : Round → Entry → Round
round_step round e = record {
  traffic = accept_step port.Traffic round.traffic e;
  admin = accept_step port.Admin round.admin e;
  named = name_step round.named e;
  calls = call_step round.calls e;
  wakes = wake_step round.wakes e;
}
