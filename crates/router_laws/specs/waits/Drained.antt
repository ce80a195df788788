-- Of the code: nothing is left to read or to write as the loop waits.
use Rattle.std.specs.Prelude.{◌≡◌, true, IsSome}
use Rattle.mx_wire.specs.declared.entry.Entry.{Entry}
use Rattle.mx_wire.specs.declared.entry.Entry.TheVariants.{Over, WaitFailed, Woke}
use Rattle.mx_base.specs.declared.names.Port.{Port}
use Rattle.mx_wire.specs.Log.{Log, is_open}
use Rattle.ready_loop.specs.Drained.{all_accepted, all_named, read_dry, write_dry}
use Rattle.private_model.specs.Names.{LinkId}
use Rattle.core_tables.specs.Tables.{Tabled}
use Rattle.core_says.specs.Says.{reads_in, sends_in}

-- Nobody waits at a port, and each ready link was named; of links that are open each that the tables want to be read was read dry, and each on
-- which they have something to write takes no more.
pub record IsDrainedFor (t : Tabled) (log : Log) : Type 0 where
  pub accepted : (port : Port) → all_accepted port log ≡ true
  pub named : all_named log ≡ true
  pub read : (l : LinkId) → is_open l log ≡ true → reads_in t l ≡ true → read_dry l log ≡ true
  pub written : (l : LinkId) → is_open l log ≡ true → IsSome (sends_in t l) → write_dry l log ≡ true

-- where the entry is a wait
abbrev pub IsDrainedAt : Tabled → Log → Entry → Type 0
IsDrainedAt t log (Woke until_ms now_ms) = IsDrainedFor t log
IsDrainedAt t log WaitFailed = IsDrainedFor t log
IsDrainedAt t log Over = IsDrainedFor t log
IsDrainedAt t log _ = Unit {0}
