-- What is left to do before the loop may wait: nothing, where it is drained.
use Rattle.std.specs.Prelude.{◌≡◌, Bool, true, false, fold, Option, Some, IsSome}
use Rattle.mx_base.specs.declared.names.LinkId.{LinkId}
use Rattle.mx_base.specs.declared.names.Port.{Port}
use Rattle.mx_base.specs.declared.names.Port.TheVariants.{Traffic, Admin}
use Rattle.mx_wire.specs.Log.{Log, of_link, is_open}
use Rattle.mx_wire.specs.declared.entry.Entry.{Entry}
use Rattle.mx_wire.specs.declared.entry.Entry.TheVariants.{Woke, WaitFailed, Over, Named, NoneNamed, Accepted, AcceptNothing, Opened, Got, ReadNothing, Wrote, WriteNothing}
use Rattle.mx_base.specs.Sent.{Sent}

-- a link is dry for reads where the last read since it came, and since it was last named, found nothing
abbrev pub read_step : Bool → Entry → Bool
read_step dry (Accepted port link salt) = false
read_step dry (Opened server address link) = false
read_step dry (Named link) = false
read_step dry (Got link bytes) = false
read_step dry (ReadNothing link) = true
read_step dry _ = dry

-- and dry for writes where the last write since then found no room
abbrev pub write_step : Bool → Entry → Bool
write_step dry (Accepted port link salt) = false
write_step dry (Opened server address link) = false
write_step dry (Named link) = false
write_step dry (Wrote link tag bytes) = false
write_step dry (WriteNothing link) = true
write_step dry _ = dry

abbrev pub read_dry : LinkId → Log → Bool
read_dry link log = fold read_step false (of_link link log)

abbrev pub write_dry : LinkId → Log → Bool
write_dry link log = fold write_step false (of_link link log)

-- what the last call of a port since the last wake answered, where it answered that nobody waits
abbrev pub is_port : Port → Port → Bool
is_port Traffic Traffic = true
is_port Admin Admin = true
is_port Traffic Admin = false
is_port Admin Traffic = false

abbrev pub when_port : Port → Port → Bool → Bool → Bool
when_port Traffic Traffic now was = now
when_port Admin Admin now was = now
when_port Traffic Admin now was = was
when_port Admin Traffic now was = was

abbrev pub accept_step : Port → Bool → Entry → Bool
accept_step port done (Woke until_ms now_ms) = false
accept_step port done (Accepted at link salt) = when_port port at false done
accept_step port done (AcceptNothing at) = when_port port at true done
accept_step port done _ = done

-- since the last wake each ready link was named
abbrev pub name_step : Bool → Entry → Bool
name_step done (Woke until_ms now_ms) = false
name_step done NoneNamed = true
name_step done _ = done

-- before the first wake neither is asked for
abbrev pub all_accepted : Port → Log → Bool
all_accepted port log = fold (accept_step port) true log

abbrev pub all_named : Log → Bool
all_named log = fold name_step true log

pub record IsDrained (reads : LinkId → Bool) (sends : LinkId → Option Sent) (log : Log) : Type 0 where
  pub accepted : (port : Port) → all_accepted port log ≡ true
  pub named : all_named log ≡ true
  pub read : (link : LinkId) → is_open link log ≡ true → reads link ≡ true → read_dry link log ≡ true
  pub written : (link : LinkId) → is_open link log ≡ true → IsSome (sends link) → write_dry link log ≡ true

-- the loop waits only where it is drained, and the machine asks for no act
pub record MayWait (reads : LinkId → Bool) (sends : LinkId → Option Sent) (asks : Bool) (log : Log) : Type 0 where
  pub drained : IsDrained reads sends log
  pub acted : asks ≡ false

-- and bytes are read of a link that the machine wants to be read
abbrev pub IsDue : {M : Type 0} → (M → LinkId → Bool) → (M → LinkId → Option Sent) → (M → Bool) → M → Log → Entry → Type 0
IsDue reads sends asks machine log (Woke until_ms now_ms) = MayWait (reads machine) (sends machine) (asks machine) log
IsDue reads sends asks machine log WaitFailed = MayWait (reads machine) (sends machine) (asks machine) log
IsDue reads sends asks machine log Over = MayWait (reads machine) (sends machine) (asks machine) log
IsDue reads sends asks machine log (Got link bytes) = reads machine link ≡ true
IsDue reads sends asks machine log _ = Unit {0}

pub record DrainedFor (reads : LinkId → Bool) (sends : LinkId → Option Sent) (told : Option Log) : Type 0 where
  pub holds : (log : Log) → told ≡ Some log → IsDrained reads sends log
