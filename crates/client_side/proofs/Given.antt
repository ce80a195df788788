-- What a reader gives.
use Rattle.std.specs.Prelude.{◌≡◌, ◌≢◌, Result, Err}
use Rattle.std.proofs.Common.{refl, sym}
use Rattle.handshake.specs.declared.fault.HandFault.{HandFault}
use Rattle.handshake.specs.declared.fault.HandFault.TheVariants.{Short, NotVersion10, NoProtocol41, NoSecureConnection, OutOfMemory}
use Rattle.handshake.specs.declared.response.Response.{Response}
use Rattle.handshake.specs.Reading.{Gives}

-- a fault is what was read, unless memory was refused
pub given_fault : (fault : HandFault) (read : Result Response HandFault) → fault ≢ OutOfMemory → Gives (Err fault) read → read ≡ Err fault
given_fault (Short at) read other gives = sym gives
given_fault (NotVersion10 found) read other gives = sym gives
given_fault NoProtocol41 read other gives = sym gives
given_fault NoSecureConnection read other gives = sym gives
given_fault OutOfMemory read other gives = absurd (other refl)
