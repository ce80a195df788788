-- The payload by which a failure is told.
use Rattle.std.specs.Prelude.{ℕ, List}
use Rattle.client_session.specs.Errors.{bad_server_bytes, connection_lost, connection_refused}
use Rattle.core_service.specs.declared.failure.Failure.{Failure}
use Rattle.core_service.specs.declared.failure.Failure.TheVariants.{BadBytes, BuffersFull, LinkLost, NoConnection, Refused, ShuttingDown, StepRefused}
use Rattle.router_promises.specs.Errors.{buffers_full, no_connection, replay_refused, server_shutdown}

abbrev pub payload_of : Failure → List ℕ
payload_of LinkLost = connection_lost
payload_of (NoConnection since now) = no_connection since now
payload_of Refused = connection_refused
payload_of (StepRefused code) = replay_refused code
payload_of (BadBytes place) = bad_server_bytes place
payload_of (BuffersFull kept announced) = buffers_full kept announced
payload_of ShuttingDown = server_shutdown
