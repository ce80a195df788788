-- The payload of each error that the router itself answers.
use Rattle.client_session.specs.Errors.{bad_handshake, bad_server_bytes, connection_lost, connection_refused, malformed_command, no_server, packet_out_of_order}
use Rattle.packet_frame.specs.declared.fault.FrameFault.TheVariants.{OutOfOrder, TooLarge}
use Rattle.std.specs.Prelude.{List, ℕ}
use Rattle.client_session.specs.{Errors.packet_too_large, Errors.too_many_connections, Errors.unknown_command, declared.refusal.Refusal.Refusal}
use Rattle.client_session.specs.declared.refusal.Refusal.TheVariants as refusal

abbrev pub payload_of : Refusal → List ℕ
payload_of refusal.TooManyConnections = too_many_connections
payload_of refusal.UnknownCommand = unknown_command
payload_of refusal.MalformedCommand = malformed_command
payload_of refusal.BadHandshake = bad_handshake
payload_of refusal.NoServer = no_server
payload_of refusal.ConnectionLost = connection_lost
payload_of refusal.ConnectionRefused = connection_refused
payload_of (refusal.BadServerBytes place) = bad_server_bytes place
payload_of (refusal.Frame (TooLarge length) limit) = packet_too_large length limit
payload_of (refusal.Frame (OutOfOrder expected found) limit) = packet_out_of_order expected found
