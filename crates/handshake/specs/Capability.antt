-- Capabilities are bits of a number, by which the two sides say what they speak.
use Rattle.std.specs.Prelude.{ℕ, Bool, not, ◌||◌, nat_eq, bit_and, Result, Ok, Err, if◌then◌else◌}
use Rattle.handshake.specs.declared.capability.TheConstants.{PROTOCOL_41, SECURE_CONNECTION, PLUGIN_AUTH_LENENC_CLIENT_DATA}
use Rattle.handshake.specs.declared.fault.HandFault.{HandFault}
use Rattle.handshake.specs.declared.fault.HandFault.TheVariants.{NoProtocol41, NoSecureConnection}

abbrev pub has : (capability capabilities : ℕ) → Bool
has capability capabilities = not (nat_eq (bit_and capabilities capability) 0)

-- a server has to speak the protocol of 4.1, with answers of mysql_native_password
abbrev pub needed_of_greeting : (capabilities : ℕ) → Result (Unit {0}) HandFault
needed_of_greeting capabilities =
    if not (has PROTOCOL_41 capabilities) then Err NoProtocol41
    else if not (has SECURE_CONNECTION capabilities) then Err NoSecureConnection
    else Ok tt

-- a client has to speak the protocol of 4.1, in one of the two forms that an answer has
abbrev pub needed_of_response : (capabilities : ℕ) → Result (Unit {0}) HandFault
needed_of_response capabilities =
    if not (has PROTOCOL_41 capabilities) then Err NoProtocol41
    else if not (has PLUGIN_AUTH_LENENC_CLIENT_DATA capabilities || has SECURE_CONNECTION capabilities) then Err NoSecureConnection
    else Ok tt
