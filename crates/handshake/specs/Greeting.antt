-- The greeting of a server.
use Rattle.std.specs.Prelude.{◌≡◌, ◌<◌, ℕ, ◌+◌, ◌*◌, ◌^◌, true, false, nat_eq, List, [], ◌∷◌, ◌++◌, length, take, drop, replicate, Result, Ok, if◌then◌else◌}
use Rattle.mx_base.specs.Fields.{number_bytes}
use Rattle.handshake.specs.declared.capability.TheConstants.{PROTOCOL_41, SECURE_CONNECTION, PLUGIN_AUTH}
use Rattle.handshake.specs.declared.fault.HandFault.{HandFault}
use Rattle.handshake.specs.declared.fault.HandFault.TheVariants.{NotVersion10}
use Rattle.handshake.specs.declared.greeting.Greeting.{Greeting}
use Rattle.handshake.specs.declared.greeting.Offer.{Offer}
use Rattle.handshake.specs.Capability.{has, needed_of_greeting}
use Rattle.handshake.specs.Reading.{Rest, Read, start, ◌>>=◌, demand, number_field, bytes_field, text_field, last_text}
use Rattle.handshake.specs.Spelling.{nul, IsText, IsEnding, under, spelled}

-- what stands in the fields that mean nothing to the router, and behind the login method
pub record GreetingFillers : Type 0 where
  pub filler : List ℕ
  pub scramble_length : List ℕ
  pub reserved : List ℕ
  pub scramble_end : List ℕ
  pub plugin_end : List ℕ

-- protocol version (1), server version, connection id (4), 8 bytes of the scramble, a filler (1), the low two bytes of
-- the capabilities, collation (1), status flags (2), the high two bytes of the capabilities, length of the scramble (1),
-- a filler (10), 12 bytes of the scramble with a NUL, and the login method under PLUGIN_AUTH
unfoldable pub greeting_fields : GreetingFillers → Greeting → List (List ℕ)
greeting_fields fillers g =
    (10 ∷ [])
    ∷ g.version ∷ nul
    ∷ number_bytes 4 g.connection
    ∷ take 8 g.salt
    ∷ fillers.filler
    ∷ take 2 (number_bytes 4 g.capabilities)
    ∷ (g.collation ∷ [])
    ∷ number_bytes 2 g.status
    ∷ drop 2 (number_bytes 4 g.capabilities)
    ∷ fillers.scramble_length
    ∷ fillers.reserved
    ∷ drop 8 g.salt ∷ fillers.scramble_end
    ∷ under PLUGIN_AUTH g.capabilities g.plugin ∷ under PLUGIN_AUTH g.capabilities fillers.plugin_end
    ∷ []

-- the router's own
abbrev pub greeting_fillers : GreetingFillers
greeting_fillers = record { filler = 0 ∷ []; scramble_length = 21 ∷ []; reserved = replicate 10 0; scramble_end = nul; plugin_end = nul }

abbrev pub greeting_bytes : Greeting → List ℕ
greeting_bytes g = spelled (greeting_fields greeting_fillers g) []

-- a greeting whose parts fit the fields and agree with its capabilities
pub record IsGreeting (g : Greeting) : Type 0 where
  pub version : IsText g.version
  pub connection : g.connection < 2 ^ 32
  pub salt : length g.salt ≡ 20
  pub capabilities : g.capabilities < 2 ^ 32
  pub protocol_41 : has PROTOCOL_41 g.capabilities ≡ true
  pub secure_connection : has SECURE_CONNECTION g.capabilities ≡ true
  pub status : g.status < 2 ^ 16
  pub plugin : IsText g.plugin
  pub unnamed : has PLUGIN_AUTH g.capabilities ≡ false → g.plugin ≡ []

-- the bytes have the greeting's fields, whatever the fillers are and whatever follows
pub record HasGreeting (bytes : List ℕ) (g : Greeting) : Type 0 where
  pub fits : IsGreeting g
  pub fillers : GreetingFillers
  pub filler : length fillers.filler ≡ 1
  pub scramble_length : length fillers.scramble_length ≡ 1
  pub reserved : length fillers.reserved ≡ 10
  pub scramble_end : length fillers.scramble_end ≡ 1
  pub more : List ℕ
  pub plugin_end : IsEnding fillers.plugin_end more
  pub is : bytes ≡ spelled (greeting_fields fillers g) more

-- the same fields, read
abbrev pub plugin_of_greeting : (capabilities : ℕ) → Rest → List ℕ
plugin_of_greeting capabilities rest = if has PLUGIN_AUTH capabilities then last_text rest else []

-- the protocol version, which is 10
unfoldable pub protocol_field : Rest → Read (Unit {0})
protocol_field rest = do
  protocol ← number_field 1 rest
  spoken ← demand (nat_eq protocol.0 10) (NotVersion10 protocol.0)
  Ok (tt, protocol.1)

-- the capabilities in two halves, with collation and status flags between them
unfoldable pub offer_fields : Rest → Read Offer
offer_fields rest = do
  low ← number_field 2 rest
  needed ← needed_of_greeting low.0
  collation ← number_field 1 low.1
  status ← number_field 2 collation.1
  high ← number_field 2 status.1
  Ok (record { capabilities = low.0 + 65536 * high.0; collation = collation.0; status = status.0 }, high.1)

-- the second part of the scramble, behind the scramble's length and the filler
unfoldable pub back_field : Rest → Read (List ℕ)
back_field rest = do
  scramble_length ← bytes_field 1 rest
  reserved ← bytes_field 10 scramble_length.1
  bytes_field 13 reserved.1

unfoldable pub greeting_of : List ℕ → Result Greeting HandFault
greeting_of payload = do
  spoken ← protocol_field (start payload)
  version ← text_field spoken.1
  connection ← number_field 4 version.1
  front ← bytes_field 8 connection.1
  filler ← bytes_field 1 front.1
  offer ← offer_fields filler.1
  back ← back_field offer.1
  Ok (record {
    version = version.0;
    connection = connection.0;
    salt = front.0 ++ take 12 back.0;
    capabilities = offer.0.capabilities;
    collation = offer.0.collation;
    status = offer.0.status;
    plugin = plugin_of_greeting offer.0.capabilities back.1;
  })
