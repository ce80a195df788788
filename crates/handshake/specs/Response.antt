-- The response of a client.
use Rattle.std.specs.Prelude.{◌≡◌, ◌<◌, ℕ, ◌^◌, Bool, true, false, not, ◌||◌, List, [], ◌∷◌, length, replicate, unwrap_or, Result, Ok, if◌then◌else◌, Option, Some, None, ◌++◌}
use Rattle.mx_base.specs.Fields.{number_at, value_to, lenenc_at, lenenc, number_bytes}
use Rattle.mx_base.specs.declared.fields.Field.{Field}
use Rattle.mx_base.specs.declared.fields.Field.TheVariants.{Value}
use Rattle.handshake.specs.declared.capability.TheConstants.{PROTOCOL_41, SECURE_CONNECTION, CONNECT_WITH_DB, PLUGIN_AUTH, CONNECT_ATTRS, PLUGIN_AUTH_LENENC_CLIENT_DATA}
use Rattle.handshake.specs.declared.fault.HandFault.{HandFault}
use Rattle.handshake.specs.declared.response.Head.{Head}
use Rattle.handshake.specs.declared.response.Response.{Response}
use Rattle.handshake.specs.Capability.{has, needed_of_response}
use Rattle.handshake.specs.Reading.{Rest, Read, start, ◌>>=◌, number_field, bytes_field, text_field, counted_field, optional_text}
use Rattle.handshake.specs.Spelling.{nul, IsText, IsEndingIf, under, spelled}

-- the length of an answer: length-encoded under PLUGIN_AUTH_LENENC_CLIENT_DATA, else of one byte
abbrev pub length_bytes : (capabilities n : ℕ) → List ℕ
length_bytes capabilities n = if has PLUGIN_AUTH_LENENC_CLIENT_DATA capabilities then lenenc n else n ∷ []

-- what stands in the field that means nothing to the router, the length of the answer as it is spelled, and what
-- stands behind the schema and the login method
pub record ResponseFillers : Type 0 where
  pub filler : List ℕ
  pub answer_length : List ℕ
  pub schema_end : List ℕ
  pub plugin_end : List ℕ

-- capabilities (4), longest packet (4), collation (1), a filler (23), user, the answer behind its length, schema under
-- CONNECT_WITH_DB, login method under PLUGIN_AUTH; attributes follow under CONNECT_ATTRS
unfoldable pub response_fields : ResponseFillers → Response → List (List ℕ)
response_fields fillers r =
    number_bytes 4 r.capabilities
    ∷ number_bytes 4 r.max_packet
    ∷ (r.collation ∷ [])
    ∷ fillers.filler
    ∷ r.user ∷ nul
    ∷ fillers.answer_length ∷ r.answer
    ∷ under CONNECT_WITH_DB r.capabilities (unwrap_or r.schema []) ∷ under CONNECT_WITH_DB r.capabilities fillers.schema_end
    ∷ under PLUGIN_AUTH r.capabilities (unwrap_or r.plugin []) ∷ under PLUGIN_AUTH r.capabilities fillers.plugin_end
    ∷ []

-- the router's own
abbrev pub response_fillers : Response → ResponseFillers
response_fillers r = record { filler = replicate 23 0; answer_length = length_bytes r.capabilities (length r.answer); schema_end = nul; plugin_end = nul }

-- there are no attributes
abbrev pub response_bytes : Response → List ℕ
response_bytes r = spelled (response_fields (response_fillers r) r) (under CONNECT_ATTRS r.capabilities (0 ∷ []))

-- the same fields, read
abbrev pub answer_length : (capabilities : ℕ) → List ℕ → Field
answer_length capabilities bytes = if has PLUGIN_AUTH_LENENC_CLIENT_DATA capabilities then lenenc_at 0 bytes else value_to 1 (number_at 1 0 bytes)

-- nothing is read behind the last text; attributes aren't looked at
abbrev pub is_schema_last : (capabilities : ℕ) → Bool
is_schema_last capabilities = not (has PLUGIN_AUTH capabilities || has CONNECT_ATTRS capabilities)

abbrev pub is_plugin_last : (capabilities : ℕ) → Bool
is_plugin_last capabilities = not (has CONNECT_ATTRS capabilities)

-- a text is there exactly under its capability
abbrev pub IsNamed : (there : Bool) → Option (List ℕ) → Type 0
IsNamed true (Some text) = IsText text
IsNamed true None = ⊥
IsNamed false (Some text) = ⊥
IsNamed false None = Unit {0}

-- a response whose parts fit the fields and agree with its capabilities
pub record IsResponse (r : Response) : Type 0 where
  pub capabilities : r.capabilities < 2 ^ 32
  pub protocol_41 : has PROTOCOL_41 r.capabilities ≡ true
  pub counted : (has PLUGIN_AUTH_LENENC_CLIENT_DATA r.capabilities || has SECURE_CONNECTION r.capabilities) ≡ true
  pub max_packet : r.max_packet < 2 ^ 32
  pub user : IsText r.user
  pub schema : IsNamed (has CONNECT_WITH_DB r.capabilities) r.schema
  pub plugin : IsNamed (has PLUGIN_AUTH r.capabilities) r.plugin

-- the bytes have the response's fields, whatever the filler is, however the answer's length is spelled, and whatever
-- follows
pub record HasResponse (bytes : List ℕ) (r : Response) : Type 0 where
  pub fits : IsResponse r
  pub fillers : ResponseFillers
  pub filler : length fillers.filler ≡ 23
  pub answer_length : (rest : List ℕ) → answer_length r.capabilities (fillers.answer_length ++ rest) ≡ Value (length r.answer) (length fillers.answer_length)
  pub more : List ℕ
  pub schema_end : IsEndingIf (is_schema_last r.capabilities) fillers.schema_end more
  pub plugin_end : IsEndingIf (is_plugin_last r.capabilities) fillers.plugin_end more
  pub is : bytes ≡ spelled (response_fields fillers r) more

-- the fields of one length
unfoldable pub head_fields : Rest → Read Head
head_fields rest = do
  capabilities ← number_field 4 rest
  needed ← needed_of_response capabilities.0
  max_packet ← number_field 4 capabilities.1
  collation ← number_field 1 max_packet.1
  filler ← bytes_field 23 collation.1
  Ok (record { capabilities = capabilities.0; max_packet = max_packet.0; collation = collation.0 }, filler.1)

unfoldable pub response_of : List ℕ → Result Response HandFault
response_of payload = do
  head ← head_fields (start payload)
  user ← text_field head.1
  answer ← counted_field (answer_length head.0.capabilities user.1.bytes) user.1
  schema ← optional_text (has CONNECT_WITH_DB head.0.capabilities) (is_schema_last head.0.capabilities) answer.1
  plugin ← optional_text (has PLUGIN_AUTH head.0.capabilities) (is_plugin_last head.0.capabilities) schema.1
  Ok (record {
    capabilities = head.0.capabilities;
    max_packet = head.0.max_packet;
    collation = head.0.collation;
    user = user.0;
    answer = answer.0;
    schema = schema.0;
    plugin = plugin.0;
  })
