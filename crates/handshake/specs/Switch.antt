-- A server's request to switch the login method.
use Rattle.std.specs.Prelude.{◌≡◌, ℕ, List, [], ◌∷◌, codes, Result, Ok, length}
use Rattle.handshake.specs.declared.fault.HandFault.{HandFault}
use Rattle.handshake.specs.declared.switch.Switch.{Switch}
use Rattle.handshake.specs.Reading.{start, ◌>>=◌, bytes_field, text_field}
use Rattle.handshake.specs.Spelling.{nul, IsText, spelled}

abbrev pub native_password : List ℕ
native_password = codes "mysql_native_password"

-- 0xFE, login method, 20 bytes of the scramble with a NUL
unfoldable pub switch_fields : (end : List ℕ) → Switch → List (List ℕ)
switch_fields end s = (254 ∷ []) ∷ s.plugin ∷ nul ∷ s.salt ∷ end ∷ []

abbrev pub switch_bytes : Switch → List ℕ
switch_bytes s = spelled (switch_fields nul s) []

-- the bytes have the request's fields, whatever stands in the NUL's place and whatever follows
pub record HasSwitch (bytes : List ℕ) (s : Switch) : Type 0 where
  pub plugin : IsText s.plugin
  pub salt : length s.salt ≡ 20
  pub end : List ℕ
  pub one : length end ≡ 1
  pub more : List ℕ
  pub is : bytes ≡ spelled (switch_fields end s) more

-- the same fields, read
unfoldable pub switch_of : List ℕ → Result Switch HandFault
switch_of payload = do
  request ← bytes_field 1 (start payload)
  plugin ← text_field request.1
  salt ← bytes_field 20 plugin.1
  end ← bytes_field 1 salt.1
  Ok (record { plugin = plugin.0; salt = salt.0 })
