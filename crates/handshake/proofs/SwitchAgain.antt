-- Bytes that have the fields of a request to switch are read as that request.
use Rattle.std.specs.Prelude.{◌≡◌, ℕ, ◌+◌, List, [], ◌∷◌, ◌++◌, length, drop, Ok, refl}
use Rattle.std.proofs.Common.{◌∙◌, ap}
use Rattle.handshake.specs.declared.switch.Switch.{Switch}
use Rattle.handshake.specs.Spelling.{nul, IsText, spelled}
use Rattle.handshake.specs.Switch.{switch_fields, switch_bytes, HasSwitch, switch_of}
use Rattle.handshake.proofs.FieldsAgain.{bytes_field-again, text_field-again, spelled-more}

fields-again : (bytes : List ℕ) (s : Switch) (has_fields : HasSwitch bytes s) → switch_of (spelled (switch_fields has_fields.end s) has_fields.more) ≡ Ok s
unfolding switch_of switch_fields
fields-again bytes s has_fields =
    let left : ℕ → List ℕ = λ n. spelled (drop n (switch_fields has_fields.end s)) has_fields.more in
    let at : ℕ = 1 + (length s.plugin + 1) in
    rw (bytes_field-again 1 (254 ∷ []) (left 1) 0 refl, text_field-again s.plugin (left 3) 1 has_fields.plugin, bytes_field-again 20 s.salt (left 4) at has_fields.salt, bytes_field-again 1 has_fields.end has_fields.more (at + 20) has_fields.one) refl

pub switch_of-has : (bytes : List ℕ) (s : Switch) → HasSwitch bytes s → switch_of bytes ≡ Ok s
switch_of-has bytes s has_fields = ap switch_of has_fields.is ∙ fields-again bytes s has_fields

pub switch_bytes-has : (s : Switch) (more : List ℕ) → IsText s.plugin → length s.salt ≡ 20 → HasSwitch (switch_bytes s ++ more) s
switch_bytes-has s more is long = record { plugin = is; salt = long; end = nul; one = refl; more = more; is = spelled-more (switch_fields nul s) [] more }
