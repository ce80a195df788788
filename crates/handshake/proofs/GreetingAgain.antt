-- Bytes that have a greeting's fields are read as that greeting.
use Rattle.std.specs.Prelude.{◌≡◌, ◌<◌, ℕ, ◌+◌, ◌*◌, ◌/◌, ◌%◌, Bool, true, false, not, cond, nat_eq, bit_and, List, [], ◌∷◌, ◌++◌, length, take, drop, Ok, refl}
use Rattle.std.proofs.Common.{sym, ◌∙◌, ap, arith, length-append, append_assoc, length-drop, take-append-drop, inl}
use Rattle.std.proofs.lemmas.List.{take_at, length-take-le}
use Rattle.std.proofs.lemmas.Nat.{and_mod, and_le_r}
use Rattle.mx_base.specs.Fields.{number_bytes}
use Rattle.handshake.specs.declared.capability.TheConstants.{PROTOCOL_41, SECURE_CONNECTION, PLUGIN_AUTH}
use Rattle.handshake.specs.declared.greeting.Greeting.{Greeting}
use Rattle.handshake.specs.Capability.{has, needed_of_greeting}
use Rattle.handshake.specs.Reading.{bytes_field, last_text}
use Rattle.handshake.specs.Spelling.{IsText, IsEnding, spelled}
use Rattle.handshake.specs.Greeting.{GreetingFillers, greeting_fields, greeting_fillers, greeting_bytes, IsGreeting, HasGreeting, protocol_field, offer_fields, back_field, greeting_of}
use Rattle.handshake.proofs.FieldsAgain.{rest_of, number_field-is, number_field-again, bytes_field-again, text_field-again, last_text-again, spelled-more}

-- a capability of the low two bytes
has-low : (capability capabilities : ℕ) → capability < 65536 → has capability (capabilities % 65536) ≡ has capability capabilities
has-low capability capabilities low =
    let small : bit_and capabilities capability < 65536 = omega (arith, and_le_r capabilities capability) in
    let same : bit_and (capabilities % 65536) capability ≡ bit_and capabilities capability =
    ap (bit_and (capabilities % 65536)) (let e : capability ≡ capability % 65536 = omega arith in e) ∙ sym (and_mod capabilities capability 16) ∙ (let e : bit_and capabilities capability % 65536 ≡ bit_and capabilities capability = omega arith in e)
    in
    ap (λ (n : ℕ). not (nat_eq n 0)) same

needed-low : (capabilities : ℕ) → has PROTOCOL_41 capabilities ≡ true → has SECURE_CONNECTION capabilities ≡ true → needed_of_greeting (capabilities % 65536) ≡ Ok tt
needed-low capabilities protocol secure =
    rw (has-low PROTOCOL_41 capabilities (omega arith), has-low SECURE_CONNECTION capabilities (omega arith), protocol, secure) refl

named-again : (named : Bool) (plugin ending more : List ℕ) (at : ℕ) → IsText plugin → IsEnding ending more → (named ≡ false → plugin ≡ [])
    → cond named (last_text (rest_of (cond named plugin [] ++ (cond named ending [] ++ more)) at)) [] ≡ plugin
named-again true plugin ending more at is ended unnamed = last_text-again plugin ending more at is ended
named-again false plugin ending more at is ended unnamed = sym (unnamed refl)

parts-salt : (salt end : List ℕ) → length salt ≡ 20 → take 8 salt ++ take 12 (drop 8 salt ++ end) ≡ salt
parts-salt salt end long =
    let half : length (drop 8 salt) ≡ 12 = omega (arith, length-drop 8 salt) in
    rw (take_at (drop 8 salt) end 12 half) (take-append-drop 8 salt)

fields-again : (bytes : List ℕ) (g : Greeting) (has_fields : HasGreeting bytes g) → greeting_of (spelled (greeting_fields has_fields.fillers g) has_fields.more) ≡ Ok g
unfolding greeting_of protocol_field offer_fields back_field greeting_fields
fields-again bytes g has_fields =
    let is : IsGreeting g = has_fields.fits in
    let fillers : GreetingFillers = has_fields.fillers in
    let left : ℕ → List ℕ = λ n. spelled (drop n (greeting_fields fillers g)) has_fields.more in
    let low : List ℕ = take 2 (number_bytes 4 g.capabilities) in
    let high : List ℕ = drop 2 (number_bytes 4 g.capabilities) in
    let at : ℕ = 1 + (length g.version + 1) in
    let front : length (take 8 g.salt) ≡ 8 = length-take-le 8 g.salt (omega (arith, is.salt)) in
    let back : length (drop 8 g.salt ++ fillers.scramble_end) ≡ 13 = omega (arith, is.salt, length-drop 8 g.salt, has_fields.scramble_end, length-append (drop 8 g.salt) fillers.scramble_end) in
    let scramble : bytes_field 13 (rest_of (drop 8 g.salt ++ (fillers.scramble_end ++ left 14)) (at + 4 + 8 + 1 + 2 + 1 + 2 + 2 + 1 + 10)) ≡ Ok (drop 8 g.salt ++ fillers.scramble_end, rest_of (left 14) (at + 4 + 8 + 1 + 2 + 1 + 2 + 2 + 1 + 10 + 13)) =
    rw (← append_assoc (drop 8 g.salt) fillers.scramble_end (left 14)) (bytes_field-again 13 (drop 8 g.salt ++ fillers.scramble_end) (left 14) (at + 4 + 8 + 1 + 2 + 1 + 2 + 2 + 1 + 10) back)
    in
    let whole : g.capabilities % 65536 + 65536 * (g.capabilities / 65536) ≡ g.capabilities = omega arith in
    rw (
      number_field-is 1 (10 ∷ []) (left 1) 0 10 refl refl,
      text_field-again g.version (left 3) 1 is.version,
      number_field-again 4 g.connection (left 4) at is.connection,
      bytes_field-again 8 (take 8 g.salt) (left 5) (at + 4) front,
      bytes_field-again 1 fillers.filler (left 6) (at + 4 + 8) has_fields.filler,
      number_field-is 2 low (left 7) (at + 4 + 8 + 1) (g.capabilities % 65536) refl (omega arith),
      needed-low g.capabilities is.protocol_41 is.secure_connection,
      number_field-is 1 (g.collation ∷ []) (left 8) (at + 4 + 8 + 1 + 2) g.collation refl (omega arith),
      number_field-again 2 g.status (left 9) (at + 4 + 8 + 1 + 2 + 1) is.status,
      number_field-is 2 high (left 10) (at + 4 + 8 + 1 + 2 + 1 + 2) (g.capabilities / 65536) refl (omega (arith, is.capabilities)),
      bytes_field-again 1 fillers.scramble_length (left 11) (at + 4 + 8 + 1 + 2 + 1 + 2 + 2) has_fields.scramble_length,
      bytes_field-again 10 fillers.reserved (left 12) (at + 4 + 8 + 1 + 2 + 1 + 2 + 2 + 1) has_fields.reserved,
      scramble,
      whole,
      parts-salt g.salt fillers.scramble_end is.salt,
    )
    (ap (λ (plugin : List ℕ). Ok (record g { plugin = plugin })) (named-again (has PLUGIN_AUTH g.capabilities) g.plugin fillers.plugin_end has_fields.more (at + 4 + 8 + 1 + 2 + 1 + 2 + 2 + 1 + 10 + 13) is.plugin has_fields.plugin_end is.unnamed))

pub greeting_of-has : (bytes : List ℕ) (g : Greeting) → HasGreeting bytes g → greeting_of bytes ≡ Ok g
greeting_of-has bytes g has_fields = ap greeting_of has_fields.is ∙ fields-again bytes g has_fields

pub greeting_bytes-has : (g : Greeting) (more : List ℕ) → IsGreeting g → HasGreeting (greeting_bytes g ++ more) g
greeting_bytes-has g more is = record {
  fits = is;
  fillers = greeting_fillers;
  filler = refl;
  scramble_length = refl;
  reserved = refl;
  scramble_end = refl;
  more = more;
  plugin_end = inl refl;
  is = spelled-more (greeting_fields greeting_fillers g) [] more;
}
