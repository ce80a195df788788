-- Bytes that were written behind their number are read again.
use Rattle.std.specs.Prelude.{◌≡◌, ◌≤◌, ℕ, ◌+◌, List, ◌++◌, length, drop, Ok, refl}
use Rattle.std.proofs.Common.{arith, length-append, append_assoc}
use Rattle.std.proofs.lemmas.Bool.{le-ltb}
use Rattle.std.proofs.lemmas.List.{take_at, drop_at}
use Rattle.mx_base.specs.declared.fields.Field.TheVariants.{Value}
use Rattle.handshake.specs.Reading.{counted_field}
use Rattle.handshake.proofs.FieldsAgain.{rest_of}

pub counted_field-there : (number bytes more : List ℕ) (at : ℕ) → counted_field (Value (length bytes) (length number)) (rest_of (number ++ (bytes ++ more)) at) ≡ Ok (bytes, rest_of more (at + (length number + length bytes)))
unfolding counted_field
counted_field-there number bytes more at =
    let long : length number + length bytes ≤ length (number ++ (bytes ++ more)) = omega (arith, length-append number (bytes ++ more), length-append bytes more) in
    let behind : drop (length number + length bytes) (number ++ (bytes ++ more)) ≡ more = rw (← append_assoc number bytes more) (drop_at (number ++ bytes) more (length number + length bytes) (length-append number bytes)) in
    rw (le-ltb _ _ long, drop_at number (bytes ++ more) (length number) refl, take_at bytes more (length bytes) refl, behind) refl
