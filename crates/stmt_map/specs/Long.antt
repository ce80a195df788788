-- Long data: one part for each parameter that has some.
use Rattle.std.specs.Prelude.{ℕ, ◌+◌, nat_eq, List, [], ◌∷◌, ◌++◌, length, position, slice_get, slice_set, Option, Some, None}
use Rattle.session_vars.specs.declared.long_part.LongPart.{LongPart}

abbrev pub place_of : List LongPart → (parameter : ℕ) → Option ℕ
place_of parts parameter = position (λ (part : LongPart). nat_eq part.parameter parameter) parts

-- bytes go to the end of the part at a place
abbrev pub grown_at : List LongPart → (place : ℕ) → List ℕ → Option LongPart → List LongPart
grown_at parts place bytes None = parts
grown_at parts place bytes (Some part) = slice_set parts place (record { parameter = part.parameter; bytes = part.bytes ++ bytes })

abbrev pub joined : List LongPart → (parameter : ℕ) → List ℕ → Option ℕ → List LongPart
joined parts parameter bytes None = parts ++ record { parameter = parameter; bytes = bytes } ∷ []
joined parts parameter bytes (Some place) = grown_at parts place bytes (slice_get parts place)

-- bytes go to the end of their parameter's part
abbrev pub long_with : List LongPart → (parameter : ℕ) → List ℕ → List LongPart
long_with parts parameter bytes = joined parts parameter bytes (place_of parts parameter)

-- the parts, and how many bytes came
pub record Long : Type 0 where
  pub parts : List LongPart
  pub size : ℕ

abbrev pub no_long : Long
no_long = record { parts = []; size = 0 }

abbrev pub grown : Long → (parameter : ℕ) → List ℕ → Long
grown long parameter bytes = record { parts = long_with long.parts parameter bytes; size = long.size + length bytes }
