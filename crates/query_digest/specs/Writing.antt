-- What is held back while a digest is written: a value or a list, and maybe a comma behind it.
use Rattle.std.specs.Prelude.{Bool, true, List, [], ◌∷◌, Option, Some, None, if◌then◌else◌}
use Rattle.query_digest.specs.declared.writer.Piece.{Piece}
use Rattle.query_digest.specs.declared.writer.Piece.TheVariants.{Value as value, Comma as comma, Other as other}
use Rattle.query_digest.specs.declared.writer.Held.{Held}
use Rattle.query_digest.specs.Parts.{Part, Spaced}
use Rattle.query_digest.specs.Parts.Part.{Value, Values, Comma, Bytes}

abbrev pub part_of : Piece → Part
part_of value = Value
part_of comma = Comma
part_of (other bytes) = Bytes bytes.now

abbrev pub held_comma : Option Bool → List Spaced
held_comma None = []
held_comma (Some apart) = record { apart = apart; part = Comma } ∷ []

abbrev pub held_values : Held → Spaced
held_values held = record { apart = held.apart; part = if held.many then Values else Value }

abbrev pub held_parts : Option Held → List Spaced
held_parts None = []
held_parts (Some held) = held_values held ∷ held_comma held.comma

-- what is held once a part behind it belongs to it: a comma behind values, and a value behind that comma
abbrev pub grown_by : Held → Option Bool → (apart : Bool) → Part → Option Held
grown_by held None apart Comma = Some (record held { comma = Some apart })
grown_by held (Some before) apart Value = Some (record held { many = true; comma = None })
grown_by held (Some before) apart Values = Some (record held { many = true; comma = None })
grown_by held _ apart _ = None

abbrev pub grown : Option Held → (apart : Bool) → Part → Option Held
grown None apart part = None
grown (Some held) apart part = grown_by held held.comma apart part
