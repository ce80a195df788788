-- The statements whose whole shape matters: SELECT CONNECTION_ID(), USE, and SET.
use Rattle.std.specs.Prelude.{ℕ, Bool, true, false, ◌&&◌, nat_eq, nat_lt, is_none, List, [], ◌∷◌, slice_get, codes, Option, Some, None, option_and_then, if◌then◌else◌}
use Rattle.std.specs.List.{list_all}
use Rattle.sql_tokens.specs.Words.{bytes_of, inside, says, is_symbol}
use Rattle.sql_tokens.specs.declared.token.Token.{Token}
use Rattle.sql_tokens.specs.declared.token.TokenKind.{TokenKind}
use Rattle.sql_tokens.specs.declared.token.TokenKind.TheVariants.{Word, Name}
use Rattle.session_vars.specs.Shapes.{set_shape}
use Rattle.session_vars.specs.declared.shape.SetShape.{SetShape}
use Rattle.session_vars.specs.declared.shape.SetShape.TheVariants.{NotSet}
use Rattle.pin_classifier.specs.Statement.{statement}
use Rattle.pin_classifier.specs.declared.class.Shape.{Shape}
use Rattle.pin_classifier.specs.declared.class.Shape.TheVariants.{ConnectionId, Use, Set, Other}

-- a token that is there and says this word
abbrev pub is_there : (text : List ℕ) → Option Token → (word : List ℕ) → Bool
is_there text None word = false
is_there text (Some token) word = says text token word

-- a token that is there and is this byte
abbrev pub is_byte : (text : List ℕ) → Option Token → (byte : ℕ) → Bool
is_byte text None byte = false
is_byte text (Some token) byte = is_symbol text token byte

-- nothing, or one `;` and nothing
abbrev pub is_end : (text : List ℕ) → (token more : Option Token) → Bool
is_end text None more = true
is_end text (Some token) more = is_symbol text token 59 && is_none more

-- the tokens are SELECT, CONNECTION_ID, `(`, `)` and at most a `;`
unfoldable pub asks_connection_id : (text : List ℕ) → List Token → Bool
asks_connection_id text tokens = is_there text (slice_get tokens 0) (codes "SELECT") && is_there text (slice_get tokens 1) (codes "CONNECTION_ID") && is_byte text (slice_get tokens 2) 40 && is_byte text (slice_get tokens 3) 41 && is_end text (slice_get tokens 4) (slice_get tokens 5)

-- what stands between backticks, a doubled backtick being one
abbrev pub undoubled : List ℕ → List ℕ
undoubled [] = []
undoubled (b ∷ []) = b ∷ []
undoubled (b ∷ c ∷ bytes) = if nat_eq b 96 && nat_eq c 96 then b ∷ undoubled bytes else b ∷ undoubled (c ∷ bytes)

-- the name that a word or a name in backticks denotes
abbrev pub denoted_by : TokenKind → List ℕ → Option (List ℕ)
denoted_by Word bytes = Some bytes
denoted_by Name bytes = Some (undoubled (inside bytes))
denoted_by _ bytes = None

abbrev pub denoted : (text : List ℕ) → Token → Option (List ℕ)
denoted text token = denoted_by token.kind (bytes_of text token)

-- the tokens are USE, a word or a name in backticks, and at most a `;`: the schema that is used then
unfoldable pub used_schema : (text : List ℕ) → List Token → Option (List ℕ)
used_schema text tokens = if is_there text (slice_get tokens 0) (codes "USE") && is_end text (slice_get tokens 2) (slice_get tokens 3) then option_and_then (denoted text) (slice_get tokens 1) else None

-- a name in ASCII alone: what a server makes of other bytes depends on the connection
abbrev pub use_or_other : Option (List ℕ) → Shape
use_or_other None = Other
use_or_other (Some schema) = if list_all (λ b. nat_lt b 128) schema then Use schema else Other

-- the shape of a statement
unfoldable pub shape_of : (text : List ℕ) → Shape
shape_of text =
    if is_there text (slice_get (statement text) 0) (codes "SET") then Set (set_shape text)
    else if asks_connection_id text (statement text) then ConnectionId
    else use_or_other (used_schema text (statement text))

-- what a shape is as a SET statement
abbrev pub set_in : Shape → SetShape
set_in (Set shape) = shape
set_in _ = NotSet
