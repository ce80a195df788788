-- What tokens say.
use Rattle.std.specs.Prelude.{◌≡◌, ℕ, ◌-◌, Bool, true, false, ◌&&◌, bytes_eq, List, [], ◌∷◌, length, map, slice_range, Option, Some, None, IsSomeAnd}
use Rattle.std.specs.Char.{to_ascii_lowercase}
use Rattle.sql_tokens.specs.declared.token.Token.{Token}
use Rattle.sql_tokens.specs.declared.token.TokenKind.{TokenKind}
use Rattle.sql_tokens.specs.declared.token.TokenKind.TheVariants.{Word, Name, Symbol}

-- the bytes of a token
abbrev pub bytes_of : (text : List ℕ) → Token → List ℕ
bytes_of text token = slice_range text token.start token.end

-- what stands between the first byte and the last one
abbrev pub inside : List ℕ → List ℕ
inside bytes = slice_range bytes 1 (length bytes - 1)

-- a Word's bytes, or what stands between the backticks of a Name
abbrev pub word_by : TokenKind → List ℕ → Option (List ℕ)
word_by Word bytes = Some bytes
word_by Name bytes = Some (inside bytes)
word_by _ bytes = None

abbrev pub word_of : (text : List ℕ) → Token → Option (List ℕ)
word_of text token = word_by token.kind (bytes_of text token)

-- the token names this word, without regard to ASCII case
abbrev pub NamesWord : (text : List ℕ) → Token → (word : List ℕ) → Type 0
NamesWord text token word = IsSomeAnd (word_of text token) (λ named. map to_ascii_lowercase named ≡ map to_ascii_lowercase word)

-- two texts are one without regard to ASCII case
abbrev pub same_text : List ℕ → List ℕ → Bool
same_text a b = bytes_eq (map to_ascii_lowercase a) (map to_ascii_lowercase b)

abbrev pub is_word : Option (List ℕ) → (word : List ℕ) → Bool
is_word None word = false
is_word (Some named) word = same_text named word

-- the token is this word, in any case, in backticks or not
abbrev pub says : (text : List ℕ) → Token → (word : List ℕ) → Bool
says text token word = is_word (word_of text token) word

abbrev pub is_symbol_kind : TokenKind → Bool
is_symbol_kind Symbol = true
is_symbol_kind _ = false

-- the token is this one byte
abbrev pub is_symbol : (text : List ℕ) → Token → (byte : ℕ) → Bool
is_symbol text token byte = is_symbol_kind token.kind && bytes_eq (bytes_of text token) (byte ∷ [])
