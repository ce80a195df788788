-- The parts of a SET statement, and whether one sets anything of the whole server.
use Rattle.std.specs.Prelude.{ℕ, ◌+◌, ◌-◌, Bool, false, not, ◌&&◌, ◌||◌, nat_eq, List, [], ◌∷◌, take, drop, codes, Option, Some, None, if◌then◌else◌}
use Rattle.std.specs.List.{list_any, onto_first, prefix_len}
use Rattle.sql_tokens.specs.Words.{bytes_of, inside, same_text, is_symbol}
use Rattle.sql_tokens.specs.declared.token.Token.{Token}
use Rattle.sql_tokens.specs.declared.token.TokenKind.{TokenKind}
use Rattle.sql_tokens.specs.declared.token.TokenKind.TheVariants.{Word, Name, SysVar}
use Rattle.session_vars.specs.declared.set_tokens.SetTokens.{SetTokens}

-- the scopes of the whole server
abbrev pub server_scopes : List (List ℕ)
server_scopes = codes "GLOBAL" ∷ codes "PERSIST" ∷ codes "PERSIST_ONLY" ∷ []

abbrev pub is_server_scope : List ℕ → Bool
is_server_scope word = list_any (same_text word) server_scopes

-- what stands before the first `.`
abbrev pub before_dot : List ℕ → List ℕ
before_dot bytes = take (prefix_len (λ b. not (nat_eq b 46)) bytes) bytes

-- the word GLOBAL, PERSIST or PERSIST_ONLY, or a system variable whose first part is one of them
abbrev pub names_server : TokenKind → List ℕ → Bool
names_server Word bytes = is_server_scope bytes
names_server Name bytes = is_server_scope (inside bytes)
names_server SysVar bytes = is_server_scope (before_dot (drop 2 bytes))
names_server _ bytes = false

-- how many brackets are open behind a token; one that closes nothing is passed over
abbrev pub deeper : (text : List ℕ) → Token → (depth : ℕ) → ℕ
deeper text token depth = if is_symbol text token 40 then depth + 1 else if is_symbol text token 41 then depth - 1 else depth

-- a comma outside brackets
abbrev pub divides : (text : List ℕ) → (depth : ℕ) → Token → Bool
divides text depth token = is_symbol text token 44 && nat_eq depth 0

-- the tokens before the first such comma, and those behind it, where there is one
abbrev pub before_comma : (text : List ℕ) → (depth : ℕ) → List Token → List Token
before_comma text depth [] = []
before_comma text depth (token ∷ tokens) = if divides text depth token then [] else token ∷ before_comma text (deeper text token depth) tokens

abbrev pub behind_comma : (text : List ℕ) → (depth : ℕ) → List Token → Option (List Token)
behind_comma text depth [] = None
behind_comma text depth (token ∷ tokens) = if divides text depth token then Some tokens else behind_comma text (deeper text token depth) tokens

-- the parts that such commas divide
abbrev pub parts_of : (text : List ℕ) → (depth : ℕ) → List Token → List (List Token)
parts_of text depth [] = [] ∷ []
parts_of text depth (token ∷ tokens) = if divides text depth token then [] ∷ parts_of text 0 tokens else onto_first token (parts_of text (deeper text token depth) tokens)

-- a token that names the server is the first, where `first` says that one is due, or stands right behind a comma outside brackets
abbrev pub sets_server : (text : List ℕ) → (depth : ℕ) → (first : Bool) → List Token → Bool
sets_server text depth first [] = false
sets_server text depth first (token ∷ tokens) =
    (first && names_server token.kind (bytes_of text token)) || sets_server text (deeper text token depth) (divides text depth token) tokens

-- whether one of these tokens does, of which some were taken
abbrev pub server_set : (text : List ℕ) → SetTokens → Bool
server_set text tokens = tokens.sets_server || sets_server text tokens.depth tokens.is_due tokens.left
