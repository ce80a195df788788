-- Functions whose calls matter.
use Rattle.std.specs.Prelude.{ℕ, Bool, false, ◌||◌, ◌&&◌, List, length, take, codes, Option, Some, None}
use Rattle.std.specs.List.{list_any}
use Rattle.sql_tokens.specs.Words.{bytes_of, inside, same_text, word_of, is_symbol}
use Rattle.sql_tokens.specs.declared.token.Token.{Token}
use Rattle.pin_classifier.specs.Statement.{is_double_quoted, is_wide, neighbours}
use Rattle.pin_classifier.specs.WordLists.{words_of}
use Rattle.pin_classifier.specs.declared.word_list.WordList.TheVariants.{LastFunctions, OwnFunctions, ThreadFunctions}

abbrev pub begins_with : (name prefix : List ℕ) → Bool
begins_with name prefix = same_text (take (length prefix) name) prefix

-- they take a lock that lives in a session
abbrev pub is_session_function : List ℕ → Bool
is_session_function name = same_text name (codes "GET_LOCK") || begins_with name (codes "service_get_") || begins_with name (codes "version_tokens_lock_")

abbrev pub names_session_function : Option (List ℕ) → Bool
names_session_function None = false
names_session_function (Some name) = is_session_function name

-- a call of such a function
abbrev pub calls_any : (text : List ℕ) → (test : Option (List ℕ) → Bool) → Token × Token → Bool
calls_any text test pair = test (word_of text pair.0) && is_symbol text pair.1 40

abbrev pub has_call_of : (text : List ℕ) → List Token → (test : Option (List ℕ) → Bool) → Bool
has_call_of text tokens test = list_any (calls_any text test) (neighbours tokens)

-- these, and those that are refused, or read or change what a session keeps; and one that may be read so
abbrev pub matters : List ℕ → Bool
matters name =
    is_session_function name
    || list_any (same_text name) (words_of ThreadFunctions)
    || list_any (same_text name) (words_of LastFunctions)
    || list_any (same_text name) (words_of OwnFunctions)
    || is_wide name

-- a quoted text in `"` that is the name of such a function where `"` quotes names, with `(` behind it
abbrev pub calls_quoted : (text : List ℕ) → Token × Token → Bool
calls_quoted text pair = is_double_quoted pair.0.kind (bytes_of text pair.0) && is_symbol text pair.1 40 && matters (inside (bytes_of text pair.0))

abbrev pub has_quoted_call : (text : List ℕ) → List Token → Bool
has_quoted_call text tokens = list_any (calls_quoted text) (neighbours tokens)
