-- What one pass over a statement sees: its first tokens, and what stands anywhere in it.
use Rattle.std.specs.Prelude.{ℕ, Bool, false, not, ◌||◌, ◌&&◌, is_none, List, [], ◌∷◌, slice_get, codes, Option, Some, None, if◌then◌else◌}
use Rattle.sql_tokens.specs.Words.{word_of, is_word, says, is_symbol}
use Rattle.sql_tokens.specs.declared.token.Token.{Token}
use Rattle.pin_classifier.specs.WordLists.{is_any}
use Rattle.pin_classifier.specs.declared.word_list.WordList.TheVariants as lists
use Rattle.pin_classifier.specs.Functions.{calls_quoted, has_call_of, has_quoted_call, names_session_function}
use Rattle.pin_classifier.specs.Statement.{has_user_variable, has_word, has_call, has_release, has_variable, has_wide_variable, has_unread, has_from, is_from, is_unread, is_part, is_variable_behind, is_wide_name, variable_of}
use Rattle.pin_classifier.specs.declared.calls.Calls.{Calls}
use Rattle.pin_classifier.specs.declared.opening.Opening.{Opening}
use Rattle.pin_classifier.specs.declared.seen.Seen.{Seen}
use Rattle.pin_classifier.specs.declared.variables.Variables.{Variables}

-- the first six tokens
abbrev pub opening_of : List Token → Opening
opening_of tokens = record { first = slice_get tokens 0; second = slice_get tokens 1; third = slice_get tokens 2; fourth = slice_get tokens 3; fifth = slice_get tokens 4; sixth = slice_get tokens 5 }

-- with one token more, where there is room
abbrev pub with_token : Opening → Token → Opening
with_token opening token =
    if not (is_none opening.sixth) then opening
    else if is_none opening.first then record opening { first = Some token }
    else if is_none opening.second then record opening { second = Some token }
    else if is_none opening.third then record opening { third = Some token }
    else if is_none opening.fourth then record opening { fourth = Some token }
    else if is_none opening.fifth then record opening { fifth = Some token }
    else record opening { sixth = Some token }

-- the function that a `(` behind a token calls
abbrev pub callee : (text : List ℕ) → (before : Option Token) → Token → Option (List ℕ)
callee text None token = None
callee text (Some before) token = if is_symbol text token 40 then word_of text before else None

-- a RELEASE behind a token that isn't NO
abbrev pub is_release : (text : List ℕ) → (before : Option Token) → (word : Option (List ℕ)) → Bool
is_release text None word = false
is_release text (Some before) word = is_word word (codes "RELEASE") && not (says text before (codes "NO"))

-- a `(` behind such a quoted text in `"`
abbrev pub is_quoted_call : (text : List ℕ) → (before : Option Token) → Token → Bool
is_quoted_call text None token = false
is_quoted_call text (Some before) token = calls_quoted text (before, token)

-- a user variable, behind a token that is no quoted text
abbrev pub is_variable : (before : Option Token) → Token → Bool
is_variable None token = false
is_variable (Some before) token = is_variable_behind (before, token)

-- the functions that are called
abbrev pub calls_of : (text : List ℕ) → List Token → Calls
calls_of text tokens = record { session_function = has_call_of text tokens names_session_function; thread_function = has_call_of text tokens (is_any lists.ThreadFunctions); last_function = has_call_of text tokens (is_any lists.LastFunctions); from_function = has_call_of text tokens (is_any lists.FromFunctions); connection_id = has_call text tokens (codes "CONNECTION_ID"); last_insert_id = has_call text tokens (codes "LAST_INSERT_ID"); row_count = has_call text tokens (codes "ROW_COUNT"); found_rows = has_call text tokens (codes "FOUND_ROWS") }

abbrev pub with_call : Calls → Option (List ℕ) → Calls
with_call calls name = record { session_function = calls.session_function || names_session_function name; thread_function = calls.thread_function || is_any lists.ThreadFunctions name; last_function = calls.last_function || is_any lists.LastFunctions name; from_function = calls.from_function || is_any lists.FromFunctions name; connection_id = calls.connection_id || is_word name (codes "CONNECTION_ID"); last_insert_id = calls.last_insert_id || is_word name (codes "LAST_INSERT_ID"); row_count = calls.row_count || is_word name (codes "ROW_COUNT"); found_rows = calls.found_rows || is_word name (codes "FOUND_ROWS") }

-- the system variables that are named
abbrev pub variables_of : (text : List ℕ) → List Token → Variables
variables_of text tokens = record { last_insert_id = has_variable text tokens (codes "last_insert_id"); identity = has_variable text tokens (codes "identity"); warning_count = has_variable text tokens (codes "warning_count"); error_count = has_variable text tokens (codes "error_count"); pseudo_thread_id = has_variable text tokens (codes "pseudo_thread_id"); last_gtid = has_variable text tokens (codes "last_gtid"); wide = has_wide_variable text tokens }

abbrev pub with_variable : Variables → Option (List ℕ) → Variables
with_variable variables name = record { last_insert_id = variables.last_insert_id || is_part name (codes "last_insert_id"); identity = variables.identity || is_part name (codes "identity"); warning_count = variables.warning_count || is_part name (codes "warning_count"); error_count = variables.error_count || is_part name (codes "error_count"); pseudo_thread_id = variables.pseudo_thread_id || is_part name (codes "pseudo_thread_id"); last_gtid = variables.last_gtid || is_part name (codes "last_gtid"); wide = variables.wide || is_wide_name name }

-- what is seen of a statement
abbrev pub seen_of : (text : List ℕ) → List Token → Seen
seen_of text tokens = record { opening = opening_of tokens; unread = has_unread text tokens; calls = calls_of text tokens; variables = variables_of text tokens; temporary = has_word text tokens (codes "TEMPORARY"); release = has_release text tokens; calc_rows = has_word text tokens (codes "SQL_CALC_FOUND_ROWS"); returning = has_word text tokens (codes "RETURNING"); value = has_word text tokens (codes "VALUE"); from = has_from text tokens; dual = has_word text tokens (codes "DUAL"); into = has_word text tokens (codes "INTO"); quoted_call = has_quoted_call text tokens; user_variable = has_user_variable text tokens }

-- what is seen once a token more went by, behind the one before it
abbrev pub with_next : (text : List ℕ) → Seen → (before : Option Token) → Token → Seen
with_next text seen before token = record { opening = with_token seen.opening token; unread = seen.unread || is_unread text token; calls = with_call seen.calls (callee text before token); variables = with_variable seen.variables (variable_of text token); temporary = seen.temporary || says text token (codes "TEMPORARY"); release = seen.release || is_release text before (word_of text token); calc_rows = seen.calc_rows || says text token (codes "SQL_CALC_FOUND_ROWS"); returning = seen.returning || says text token (codes "RETURNING"); value = seen.value || says text token (codes "VALUE"); from = seen.from || is_from text token; dual = seen.dual || says text token (codes "DUAL"); into = seen.into || says text token (codes "INTO"); quoted_call = seen.quoted_call || is_quoted_call text before token; user_variable = seen.user_variable || is_variable before token }

abbrev pub seen_behind : (text : List ℕ) → Seen → (before : Option Token) → List Token → Seen
seen_behind text seen before [] = seen
seen_behind text seen before (token ∷ tokens) = seen_behind text (with_next text seen before token) (Some token) tokens
