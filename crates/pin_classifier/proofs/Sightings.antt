-- What a pass over a statement has seen at its end.
use Rattle.std.proofs.Common.{◌≡◌, ℕ, Bool, false, ◌||◌, List, [], Option, None, codes, refl}
use Rattle.sql_tokens.specs.declared.token.Token.{Token}
use Rattle.sql_tokens.specs.Words.{is_word, says, word_of}
use Rattle.pin_classifier.specs.Passing.{callee, is_quoted_call, is_release, is_variable, seen_of, seen_behind, with_next}
use Rattle.pin_classifier.specs.WordLists.{is_any}
use Rattle.pin_classifier.specs.declared.word_list.WordList.TheVariants as lists
use Rattle.pin_classifier.specs.Functions.{calls_quoted, calls_any, has_call_of, names_session_function}
use Rattle.pin_classifier.specs.Statement.{calls, has_call, has_variable, has_word, is_from, is_part, is_unread, is_variable_behind, is_wide_name, releases, variable_of}
use Rattle.pin_classifier.specs.declared.seen.Seen.{Seen}
use Rattle.pin_classifier.proofs.Anywhere.{seen_token, seen_pair, callee_is, callee_passes}
use Rattle.pin_classifier.proofs.Firsts.{opening_seen}

abbrev nothing : Seen
nothing = seen_of [] []

call_seen : (text : List ℕ) (field : Seen → Bool) (name : List ℕ) → ((seen : Seen) (before : Option Token) (token : Token) → field (with_next text seen before token) ≡ (field seen || is_word (callee text before token) name)) → field nothing ≡ false → (tokens : List Token) → field (seen_behind text nothing None tokens) ≡ has_call text tokens name
call_seen text field name step none tokens = seen_pair text field (λ before token. is_word (callee text before token) name) (calls text name) nothing step none (λ _. refl) (callee_is text name) tokens

-- the same of functions that pass a test
call_of_seen : (text : List ℕ) (field : Seen → Bool) (test : Option (List ℕ) → Bool) → test None ≡ false → ((seen : Seen) (before : Option Token) (token : Token) → field (with_next text seen before token) ≡ (field seen || test (callee text before token))) → field nothing ≡ false → (tokens : List Token) → field (seen_behind text nothing None tokens) ≡ has_call_of text tokens test
call_of_seen text field test absent step none tokens = seen_pair text field (λ before token. test (callee text before token)) (calls_any text test) nothing step none (λ _. absent) (callee_passes text test absent) tokens

variable_seen : (text : List ℕ) (field : Seen → Bool) (part : List ℕ) → ((seen : Seen) (before : Option Token) (token : Token) → field (with_next text seen before token) ≡ (field seen || is_part (variable_of text token) part)) → field nothing ≡ false → (tokens : List Token) → field (seen_behind text nothing None tokens) ≡ has_variable text tokens part
variable_seen text field part step none tokens = seen_token text field (λ token. is_part (variable_of text token) part) nothing step none tokens

word_seen : (text : List ℕ) (field : Seen → Bool) (word : List ℕ) → ((seen : Seen) (before : Option Token) (token : Token) → field (with_next text seen before token) ≡ (field seen || says text token word)) → field nothing ≡ false → (tokens : List Token) → field (seen_behind text nothing None tokens) ≡ has_word text tokens word
word_seen text field word step none tokens = seen_token text field (λ token. says text token word) nothing step none tokens

-- from nothing on, what is seen is what stands in the statement
pub seen_is : (text : List ℕ) (tokens : List Token) → seen_behind text nothing None tokens ≡ seen_of text tokens
seen_is text tokens =
    let call : (field : Seen → Bool) (name : List ℕ) → ((seen : Seen) (before : Option Token) (token : Token) → field (with_next text seen before token) ≡ (field seen || is_word (callee text before token) name)) → field nothing ≡ false → field (seen_behind text nothing None tokens) ≡ has_call text tokens name = λ field name step none. call_seen text field name step none tokens in
    let call_of : (field : Seen → Bool) (test : Option (List ℕ) → Bool) → test None ≡ false → ((seen : Seen) (before : Option Token) (token : Token) → field (with_next text seen before token) ≡ (field seen || test (callee text before token))) → field nothing ≡ false → field (seen_behind text nothing None tokens) ≡ has_call_of text tokens test = λ field test absent step none. call_of_seen text field test absent step none tokens in
    let variable : (field : Seen → Bool) (part : List ℕ) → ((seen : Seen) (before : Option Token) (token : Token) → field (with_next text seen before token) ≡ (field seen || is_part (variable_of text token) part)) → field nothing ≡ false → field (seen_behind text nothing None tokens) ≡ has_variable text tokens part = λ field part step none. variable_seen text field part step none tokens in
    λ i. record {
      opening = opening_seen text nothing None tokens refl i;
      unread = seen_token text (λ seen. seen.unread) (is_unread text) nothing (λ _ _ _. refl) refl tokens i;
      calls = record {
        session_function = call_of (λ seen. seen.calls.session_function) names_session_function refl (λ _ _ _. refl) refl i;
        thread_function = call_of (λ seen. seen.calls.thread_function) (is_any lists.ThreadFunctions) refl (λ _ _ _. refl) refl i;
        last_function = call_of (λ seen. seen.calls.last_function) (is_any lists.LastFunctions) refl (λ _ _ _. refl) refl i;
        from_function = call_of (λ seen. seen.calls.from_function) (is_any lists.FromFunctions) refl (λ _ _ _. refl) refl i;
        connection_id = call (λ seen. seen.calls.connection_id) (codes "CONNECTION_ID") (λ _ _ _. refl) refl i;
        last_insert_id = call (λ seen. seen.calls.last_insert_id) (codes "LAST_INSERT_ID") (λ _ _ _. refl) refl i;
        row_count = call (λ seen. seen.calls.row_count) (codes "ROW_COUNT") (λ _ _ _. refl) refl i;
        found_rows = call (λ seen. seen.calls.found_rows) (codes "FOUND_ROWS") (λ _ _ _. refl) refl i;
      };
      variables = record {
        last_insert_id = variable (λ seen. seen.variables.last_insert_id) (codes "last_insert_id") (λ _ _ _. refl) refl i;
        identity = variable (λ seen. seen.variables.identity) (codes "identity") (λ _ _ _. refl) refl i;
        warning_count = variable (λ seen. seen.variables.warning_count) (codes "warning_count") (λ _ _ _. refl) refl i;
        error_count = variable (λ seen. seen.variables.error_count) (codes "error_count") (λ _ _ _. refl) refl i;
        pseudo_thread_id = variable (λ seen. seen.variables.pseudo_thread_id) (codes "pseudo_thread_id") (λ _ _ _. refl) refl i;
        last_gtid = variable (λ seen. seen.variables.last_gtid) (codes "last_gtid") (λ _ _ _. refl) refl i;
        wide = seen_token text (λ seen. seen.variables.wide) (λ token. is_wide_name (variable_of text token)) nothing (λ _ _ _. refl) refl tokens i;
      };
      temporary = word_seen text (λ seen. seen.temporary) (codes "TEMPORARY") (λ _ _ _. refl) refl tokens i;
      release = seen_pair text (λ seen. seen.release) (λ before token. is_release text before (word_of text token)) (releases text) nothing (λ _ _ _. refl) refl (λ _. refl) (λ _ _. refl) tokens i;
      calc_rows = word_seen text (λ seen. seen.calc_rows) (codes "SQL_CALC_FOUND_ROWS") (λ _ _ _. refl) refl tokens i;
      returning = word_seen text (λ seen. seen.returning) (codes "RETURNING") (λ _ _ _. refl) refl tokens i;
      value = word_seen text (λ seen. seen.value) (codes "VALUE") (λ _ _ _. refl) refl tokens i;
      from = seen_token text (λ seen. seen.from) (is_from text) nothing (λ _ _ _. refl) refl tokens i;
      dual = word_seen text (λ seen. seen.dual) (codes "DUAL") (λ _ _ _. refl) refl tokens i;
      into = word_seen text (λ seen. seen.into) (codes "INTO") (λ _ _ _. refl) refl tokens i;
      quoted_call = seen_pair text (λ seen. seen.quoted_call) (is_quoted_call text) (calls_quoted text) nothing (λ _ _ _. refl) refl (λ _. refl) (λ _ _. refl) tokens i;
      user_variable = seen_pair text (λ seen. seen.user_variable) is_variable is_variable_behind nothing (λ _ _ _. refl) refl (λ _. refl) (λ _ _. refl) tokens i;
    }
