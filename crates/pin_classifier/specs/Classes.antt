-- The class of a statement: what it does to the session in which it runs, and what it reads there.
use Rattle.std.specs.Prelude.{ℕ, Bool, true, false, not, ◌||◌, ◌&&◌, List, slice_get, codes, Option, Some, None, if◌then◌else◌}
use Rattle.std.specs.List.{list_any}
use Rattle.session_vars.specs.Shapes.{set_shape}
use Rattle.sql_tokens.specs.Words.{is_word}
use Rattle.session_vars.specs.declared.shape.SetShape.{SetShape}
use Rattle.session_vars.specs.declared.shape.SetShape.TheVariants.{Tracked, Global, NextTransaction, Other}
use Rattle.pin_classifier.specs.WordLists.{is_any}
use Rattle.pin_classifier.specs.declared.word_list.WordList.TheVariants as lists
use Rattle.pin_classifier.specs.Diagnostics.{has_any}
use Rattle.pin_classifier.specs.Functions.{has_call_of, has_quoted_call, names_session_function}
use Rattle.pin_classifier.specs.Judged.{judged}
use Rattle.pin_classifier.specs.Marks.{is_other_blank, stands}
use Rattle.pin_classifier.specs.Shapes.{is_end, shape_of}
use Rattle.pin_classifier.specs.Starts.{begins_unknown, analyzes_other, changes_schema, explains, flushes_other, gives_rows, goes_back, returns_rows, shows_connection, starts_other, writes_tables, locks_tables, unlocks_tables, locks_other, ends_transaction, is_savepoint, makes_id, names_accounts, shows_diagnostics, stores, subject}
use Rattle.pin_classifier.specs.Statement.{statement, first_word, next_word, has_from, has_word, has_call, has_release, has_variable, has_wide_variable, has_unread, has_user_variable}
use Rattle.pin_classifier.specs.declared.class.Class.{Class}
use Rattle.pin_classifier.specs.declared.class.Locking.{Locking}
use Rattle.pin_classifier.specs.declared.class.Locking.TheVariants.{None as Neither, Takes, Frees}
use Rattle.pin_classifier.specs.declared.class.Refusal.{Refusal}
use Rattle.pin_classifier.specs.declared.class.Refusal.TheVariants.{SetsServer, NamesConnection, ReadsLast}
use Rattle.pin_classifier.specs.declared.marks.Mark.TheVariants.{GivenId, PreviousValue, ForConnection, BlankInWord, Diagnostic, Lasting, Event}
use Rattle.pin_classifier.specs.declared.class.Shape.{Shape}
use Rattle.pin_classifier.specs.declared.class.Shape.TheVariants.{ConnectionId, Use}

abbrev pub is_global : SetShape → Bool
is_global Global = true
is_global _ = false

abbrev pub is_next_transaction : SetShape → Bool
is_next_transaction NextTransaction = true
is_next_transaction _ = false

abbrev pub is_other : SetShape → Bool
is_other Other = true
is_other _ = false

abbrev pub is_tracked : SetShape → Bool
is_tracked (Tracked changes) = true
is_tracked _ = false

abbrev pub is_connection_id : Shape → Bool
is_connection_id ConnectionId = true
is_connection_id _ = false

abbrev pub is_use : Shape → Bool
is_use (Use schema) = true
is_use _ = false

-- the first word of a statement, and the one behind it
abbrev pub first : (text : List ℕ) → Option (List ℕ)
first text = first_word text (slice_get (statement text) 0)

abbrev pub second : (text : List ℕ) → Option (List ℕ)
second text = next_word text (slice_get (statement text) 1)

abbrev pub third : (text : List ℕ) → Option (List ℕ)
third text = next_word text (slice_get (statement text) 2)

abbrev pub fourth : (text : List ℕ) → Option (List ℕ)
fourth text = next_word text (slice_get (statement text) 3)

-- tables that only the session sees: CREATE with the word TEMPORARY
unfoldable pub makes_temporary : (text : List ℕ) → Bool
makes_temporary text = is_word (first text) (codes "CREATE") && has_word text (statement text) (codes "TEMPORARY")

-- the session's end: COMMIT or ROLLBACK with a word RELEASE that doesn't follow NO
unfoldable pub ends_session : (text : List ℕ) → Bool
ends_session text = has_release text (statement text) && ends_transaction (first text)

-- USE without the shape of it
unfoldable pub uses_other : (text : List ℕ) → Bool
uses_other text = is_word (first text) (codes "USE") && not (is_use (shape_of text))

-- a call of LAST_INSERT_ID with an argument
unfoldable pub gives_id : (text : List ℕ) → Bool
gives_id text = has_call text (statement text) (codes "LAST_INSERT_ID") && stands text GivenId

-- A server may read it as another statement: it has an executed comment, what isn't closed, half of a system variable, a NUL byte,
-- an escaped `"` within a text in `"`, such a text that may be the name of a function that matters, or a word or a variable's name with a
-- byte A0 or FF. Of a tracked SET each token is read, and its comments are names.
unfoldable pub is_unread_text : (text : List ℕ) → Bool
is_unread_text text =
    (has_unread text (statement text) && not (is_tracked (set_shape text)))
    || has_quoted_call text (statement text)
    || (list_any is_other_blank text && stands text BlankInWord)

-- No user variable lives there: an `@` is part of an account, or stands in what isn't run yet. The times of an event are worked
-- out at once.
unfoldable pub spares_variables : (text : List ℕ) → Bool
spares_variables text =
    names_accounts (first text) (subject (second text) (third text) (fourth text))
    || (stores (first text) (subject (second text) (third text) (fourth text)) && not (stands text Event))

-- something in it lives in a session, or can't be read as a server does
unfoldable pub is_deep_inside : (text : List ℕ) → Bool
is_deep_inside text =
    is_unread_text text
    || (has_user_variable text (statement text) && not (spares_variables text))
    || has_call_of text (statement text) names_session_function
    || has_quoted_call text (statement text)
    || has_wide_variable text (statement text)
    || (gives_id text && not (gives_rows (first text)))

-- BEGIN but for BEGIN, BEGIN WORK and a `;`
unfoldable pub begins_other : (text : List ℕ) → Bool
begins_other text = is_word (first text) (codes "BEGIN") && not (is_word (second text) (codes "WORK")) && not (is_end text (slice_get (statement text) 1) (slice_get (statement text) 2))

-- so it begins
unfoldable pub is_deep_start : (text : List ℕ) → Bool
is_deep_start text =
    makes_temporary text
    || changes_schema (first text) (second text) (third text) (fourth text)
    || ends_session text
    || starts_other (first text) (second text)
    || begins_other text
    || analyzes_other (first text) (second text) (third text)
    || locks_other (first text) (second text)
    || flushes_other (first text) (second text)
    || begins_unknown text (slice_get (statement text) 0)

-- the statement may change its session in a way that isn't tracked
unfoldable pub is_deep : (text : List ℕ) → Bool
is_deep text = is_deep_inside text || is_deep_start text || is_other (set_shape text) || uses_other text

-- No reset takes back what a deep one may do that can't be read, isn't known, or sets what lasts or how statements are read.
unfoldable pub may_last : (text : List ℕ) → Bool
may_last text =
    is_unread_text text
    || begins_unknown text (slice_get (statement text) 0)
    || begins_other text
    || flushes_other (first text) (second text)
    || (is_other (set_shape text) && stands text Lasting)

-- so a session in which it ran is closed, and not reset
unfoldable pub outlasts : (text : List ℕ) → Bool
outlasts text = is_deep text && may_last text

-- LOCK TABLES takes locks, UNLOCK TABLES frees them
unfoldable pub locking_of : (first second : Option (List ℕ)) → Locking
locking_of first second = if locks_tables first second then Takes else if unlocks_tables first second then Frees else Neither

-- it reads the insert id: a call of LAST_INSERT_ID, or a variable last_insert_id or identity
unfoldable pub reads_id : (text : List ℕ) → Bool
reads_id text = has_call text (statement text) (codes "LAST_INSERT_ID") || has_variable text (statement text) (codes "last_insert_id") || has_variable text (statement text) (codes "identity")

-- it reads or may set the insert id
unfoldable pub marks_id : (text : List ℕ) → Bool
marks_id text = reads_id text || is_deep text || makes_id (first text)

-- it sets the insert id where its reply doesn't show it: LAST_INSERT_ID with an argument in INSERT, REPLACE or UPDATE, or
-- RETURNING in INSERT or REPLACE
unfoldable pub sets_id : (text : List ℕ) → Bool
sets_id text = (gives_id text && gives_rows (first text)) || (returns_rows (first text) && has_word text (statement text) (codes "RETURNING"))

-- it has words of diagnostics, and may be read as another statement; or it may run others, and SHOW WARNINGS or its like stands
-- among them
unfoldable pub hides_diagnostics : (text : List ℕ) → Bool
hides_diagnostics text = (is_unread_text text && has_any lists.Diagnostics text) || (outlasts text && stands text Diagnostic)

-- it reads what the statement before it left: a call of ROW_COUNT or FOUND_ROWS, SHOW WARNINGS and its like, a variable
-- warning_count or error_count, or one whose name may be read so; where it may be read otherwise, each word of these; and what
-- it may run that does
unfoldable pub reads_diagnostics : (text : List ℕ) → Bool
reads_diagnostics text =
    has_call text (statement text) (codes "ROW_COUNT")
    || has_call text (statement text) (codes "FOUND_ROWS")
    || shows_diagnostics (first text) (second text)
    || has_variable text (statement text) (codes "warning_count")
    || has_variable text (statement text) (codes "error_count")
    || has_wide_variable text (statement text)
    || hides_diagnostics text

-- it may read how many rows an earlier statement found
unfoldable pub reads_found : (text : List ℕ) → Bool
reads_found text = has_call text (statement text) (codes "FOUND_ROWS") || hides_diagnostics text

-- It surely uses a table: it writes to one, or is a SELECT with FROM outside of the functions that take one, and not from
-- DUAL.
unfoldable pub uses_table : (text : List ℕ) → Bool
uses_table text =
    (is_word (first text) (codes "SELECT") && has_from text (statement text) && not (has_word text (statement text) (codes "DUAL")) && not (has_call_of text (statement text) (is_any lists.FromFunctions)))
    || writes_tables (first text) (second text)

-- Behind it older warnings and counts of changed rows may stand: servers clear them with a statement that uses a table.
unfoldable pub keeps_diagnostics : (text : List ℕ) → Bool
keeps_diagnostics text = is_unread_text text || not (uses_table text)

-- Behind it an older FOUND_ROWS() may stand: it is counted by a SELECT whose rows are sent to the client.
unfoldable pub keeps_found : (text : List ℕ) → Bool
keeps_found text = is_unread_text text || not (is_word (first text) (codes "SELECT")) || has_word text (statement text) (codes "INTO")

-- COMMIT, or ROLLBACK but for ROLLBACK TO a savepoint
unfoldable pub ends_transaction_of : (text : List ℕ) → Bool
ends_transaction_of text = ends_transaction (first text) && not (is_unread_text text) && not (goes_back (second text) (third text))

-- it names a connection: KILL, a call of CONNECTION_ID but for SELECT CONNECTION_ID(), a call of a function that names the
-- session's thread, a variable pseudo_thread_id, EXPLAIN FOR CONNECTION, SHOW EXPLAIN or SHOW ANALYZE
unfoldable pub names_connection : (text : List ℕ) → Bool
names_connection text =
    is_word (first text) (codes "KILL")
    || (has_call text (statement text) (codes "CONNECTION_ID") && not (is_connection_id (shape_of text)))
    || has_call_of text (statement text) (is_any lists.ThreadFunctions)
    || has_variable text (statement text) (codes "pseudo_thread_id")
    || shows_connection (first text) (second text)
    || (explains (first text) && stands text ForConnection)

-- it reads the last value of a sequence, or the transaction that was written or seen last; where it may be read otherwise,
-- it has a word of these
unfoldable pub reads_last : (text : List ℕ) → Bool
reads_last text =
    has_call_of text (statement text) (is_any lists.LastFunctions)
    || has_variable text (statement text) (codes "last_gtid")
    || (has_word text (statement text) (codes "VALUE") && stands text PreviousValue)
    || (is_unread_text text && has_any lists.LastValues text)

-- why it is refused: where it sets something of the whole server, else where it names a connection, else where it reads a
-- last value
unfoldable pub refusal_of : (text : List ℕ) → Option Refusal
refusal_of text =
    if is_global (set_shape text) then Some SetsServer
    else if names_connection text then Some NamesConnection
    else if reads_last text then Some ReadsLast
    else None

-- the class of a statement that has no front
abbrev pub class_by_itself : (text : List ℕ) → Class
class_by_itself text = record {
  deep = is_deep text;
  locks = locking_of (first text) (second text);
  next_tx = is_next_transaction (set_shape text);
  savepoint = is_savepoint (first text);
  ends_tx = ends_transaction_of text;
  outlasts_reset = outlasts text;
  marks_id = marks_id text;
  sets_id = sets_id text;
  reads_id = reads_id text;
  reads_diag = reads_diagnostics text;
  reads_found = reads_found text;
  keeps_diag = keeps_diagnostics text;
  keeps_found = keeps_found text;
  calc_rows = has_word text (statement text) (codes "SQL_CALC_FOUND_ROWS");
  refusal = refusal_of text;
  shape = shape_of text;
}

-- the class of a statement: that of the text by which it is judged
unfoldable pub class_of : (text : List ℕ) → Class
class_of text = class_by_itself (judged text)
