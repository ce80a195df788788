-- The forms of statements. A text has a form where its tokens are those of the form, one by one.
use Rattle.std.specs.Prelude.{ℕ, Bool, ◌&&◌, ◌||◌, nat_eq, nat_le, bytes_eq, List, [], ◌∷◌, ◌++◌, codes, drop, length, slice_index_or, Option, Some, None, if◌then◌else◌}
use Rattle.mx_base.specs.Pieces.{pieces}
use Rattle.sql_tokens.specs.Tokens.{tokens_of}
use Rattle.sql_tokens.specs.Words.{bytes_of, inside, says}
use Rattle.sql_tokens.specs.declared.token.Token.{Token}
use Rattle.sql_tokens.specs.declared.token.TokenKind.{TokenKind}
use Rattle.sql_tokens.specs.declared.token.TokenKind.TheVariants as kinds
use Rattle.mem_rule.specs.declared.form.Captured.{Captured}
use Rattle.mem_rule.specs.declared.form.Captured.TheVariants.{Differs, Fixed, Value}
use Rattle.mem_rule.specs.declared.form.Form.{Form}
use Rattle.mem_rule.specs.declared.form.Form.TheVariants.{CreateTable, CreateTemporary, InsertAt, Insert, Select, Count, Update, Delete, Begin, Commit, Rollback, Setting, SetVariable, Variable, SetId, Id, Lock, LockTables, UnlockTables, Warnings, Do}

-- its tokens; <n> stands for a number, <x> for a text in single quotes, <a> for a user variable, <s> for a system variable
abbrev pub pattern_of : Form → List ℕ
pattern_of CreateTable = codes "CREATE TABLE t"
pattern_of CreateTemporary = codes "CREATE TEMPORARY TABLE t"
pattern_of InsertAt = codes "INSERT INTO t ( id , v ) VALUES ( <n> , <x> )"
pattern_of Insert = codes "INSERT INTO t ( v ) VALUES ( <x> )"
pattern_of Select = codes "SELECT v FROM t WHERE id = <n>"
pattern_of Count = codes "SELECT COUNT ( * ) FROM t"
pattern_of Update = codes "UPDATE t SET v = <x> WHERE id = <n>"
pattern_of Delete = codes "DELETE FROM t WHERE id = <n>"
pattern_of Begin = codes "BEGIN"
pattern_of Commit = codes "COMMIT"
pattern_of Rollback = codes "ROLLBACK"
pattern_of Setting = codes "SELECT <s>"
pattern_of SetVariable = codes "SET <a> = <n>"
pattern_of Variable = codes "SELECT <a>"
pattern_of SetId = codes "SET SESSION last_insert_id = <n>"
pattern_of Id = codes "SELECT LAST_INSERT_ID ( )"
pattern_of Lock = codes "SELECT GET_LOCK ( <x> , 0 )"
pattern_of LockTables = codes "LOCK TABLES t WRITE"
pattern_of UnlockTables = codes "UNLOCK TABLES"
pattern_of Warnings = codes "SHOW WARNINGS"
pattern_of Do = codes "DO <n>"

abbrev pub all_forms : List Form
all_forms = CreateTable ∷ CreateTemporary ∷ InsertAt ∷ Insert ∷ Select ∷ Count ∷ Update ∷ Delete ∷ Begin ∷ Commit ∷ Rollback ∷ Setting ∷ SetVariable ∷ Variable ∷ SetId ∷ Id ∷ Lock ∷ LockTables ∷ UnlockTables ∷ Warnings ∷ Do ∷ []

abbrev pub value_if : Bool → List ℕ → Captured
value_if fits bytes = if fits then Value (Some bytes) else Differs

abbrev pub fixed_if : Bool → Captured
fixed_if fits = if fits then Fixed else Differs

abbrev pub symbol_as : (piece bytes : List ℕ) → Captured
symbol_as piece bytes = if bytes_eq bytes (codes "?") && (bytes_eq piece (codes "<n>") || bytes_eq piece (codes "<x>")) then Value None else fixed_if (nat_eq (length piece) 1 && bytes_eq bytes piece)

-- the one number that a form has
abbrev pub number_as : (piece bytes : List ℕ) → Captured
number_as piece bytes = if bytes_eq piece (codes "<n>") then Value (Some bytes) else fixed_if (bytes_eq piece (codes "0") && bytes_eq bytes piece)

abbrev pub is_single_quoted : List ℕ → Bool
is_single_quoted bytes = nat_eq (slice_index_or bytes 0 0) 39

abbrev pub captured_by : TokenKind → (text piece : List ℕ) → Token → Captured
captured_by kinds.Symbol text piece token = symbol_as piece (bytes_of text token)
captured_by kinds.Number text piece token = number_as piece (bytes_of text token)
captured_by kinds.Quoted text piece token = value_if (bytes_eq piece (codes "<x>") && is_single_quoted (bytes_of text token)) (inside (bytes_of text token))
captured_by kinds.UserVar text piece token = value_if (bytes_eq piece (codes "<a>")) (drop 1 (bytes_of text token))
captured_by kinds.SysVar text piece token = value_if (bytes_eq piece (codes "<s>")) (drop 2 (bytes_of text token))
captured_by _ text piece token = Differs

-- words begin with a letter, and nothing else in a form does
abbrev pub is_word_piece : List ℕ → Bool
is_word_piece piece = nat_le 65 (slice_index_or piece 0 0)

-- what a token is where this piece of a form stands
abbrev pub taken_as : (text piece : List ℕ) → Token → Captured
taken_as text piece token = if is_word_piece piece then fixed_if (says text token piece) else captured_by token.kind text piece token

abbrev pub with_captured : Captured → List (Option (List ℕ)) → (onward : List (Option (List ℕ)) → Option (List (Option (List ℕ)))) → Option (List (Option (List ℕ)))
with_captured Differs values onward = None
with_captured Fixed values onward = onward values
with_captured (Value value) values onward = onward (values ++ value ∷ [])

-- these values and those of the tokens, None for a `?`, where each token is what its piece of the form says
abbrev pub fits_from : (text : List ℕ) → List Token → (pieces : List (List ℕ)) → List (Option (List ℕ)) → Option (List (Option (List ℕ)))
fits_from text [] [] values = Some values
fits_from text [] (piece ∷ pieces) values = None
fits_from text (token ∷ tokens) [] values = None
fits_from text (token ∷ tokens) (piece ∷ pieces) values = with_captured (taken_as text piece token) values (λ all. fits_from text tokens pieces all)

abbrev pub fits : (text pattern : List ℕ) → Option (List (Option (List ℕ)))
fits text pattern = fits_from text (tokens_of text) (pieces (32 ∷ []) pattern) []

abbrev pub fit_or : Form → Option (List (Option (List ℕ))) → Option (Form × List (Option (List ℕ))) → Option (Form × List (Option (List ℕ)))
fit_or form None others = others
fit_or form (Some values) others = Some (form, values)

-- the first of these forms that a text has, and its values
abbrev pub first_fit : (text : List ℕ) → List Form → Option (Form × List (Option (List ℕ)))
first_fit text [] = None
first_fit text (form ∷ forms) = fit_or form (fits text (pattern_of form)) (first_fit text forms)

abbrev pub form_of : (text : List ℕ) → Option (Form × List (Option (List ℕ)))
form_of text = first_fit text all_forms
