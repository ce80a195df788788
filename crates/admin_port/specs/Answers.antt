-- What a statement is answered, and what it makes of the staged tables.
use Rattle.std.specs.Prelude.{◌≡◌, ℕ, ◌++◌, ◌||◌, ◌&&◌, Bool, false, nat_eq, nat_le, if◌then◌else◌, List, [], ◌∷◌, codes, filter, length, map, Option, Some, None}
use Rattle.std.specs.Char.{to_ascii_lowercase}
use Rattle.sql_tokens.specs.Words.{bytes_of}
use Rattle.sql_tokens.specs.declared.token.Token.{Token}
use Rattle.admin_port.specs.Columns.{is_among}
use Rattle.admin_port.specs.Patterns.{ArePatterned, patterns_of}
use Rattle.admin_port.specs.Selecting.{selected}
use Rattle.admin_port.specs.Sheets.{IsWhole, Sheet, named_cells, sheet, sheet_of, shown, total_columns}
use Rattle.admin_port.specs.Staged.{StagedRows, changed}
use Rattle.admin_port.specs.Statements.{statement_of}
use Rattle.admin_port.specs.Words.{statement_tokens}
use Rattle.admin_port.specs.declared.answer.Answer.{Answer}
use Rattle.admin_port.specs.declared.answer.Answer.TheVariants as answers
use Rattle.admin_port.specs.declared.answer.Refusal.{Refusal}
use Rattle.admin_port.specs.declared.answer.Refusal.TheVariants as refusals
use Rattle.admin_port.specs.declared.running.NamedRow.{NamedRow}
use Rattle.admin_port.specs.declared.running.Running.{Running}
use Rattle.admin_port.specs.declared.statement.StagedTable.{StagedTable}
use Rattle.admin_port.specs.declared.statement.StagedTable.TheVariants.{Servers, Rules}
use Rattle.admin_port.specs.declared.statement.Statement.{Statement}
use Rattle.admin_port.specs.declared.statement.Statement.TheVariants.{Select, Stage, Load, ShowTables, ShowVariables, VersionComment, Accepted, Shutdown}

-- An answer, as it is seen: an OK, a table, an error, or an OK once the router has put a table in force or has begun to shut down.
pub data Reply : Type 0 where
  Done : Reply
  Rows : Sheet → Reply
  Refused : Refusal → Reply
  Loads : StagedTable → Reply
  ShutsDown : Reply

abbrev pub reply_of : Answer → Reply
reply_of answers.Done = Done
reply_of (answers.Rows table) = Rows (sheet_of table)
reply_of (answers.Refused refusal) = Refused refusal
reply_of (answers.Load table) = Loads table
reply_of answers.Shutdown = ShutsDown

-- a table that is answered has columns, and a cell for each in each row
abbrev pub HasWholeTable : Answer → Type 0
HasWholeTable (answers.Rows table) = IsWhole table
HasWholeTable _ = Unit {0}

-- Errors.

-- the words that statements here begin with
abbrev pub first_words : List (List ℕ)
first_words = codes "SELECT" ∷ codes "INSERT" ∷ codes "UPDATE" ∷ codes "DELETE" ∷ codes "LOAD" ∷ codes "SAVE" ∷ codes "SHOW" ∷ codes "SET" ∷ codes "PROXYSQL" ∷ []

abbrev pub begun : (text : List ℕ) → List Token → Option (List ℕ)
begun text [] = None
begun text (first ∷ tokens) = if is_among first_words (bytes_of text first) then Some (bytes_of text first) else None

-- no statement; one that begins as a statement here names its first word
abbrev pub unknown : (text : List ℕ) → Refusal
unknown text = refusals.Unknown (begun text (statement_tokens text))

abbrev pub refusal_for : StagedTable → Refusal
refusal_for Servers = refusals.Server
refusal_for Rules = refusals.Rule

abbrev pub code_of : Refusal → ℕ
code_of (refusals.Unknown word) = 9120
code_of refusals.Rule = 9121
code_of refusals.Server = 9122

abbrev pub text_of : Refusal → List ℕ
text_of (refusals.Unknown None) = codes "Unknown admin statement"
text_of (refusals.Unknown (Some word)) = codes "Unknown admin statement: docs/ADMIN.md has the forms of " ++ word
text_of refusals.Rule = codes "Rule refused"
text_of refusals.Server = codes "Server refused"

-- Variables.

-- one of the ends of a name passes
abbrev pub any_end : (test : List ℕ → Bool) → (name : List ℕ) → Bool
any_end test [] = test []
any_end test (b ∷ name) = test (b ∷ name) || any_end test name

-- the first byte is this one, in any case, or the byte is _, and what is behind it passes
abbrev pub first_like : (byte : ℕ) → (test : List ℕ → Bool) → (name : List ℕ) → Bool
first_like byte test [] = false
first_like byte test (b ∷ name) = (nat_eq byte 95 || nat_eq (to_ascii_lowercase byte) (to_ascii_lowercase b)) && test name

-- the name is LIKE a pattern: % stands for any bytes, _ for one
abbrev pub like : (pattern name : List ℕ) → Bool
like [] name = nat_eq (length name) 0
like (p ∷ pattern) name = if nat_eq p 37 then any_end (λ end. like pattern end) name else first_like p (λ rest. like pattern rest) name

-- A pattern has at most four %, so that looking for it is quick.
abbrev pub is_quick : (pattern : List ℕ) → Bool
is_quick pattern = nat_le (length (filter (λ p. nat_eq p 37) pattern)) 4

abbrev pub variables_sheet : List NamedRow → Sheet
variables_sheet rows = sheet total_columns named_cells rows

abbrev pub variables : Option (List ℕ) → List NamedRow → Option Sheet
variables None rows = Some (variables_sheet rows)
variables (Some pattern) rows = if is_quick pattern then Some (variables_sheet (filter (λ row. like pattern row.name) rows)) else None

-- Answers.

abbrev pub table_names : List (List ℕ)
table_names = codes "mysql_query_rules" ∷ codes "mysql_servers" ∷ codes "runtime_mysql_query_rules" ∷ codes "runtime_mysql_servers" ∷ codes "stats_mysql_connection_pool"
    ∷ codes "stats_mysql_events" ∷ codes "stats_mysql_global" ∷ codes "stats_mysql_processlist" ∷ codes "stats_mysql_query_digest" ∷ []

abbrev pub one_column : (name : List ℕ) → (values : List (List ℕ)) → Sheet
one_column name values = record { columns = name ∷ []; rows = map (λ value. Some value ∷ []) values }

abbrev pub rows_or : Refusal → Option Sheet → Reply
rows_or refusal None = Refused refusal
rows_or refusal (Some s) = Rows s

-- what is staged afterwards, and the answer: OK, or a refusal that leaves what was staged
abbrev pub done_or : StagedRows → Refusal → Option StagedRows → StagedRows × Reply
done_or staged refusal None = (staged, Refused refusal)
done_or staged refusal (Some new) = (new, Done)

abbrev pub answered_by : (patterned : Bool) → (text : List ℕ) → StagedRows → Running → Option Statement → StagedRows × Reply
answered_by patterned text staged running None = (staged, Refused (unknown text))
answered_by patterned text staged running (Some (Select query)) = (staged, rows_or (unknown text) (selected query (shown query.table staged running)))
answered_by patterned text staged running (Some (Stage action change)) = done_or staged (refusal_for change.table) (changed patterned staged action change)
answered_by patterned text staged running (Some (Load table)) = (staged, Loads table)
answered_by patterned text staged running (Some ShowTables) = (staged, Rows (one_column (codes "tables") table_names))
answered_by patterned text staged running (Some (ShowVariables pattern)) = (staged, rows_or (unknown text) (variables pattern running.variables.now))
answered_by patterned text staged running (Some VersionComment) = (staged, Rows (one_column (codes "@@version_comment") (codes "mx_proxy" ∷ [])))
answered_by patterned text staged running (Some Accepted) = (staged, Done)
answered_by patterned text staged running (Some Shutdown) = (staged, ShutsDown)

-- what an administrator's text makes of the staged tables, and what is answered, where a statement's patterns were tested
abbrev pub IsAnsweredBy : (text : List ℕ) → StagedRows → Running → Option Statement → StagedRows × Reply → Type 0
IsAnsweredBy text staged running None after = after ≡ answered_by false text staged running None
IsAnsweredBy text staged running (Some statement) after =
    (patterned : Bool) × (ArePatterned patterned (patterns_of statement) × (after ≡ answered_by patterned text staged running (Some statement)))

abbrev pub IsAnswered : (text : List ℕ) → StagedRows → Running → StagedRows × Reply → Type 0
IsAnswered text staged running after = IsAnsweredBy text staged running (statement_of text) after
