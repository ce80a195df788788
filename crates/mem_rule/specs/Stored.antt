-- The data as one list of numbers, and the server as a step of it. Each part of a list stands behind its length.
use Rattle.std.specs.Prelude.{ℕ, zero, suc, true, false, not, nat_eq, List, [], ◌∷◌, ◌++◌, drop, length, slice_index_or, take}
use Rattle.server_rule.specs.Servers.{Step, Tests}
use Rattle.mem_rule.specs.Commands.{ran}
use Rattle.mem_rule.specs.Tables.{TableRows, Tables, after_all, no_rows, no_tables}
use Rattle.mem_rule.specs.declared.note.Note.{Note}

abbrev pub items_out : {A : Type 0} → (A → List ℕ) → List A → List ℕ
items_out out [] = []
items_out out (a ∷ more) = length (out a) ∷ (out a ++ items_out out more)

abbrev pub items_in : {A : Type 0} → (most : ℕ) → (List ℕ → A) → List ℕ → List A
items_in zero into numbers = []
items_in (suc most) into [] = []
items_in (suc most) into (size ∷ numbers) = into (take size numbers) ∷ items_in most into (drop size numbers)

abbrev pub row_out : ℕ × List ℕ → List ℕ
row_out row = row.0 ∷ row.1

abbrev pub row_in : List ℕ → ℕ × List ℕ
row_in [] = (0, [])
row_in (id ∷ text) = (id, text)

abbrev pub table_out : TableRows → List ℕ
table_out table = length table.schema ∷ (table.schema ++ items_out row_out table.rows)

abbrev pub table_in : List ℕ → TableRows
table_in [] = no_rows
table_in (size ∷ numbers) = record { schema = take size numbers; rows = items_in (length numbers) row_in (drop size numbers) }

abbrev pub same : List ℕ → List ℕ
same numbers = numbers

-- the data as a list
abbrev pub tables_out : Tables → List ℕ
tables_out t = let tables = items_out table_out t.tables in length tables ∷ (tables ++ items_out same t.held)

-- the data that a list says
abbrev pub tables_in : List ℕ → Tables
tables_in [] = no_tables
tables_in (size ∷ numbers) = record { tables = items_in (length numbers) table_in (take size numbers); held = items_in (length numbers) same (drop size numbers) }

abbrev pub stored_after : List ℕ → List Note → List ℕ
stored_after stored [] = stored
stored_after stored (note ∷ notes) = tables_out (after_all (tables_in stored) (note ∷ notes))

-- what a command does to the data and to its session, and its reply
unfoldable pub step : Step
step stored s c =
    let r = ran (tables_in stored) s c in record { stored = stored_after stored r.writes; session = r.session; reply = r.reply }

-- any data; and any session whose deep state isn't the characteristics of the next transaction, which the server doesn't know; a
-- reset takes all back
abbrev pub tests : Tests
tests = record { is_data = λ stored. true; is_session = λ tx locks deep diag. not (nat_eq (slice_index_or deep 0 0) 1); lasts = λ deep. false; warnings = λ diag. diag; found = λ diag. diag }
