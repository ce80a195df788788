-- The data: a table for each schema that has one, and the locks that are held; and what notes do to them.
use Rattle.std.specs.Prelude.{ℕ, ◌-◌, Bool, bytes_eq, List, [], ◌∷◌, ◌++◌, length, position, slice_get, slice_index_or, slice_set, fold, Option, Some, None}
use Rattle.std.specs.BTreeMap.{insert_entry, is_at}
use Rattle.std.specs.BTreeSet.{insert_key}
use Rattle.std.specs.Cmp.Lexicographic.{slice_cmp}
use Rattle.std.specs.List.{list_any}
use Rattle.std.specs.Map.{lookup, remove_entry}
use Rattle.std.specs.Set.{remove_key}
use Rattle.std.specs.Ordering.{nat_cmp}
use Rattle.mem_rule.specs.declared.note.Note.{Note}
use Rattle.mem_rule.specs.declared.note.NoteKind.{NoteKind}
use Rattle.mem_rule.specs.declared.note.NoteKind.TheVariants.{Begun, Put, Removed, Created, Held, Freed, Named}

-- rows by their ids, in order
abbrev pub Rows : Type 0
Rows = List (ℕ × List ℕ)

pub record TableRows : Type 0 where
  pub schema : List ℕ
  pub rows : Rows

pub record Tables : Type 0 where
  pub tables : List TableRows
  pub held : List (List ℕ)  -- the names of the locks that are held, in order

abbrev pub no_tables : Tables
no_tables = record { tables = []; held = [] }

abbrev pub row_at : Rows → (id : ℕ) → Option (List ℕ)
row_at rows id = lookup (is_at (nat_cmp id)) rows

abbrev pub id_of_last : Option (ℕ × List ℕ) → ℕ
id_of_last None = 0
id_of_last (Some row) = row.0

-- the greatest id of a row, 0 where there is none
abbrev pub greatest : Rows → ℕ
greatest rows = id_of_last (slice_get rows (length rows - 1))

abbrev pub rows_by : NoteKind → Note → Rows → Rows
rows_by Put note rows = insert_entry nat_cmp rows note.id note.text
rows_by Removed note rows = remove_entry (is_at (nat_cmp note.id)) rows
rows_by _ note rows = rows

-- what a note makes of rows
abbrev pub rows_after : Rows → Note → Rows
rows_after rows note = rows_by note.kind note rows

-- the place of a schema's table
abbrev pub place_of : List TableRows → (schema : List ℕ) → Option ℕ
place_of tables schema = position (λ table. bytes_eq table.schema schema) tables

abbrev pub no_rows : TableRows
no_rows = record { schema = []; rows = [] }

abbrev pub written : Option ℕ → Note → List TableRows → List TableRows
written None note tables = tables
written (Some at) note tables = let table = slice_index_or tables at no_rows in slice_set tables at (record table { rows = rows_after table.rows note })

abbrev pub created : Option ℕ → (schema : List ℕ) → List TableRows → List TableRows
created None schema tables = tables ++ record { schema = schema; rows = [] } ∷ []
created (Some at) schema tables = tables

abbrev pub done : NoteKind → Note → Tables → Tables
done Put note t = record t { tables = written (place_of t.tables note.key) note t.tables }
done Removed note t = record t { tables = written (place_of t.tables note.key) note t.tables }
done Created note t = record t { tables = created (place_of t.tables note.key) note.key t.tables }
done Held note t = record t { held = insert_key (slice_cmp nat_cmp) t.held note.key }
done Freed note t = record t { held = remove_key (is_at (slice_cmp nat_cmp note.key)) t.held }
done Begun note t = t
done Named note t = t

-- what a note makes of the data
abbrev pub after : Tables → Note → Tables
after t note = done note.kind note t

-- what notes make of them, in order
abbrev pub after_all : Tables → List Note → Tables
after_all t notes = fold after t notes

-- a lock of this name is held
abbrev pub holds : (held : List (List ℕ)) → (name : List ℕ) → Bool
holds held name = list_any (is_at (slice_cmp nat_cmp name)) held
