-- What a session sees of the table of a schema: its own temporary one, or the one of the data with the writes that it keeps.
use Rattle.std.specs.Prelude.{ℕ, ◌+◌, ◌-◌, Bool, true, false, not, ◌&&◌, ◌||◌, nat_lt, bytes_eq, is_some, List, [], ◌∷◌, find, fold, length, reverse, slice_get, Option, Some, None, if◌then◌else◌}
use Rattle.std.specs.List.{list_any}
use Rattle.session_vars.specs.declared.change.SlotValue.{SlotValue}
use Rattle.server_rule.specs.Servers.{is_some_of}
use Rattle.mem_rule.specs.Answers.{is_off_in}
use Rattle.mem_rule.specs.Notes.{is_row, notes_of}
use Rattle.mem_rule.specs.Tables.{Rows, TableRows, Tables, greatest, holds, place_of, row_at}
use Rattle.mem_rule.specs.declared.note.Note.{Note}
use Rattle.mem_rule.specs.declared.note.NoteKind.{NoteKind}
use Rattle.mem_rule.specs.declared.note.NoteKind.TheVariants.{Put, Created, Held, Named}
use Rattle.mem_rule.specs.declared.place.Place.{Place}
use Rattle.mem_rule.specs.declared.place.Place.TheVariants.{Temporary, Absent, Locked, There}

-- the name of the lock on the table of a schema, and of a lock by name
abbrev pub table_lock : (schema : List ℕ) → List ℕ
table_lock schema = 116 ∷ schema

abbrev pub named_lock : (name : List ℕ) → List ℕ
named_lock name = 110 ∷ name

abbrev pub is_put_kind : NoteKind → Bool
is_put_kind Put = true
is_put_kind _ = false

abbrev pub is_created_kind : NoteKind → Bool
is_created_kind Created = true
is_created_kind _ = false

abbrev pub is_held_kind : NoteKind → Bool
is_held_kind Held = true
is_held_kind _ = false

abbrev pub is_named_kind : NoteKind → Bool
is_named_kind Named = true
is_named_kind _ = false

-- the note makes a table of this schema, holds this lock, gives this variable a value
abbrev pub creates : (schema : List ℕ) → Note → Bool
creates schema note = is_created_kind note.kind && bytes_eq note.key schema

abbrev pub takes : (name : List ℕ) → Note → Bool
takes name note = is_held_kind note.kind && bytes_eq note.key name

abbrev pub names : (name : List ℕ) → Note → Bool
names name note = is_named_kind note.kind && bytes_eq note.key name

-- another session holds the lock on the table of this schema; locks is the name of the one that this session holds
abbrev pub is_locked : Tables → (locks schema : List ℕ) → Bool
is_locked t locks schema = holds t.held (table_lock schema) && not (bytes_eq locks (table_lock schema))

abbrev pub place_by : (temporary locked : Bool) → Option ℕ → Place
place_by true locked at = Temporary
place_by false locked None = Absent
place_by false true (Some at) = Locked
place_by false false (Some at) = There at

-- where the table is that the session sees
abbrev pub place_in : Tables → (locks : List ℕ) → (deep : List Note) → (schema : List ℕ) → Place
place_in t locks deep schema = place_by (list_any (creates schema) deep) (is_locked t locks schema) (place_of t.tables schema)

abbrev pub put_text : NoteKind → List ℕ → Option (List ℕ)
put_text Put text = Some text
put_text _ text = None

abbrev pub row_by : Option Note → Option (List ℕ) → Option (List ℕ)
row_by None row = row
row_by (Some note) row = put_text note.kind note.text

-- a row of a table with the notes of a session: the last note of it decides
abbrev pub row_seen : Rows → List Note → (schema : List ℕ) → (id : ℕ) → Option (List ℕ)
row_seen rows notes schema id = row_by (find (is_row schema id) (reverse notes)) (row_at rows id)

abbrev pub greater : (schema : List ℕ) → ℕ → Note → ℕ
greater schema most note = if is_put_kind note.kind && bytes_eq note.key schema && nat_lt most note.id then note.id else most

-- the greatest id of a row of the table or of a note, 0 where there is none
abbrev pub greatest_seen : Rows → List Note → (schema : List ℕ) → ℕ
greatest_seen rows notes schema = fold (greater schema) (greatest rows) notes

-- a note is the last one of its row
abbrev pub is_last : (schema : List ℕ) → Note → (later : List Note) → Bool
is_last schema note later = is_row schema note.id note && not (list_any (is_row schema note.id) later)

abbrev pub one_if : Bool → ℕ
one_if b = if b then 1 else 0

-- how many rows notes add to those of a table, and how many they take away
abbrev pub added : Rows → (schema : List ℕ) → List Note → ℕ
added rows schema [] = 0
added rows schema (note ∷ later) = one_if (is_last schema note later && is_put_kind note.kind && not (is_some (row_at rows note.id))) + added rows schema later

abbrev pub taken : Rows → (schema : List ℕ) → List Note → ℕ
taken rows schema [] = 0
taken rows schema (note ∷ later) = one_if (is_last schema note later && not (is_put_kind note.kind) && is_some (row_at rows note.id)) + taken rows schema later

abbrev pub count_seen : Rows → List Note → (schema : List ℕ) → ℕ
count_seen rows notes schema = (length rows + added rows schema notes) - taken rows schema notes

-- a statement in its session
pub record Scene : Type 0 where
  pub tables : Tables
  pub tx : List ℕ
  pub locks : List ℕ
  pub deep : List ℕ
  pub settings : List SlotValue
  pub last_id : ℕ
  pub diag : List ℕ
  pub schema : List ℕ  -- of its table

abbrev pub kept : Scene → List Note
kept c = notes_of c.tx

abbrev pub deep_notes : Scene → List Note
deep_notes c = notes_of c.deep

abbrev pub place : Scene → Place
place c = place_in c.tables c.locks (deep_notes c) c.schema

abbrev pub table_in : Tables → Place → Option TableRows
table_in t (There at) = slice_get t.tables at
table_in t _ = None

abbrev pub rows_of : Option TableRows → Rows
rows_of None = []
rows_of (Some table) = table.rows

abbrev pub notes_in : Place → (kept deep : List Note) → List Note
notes_in Temporary kept deep = deep
notes_in _ kept deep = kept

-- what the session sees of the table: rows, and notes on them
abbrev pub rows : Scene → Rows
rows c = rows_of (table_in c.tables (place c))

abbrev pub notes : Scene → List Note
notes c = notes_in (place c) (kept c) (deep_notes c)

abbrev pub seen : Scene → (id : ℕ) → Option (List ℕ)
seen c id = row_seen (rows c) (notes c) c.schema id

abbrev pub greatest_id : Scene → ℕ
greatest_id c = greatest_seen (rows c) (notes c) c.schema

abbrev pub row_count : Scene → ℕ
row_count c = count_seen (rows c) (notes c) c.schema

-- writes are kept in a transaction and without autocommit
abbrev pub keeps : Scene → Bool
keeps c = is_some_of c.tx || is_off_in c.settings
