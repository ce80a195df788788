-- What a command does: to the data, as notes, and to the session; and its answer.
use Rattle.std.specs.Prelude.{ℕ, ◌+◌, ◌-◌, ◌^◌, Bool, true, false, nat_lt, is_some, List, [], ◌∷◌, ◌++◌, codes, decimal, find, reverse, Option, Some, None, if◌then◌else◌}
use Rattle.std.specs.List.{list_any}
use Rattle.mx_base.specs.Fields.{little_endian}
use Rattle.session_vars.specs.Settings.{value_at}
use Rattle.session_vars.specs.Slots.{slot_named}
use Rattle.session_vars.specs.Texts.{value_text}
use Rattle.session_vars.specs.declared.slot.Slot.{Slot}
use Rattle.server_rule.specs.Servers.{is_some_of}
use Rattle.mem_rule.specs.Notes.{note_bytes, text_bytes}
use Rattle.mem_rule.specs.Scenes.{Scene, creates, deep_notes, greatest_id, is_locked, keeps, kept, named_lock, names, place, row_count, seen, table_lock, takes}
use Rattle.mem_rule.specs.Tables.{holds}
use Rattle.mem_rule.specs.declared.answer.Answer.{Answer}
use Rattle.mem_rule.specs.declared.answer.Answer.TheVariants.{Done, Shown, Refused}
use Rattle.mem_rule.specs.declared.answer.Fault.{Fault}
use Rattle.mem_rule.specs.declared.answer.Fault.TheVariants as faults
use Rattle.mem_rule.specs.declared.did.Did.{Did}
use Rattle.mem_rule.specs.declared.did.Said.{Said}
use Rattle.mem_rule.specs.declared.form.Form.{Form}
use Rattle.mem_rule.specs.declared.form.Form.TheVariants as forms
use Rattle.mem_rule.specs.declared.note.Note.{Note}
use Rattle.mem_rule.specs.declared.note.NoteKind.{NoteKind}
use Rattle.mem_rule.specs.declared.note.NoteKind.TheVariants.{Begun, Put, Removed, Created, Held, Freed, Named}
use Rattle.mem_rule.specs.declared.place.Place.{Place}
use Rattle.mem_rule.specs.declared.place.Place.TheVariants.{Temporary, Absent, Locked, There}

abbrev pub plain_note : NoteKind → (key : List ℕ) → Note
plain_note kind key = record { kind = kind; key = key; id = 0; text = [] }

abbrev pub row_note : NoteKind → (schema : List ℕ) → (id : ℕ) → (text : List ℕ) → Note
row_note kind schema id text = record { kind = kind; key = schema; id = id; text = text }

-- nothing but an answer
abbrev pub stays : Scene → Answer → Did
stays c answer = record { writes = []; tx = c.tx; locks = c.locks; deep = c.deep; last_id = c.last_id; answer = answer }

abbrev pub goes_on_with : Scene → (deep : List ℕ) → Did
goes_on_with c deep = record (stays c (Done 0 0)) { deep = deep }

-- a write, to the temporary table, into the transaction, or to the data
abbrev pub write_by : Place → (keeps : Bool) → Scene → Note → Answer → Did
write_by Temporary keeps c note answer = record (stays c answer) { deep = c.deep ++ note_bytes note }
write_by (There at) true c note answer = record (stays c answer) { tx = c.tx ++ note_bytes note }
write_by (There at) false c note answer = record (stays c answer) { writes = note ∷ [] }
write_by Absent keeps c note answer = stays c answer
write_by Locked keeps c note answer = stays c answer

abbrev pub write : Scene → Note → Answer → Did
write c note answer = write_by (place c) (keeps c) c note answer

abbrev pub insert_at : Scene → (id : ℕ) → (text : List ℕ) → Did
insert_at c id text = if is_some (seen c id) then stays c (Refused faults.Duplicate) else write c (row_note Put c.schema id text) (Done 1 id)

abbrev pub insert : Scene → (text : List ℕ) → Did
insert c text =
    if nat_lt (greatest_id c) (2 ^ 64 - 1) then record (write c (row_note Put c.schema (greatest_id c + 1) text) (Done 1 (greatest_id c + 1))) { last_id = greatest_id c + 1 }
    else stays c (Refused faults.Duplicate)

abbrev pub change : NoteKind → Scene → (id : ℕ) → (text : List ℕ) → Did
change kind c id text = if is_some (seen c id) then write c (row_note kind c.schema id text) (Done 1 0) else stays c (Done 0 0)

abbrev pub cell : Option (List ℕ) → Option (List ℕ)
cell None = None
cell (Some text) = Some (text_bytes text)

abbrev pub show : Scene → (column : List ℕ) → Option (List ℕ) → Did
show c column row = stays c (Shown (column ∷ []) row)

abbrev pub select : Scene → (id : ℕ) → Did
select c id = show c (codes "v") (cell (seen c id))

abbrev pub count : Scene → Did
count c = show c (codes "COUNT(*)") (Some (text_bytes (decimal (row_count c))))

-- what is kept reaches the data
abbrev pub commit : Scene → (tx : List ℕ) → Did
commit c tx = record (stays c (Done 0 0)) { writes = kept c; tx = tx }

abbrev pub create : Scene → Did
create c =
    if is_locked c.tables c.locks c.schema then stays c (Refused faults.Locked)
    else record (commit c []) { writes = kept c ++ plain_note Created c.schema ∷ [] }

abbrev pub create_temporary : Scene → Did
create_temporary c =
    if list_any (creates c.schema) (deep_notes c) then stays c (Done 0 0)
    else goes_on_with c (c.deep ++ note_bytes (plain_note Created c.schema))

-- the lock on a table is free again
abbrev pub frees : (locks : List ℕ) → List Note
frees locks = if is_some_of locks then plain_note Freed locks ∷ [] else []

abbrev pub lock_by : Place → Scene → Did
lock_by (There at) c = record (commit c []) { writes = (kept c ++ frees c.locks) ++ plain_note Held (table_lock c.schema) ∷ []; locks = table_lock c.schema }
lock_by _ c = commit c []

abbrev pub unlock : Scene → Did
unlock c = record (stays c (Done 0 0)) { writes = frees c.locks; locks = [] }

abbrev pub shown_by : Option Slot → Scene → (name : List ℕ) → Did
shown_by None c name = stays c (Refused faults.Syntax)
shown_by (Some slot) c name = show c name (Some (text_bytes (value_text (value_at c.settings slot))))

abbrev pub variable_by : Option Note → List ℕ
variable_by None = 251 ∷ []
variable_by (Some note) = text_bytes note.text

abbrev pub variable : Scene → (name : List ℕ) → Did
variable c name = show c name (Some (variable_by (find (names name) (reverse (deep_notes c)))))

-- the insert id, which fits 64 bits in every session
abbrev pub show_id : Scene → Did
show_id c = if nat_lt c.last_id (2 ^ 64) then show c (codes "LAST_INSERT_ID()") (Some (text_bytes (decimal c.last_id))) else stays c (Refused faults.Syntax)

-- 1 where the session has the lock then, 0 where another one has it
abbrev pub get_lock : Scene → (name : List ℕ) → Did
get_lock c name =
    let column = codes "GET_LOCK" in
    let taken = show c column (Some (1 ∷ 49 ∷ [])) in
    let note = plain_note Held (named_lock name) in
    if list_any (takes (named_lock name)) (deep_notes c) then taken
    else if holds c.tables.held (named_lock name) then show c column (Some (1 ∷ 48 ∷ []))
    else record taken { writes = note ∷ []; deep = c.deep ++ note_bytes note }

abbrev pub warning_by : List ℕ → Option (List ℕ)
warning_by (low ∷ high ∷ message) = Some (text_bytes (codes "Error") ++ (text_bytes (decimal (little_endian (low ∷ high ∷ []))) ++ text_bytes message))
warning_by _ = None

abbrev pub warnings : Scene → Did
warnings c = stays c (Shown (codes "Level" ∷ codes "Code" ∷ codes "Message" ∷ []) (warning_by c.diag))

abbrev pub table_fault : Place → Option Fault
table_fault Absent = Some faults.NoTable
table_fault Locked = Some faults.Locked
table_fault _ = None

-- a statement on the rows of a table, which is there and isn't locked by another session
abbrev pub on_table_by : Option Fault → Scene → Did → Did
on_table_by (Some fault) c did = stays c (Refused fault)
on_table_by None c did = did

abbrev pub on_table : Place → Scene → Did → Did
on_table place c did = on_table_by (table_fault place) c did

abbrev pub rows_do : Form → Said → Scene → Did
rows_do forms.InsertAt d c = insert_at c d.id d.text
rows_do forms.Insert d c = insert c d.text
rows_do forms.Select d c = select c d.id
rows_do forms.Count d c = count c
rows_do forms.Update d c = change Put c d.id d.text
rows_do forms.Delete d c = change Removed c d.id []
rows_do _ d c = lock_by (place c) c

-- what a statement of this form does
abbrev pub does : Form → Said → Scene → Did
does forms.CreateTable d c = create c
does forms.CreateTemporary d c = create_temporary c
does forms.Begin d c = commit c (note_bytes (plain_note Begun []))
does forms.Commit d c = commit c []
does forms.Rollback d c = record (stays c (Done 0 0)) { tx = [] }
does forms.Setting d c = shown_by (slot_named d.name) c d.name
does forms.SetVariable d c = goes_on_with c (c.deep ++ note_bytes (row_note Named d.name 0 d.text))
does forms.Variable d c = variable c d.name
does forms.SetId d c = record (stays c (Done 0 0)) { last_id = d.id }
does forms.Id d c = show_id c
does forms.Lock d c = get_lock c d.name
does forms.UnlockTables d c = unlock c
does forms.Warnings d c = warnings c
does forms.Do d c = stays c (Done 0 0)
does form d c = on_table (place c) c (rows_do form d c)
