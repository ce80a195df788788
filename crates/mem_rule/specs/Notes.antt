-- Notes as bytes: the kind, the id, and key and text behind their lengths, these three numbers length-encoded.
use Rattle.std.specs.Prelude.{ℕ, zero, suc, ◌+◌, Bool, true, false, ◌&&◌, nat_eq, nat_lt, bytes_eq, List, [], ◌∷◌, ◌++◌, length, take, drop, Option, Some, None, if◌then◌else◌}
use Rattle.mx_base.specs.Fields.{lenenc, lenenc_at, number_at}
use Rattle.mx_base.specs.Steps.{◌>>=◌}
use Rattle.mx_base.specs.declared.fields.Field.{Field}
use Rattle.mx_base.specs.declared.fields.Field.TheVariants.{Value}
use Rattle.mem_rule.specs.declared.note.Note.{Note}
use Rattle.mem_rule.specs.declared.note.NoteKind.{NoteKind}
use Rattle.mem_rule.specs.declared.note.NoteKind.TheVariants.{Begun, Put, Removed, Created, Held, Freed, Named}

-- 1 is what the laws give the characteristics of the next transaction
abbrev pub code_of : NoteKind → ℕ
code_of Begun = 2
code_of Put = 3
code_of Removed = 4
code_of Created = 5
code_of Held = 6
code_of Freed = 7
code_of Named = 8

abbrev pub kind_coded : ℕ → Option NoteKind
kind_coded code =
    if nat_eq code 2 then Some Begun
    else if nat_eq code 3 then Some Put
    else if nat_eq code 4 then Some Removed
    else if nat_eq code 5 then Some Created
    else if nat_eq code 6 then Some Held
    else if nat_eq code 7 then Some Freed
    else if nat_eq code 8 then Some Named
    else None

-- a text behind its length
abbrev pub text_bytes : List ℕ → List ℕ
text_bytes text = lenenc (length text) ++ text

abbrev pub note_bytes : Note → List ℕ
note_bytes note = code_of note.kind ∷ (lenenc note.id ++ (text_bytes note.key ++ text_bytes note.text))

-- a text of this size, and the place behind it
abbrev pub text_by : Field → List ℕ → Option (List ℕ × ℕ)
text_by (Value size next) bytes = if nat_lt (length bytes) (next + size) then None else Some (take size (drop next bytes), next + size)
text_by _ bytes = None

abbrev pub text_at : (at : ℕ) → List ℕ → Option (List ℕ × ℕ)
text_at at bytes = text_by (lenenc_at at bytes) bytes

abbrev pub note_behind_id : NoteKind → Field → List ℕ → Option (Note × ℕ)
note_behind_id kind (Value id next) bytes =
    text_at next bytes >>= (λ key. text_at key.1 bytes >>= (λ text. Some (record { kind = kind; key = key.0; id = id; text = text.0 }, text.1)))
note_behind_id kind _ bytes = None

-- the note at a place, and the place behind it
abbrev pub note_at : (at : ℕ) → List ℕ → Option (Note × ℕ)
note_at at bytes = number_at 1 at bytes >>= (λ code. kind_coded code >>= (λ kind. note_behind_id kind (lenenc_at (at + 1) bytes) bytes))

abbrev pub notes_with : Option (Note × ℕ) → (onward : ℕ → List Note) → List Note
notes_with None onward = []
notes_with (Some (note, next)) onward = note ∷ onward next

-- the notes from a place on, at most so many
abbrev pub notes_from : (most at : ℕ) → List ℕ → List Note
notes_from zero at bytes = []
notes_from (suc most) at bytes = notes_with (note_at at bytes) (λ next. notes_from most next bytes)

-- the notes that stand in bytes
abbrev pub notes_of : List ℕ → List Note
notes_of bytes = notes_from (length bytes) 0 bytes

abbrev pub is_row_kind : NoteKind → Bool
is_row_kind Put = true
is_row_kind Removed = true
is_row_kind _ = false

-- it says what became of this row
abbrev pub is_row : (schema : List ℕ) → (id : ℕ) → Note → Bool
is_row schema id note = is_row_kind note.kind && nat_eq note.id id && bytes_eq note.key schema
