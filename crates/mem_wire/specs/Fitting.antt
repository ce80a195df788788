-- How many bytes a write takes.
use Rattle.std.specs.Prelude.{◌≡◌, ℕ, List, take, min, Option, Some, None}
use Rattle.mx_base.specs.declared.names.LinkId.{LinkId}
use Rattle.mx_wire.specs.Log.{Log}
use Rattle.recording.specs.declared.entry.RecordEntry.{RecordEntry}
use Rattle.mem_wire.specs.Came.{known, with_link, known_room}

-- as many as there is room for
abbrev pub fit : (room : Option ℕ) → (size : ℕ) → ℕ
fit None size = size
fit (Some room) size = min room size

abbrev pub fitting : (room : Option ℕ) → List ℕ → List ℕ
fitting None bytes = bytes
fitting (Some room) bytes = take room bytes

-- of a piece that is offered to a link the write takes what the recording has room for
abbrev pub takes : List RecordEntry → Log → LinkId → (piece taken : List ℕ) → Type 0
takes recording log link piece taken = taken ≡ fitting (known_room recording log (with_link link (known recording log))) piece
