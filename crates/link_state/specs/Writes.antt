-- Bytes on their way to a server.
use Rattle.std.specs.Prelude.{ℕ, Bool, ◌+◌, not, nat_lt, if◌then◌else◌, List, length, drop, take, Option, Some, None}
use Rattle.mx_base.specs.Sent.{Sent}
use Rattle.mx_base.specs.declared.tag.Tag.{Tag}
use Rattle.link_state.specs.Ids.{id_behind}
use Rattle.link_state.specs.declared.writing.Writing.{Writing}

abbrev pub writing : Tag → (bytes : List ℕ) → Writing
writing tag bytes = record { tag = tag; bytes = bytes; sent = 0 }

abbrev pub left_of : Writing → Option Sent
left_of w = if nat_lt w.sent (length w.bytes) then Some (record { tag = w.tag; bytes = drop w.sent w.bytes }) else None

abbrev pub wrote : (count : ℕ) → Writing → Writing
wrote count w = record w { sent = w.sent + count }

abbrev pub is_whole : Writing → Bool
is_whole w = not (nat_lt w.sent (length w.bytes))

-- the id with which an answer to what is written begins
abbrev pub answer_id : Writing → ℕ
answer_id w = id_behind (take w.sent w.bytes)
