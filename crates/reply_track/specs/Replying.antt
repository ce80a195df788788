-- What bytes that are read behind a command begin with, and the payloads of a reply.
use Rattle.std.specs.Prelude.{ℕ, zero, suc, ◌+◌, ◌/◌, ◌%◌, nat_eq, if◌then◌else◌, List, [], ◌∷◌, length, slice_index_or}
use Rattle.packet_frame.specs.Packets.{Framed, Found, longest, next_id, first_message}
use Rattle.packet_frame.specs.Packets.Found.{Nothing, Whole, Faulty}
use Rattle.reply_track.specs.declared.reply.ReplyKind.{ReplyKind}
use Rattle.reply_track.specs.declared.reply.ReplyKind.TheVariants.{Command, Fields}
use Rattle.reply_track.specs.Runs.{Ending, run}
use Rattle.reply_track.specs.Tracking.{Sought, started}

-- COM_FIELD_LIST, of which all bytes are there, has a reply of its own kind; its code is the first byte behind a header
abbrev pub kind_to : (command : List ℕ) → ReplyKind
kind_to command = if nat_eq (slice_index_or command 4 0) 4 then Fields else Command

-- The id that follows those of a whole command's packets, which are 0 and on: each of them but the last has the longest body behind its header
-- of 4 bytes.
abbrev pub id_after : (command : List ℕ) → ℕ
id_after command = (length command / (longest + 4) + 1) % 256

-- a reply without a number in it: its kind, and the ids of its first packet at the server and for the client
abbrev pub sought : ReplyKind → (server client : ℕ) → Sought
sought kind server client = record { kind = kind; server = server; client = client; number = 0 }

-- the reply to a whole command; the client gets it from this id on
abbrev pub to_command : (command : List ℕ) → (first : ℕ) → Sought
to_command command first = sought (kind_to command) (id_after command) first

-- how far these bytes bring a reply of this kind, whose ids at the server go on from this one
abbrev pub replied : ReplyKind → (id : ℕ) → List ℕ → Ending
replied kind id bytes = run (started (sought kind id id)) bytes

-- the payloads of messages whose ids run on
abbrev pub payloads_by : Found → (Framed → List ℕ → List (List ℕ)) → List (List ℕ)
payloads_by Nothing others = []
payloads_by (Whole message rest) others = others message rest
payloads_by (Faulty fault) others = []

abbrev pub payloads_within : (count limit first : ℕ) → List ℕ → List (List ℕ)
payloads_within zero limit first bytes = []
payloads_within (suc count) limit first bytes = payloads_by (first_message limit first bytes) (λ message rest. message.payload ∷ payloads_within count limit (next_id message.last) rest)

unfoldable pub payloads_in : (first : ℕ) → List ℕ → List (List ℕ)
payloads_in first bytes = payloads_within (length bytes) (length bytes) first bytes
