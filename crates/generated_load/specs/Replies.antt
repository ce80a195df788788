-- The replies in what was written to clients.
use Rattle.std.specs.Prelude.{◌≡◌, ℕ, zero, suc, ◌+◌, ◌*◌, ◌-◌, if◌then◌else◌, List, [], ◌∷◌, drop, length, Option, Some, None}
use Rattle.std.specs.List.{flat_map}
use Rattle.mx_base.specs.declared.names.LinkId.{LinkId}
use Rattle.mx_wire.specs.Log.{Log, is_link, written_of}
use Rattle.mx_wire.specs.declared.entry.Entry.{Entry}
use Rattle.mx_wire.specs.declared.entry.Entry.TheVariants.{Accepted, Wrote}
use Rattle.reply_track.specs.Replying.{replied}
use Rattle.reply_track.specs.Runs.{Ending}
use Rattle.reply_track.specs.Runs.Ending.{Going, Ended, Failed}
use Rattle.reply_track.specs.declared.reply.EndKind.{EndKind}
use Rattle.reply_track.specs.declared.reply.ReplyKind.TheVariants.{Command}
use Rattle.generated_load.specs.declared.replies.First.{First}

abbrev pub wrote_on : LinkId → Entry → List ℕ
wrote_on link (Wrote at tag bytes) = if is_link link (Some at) then bytes else []
wrote_on link _ = []

-- how these bytes begin, as a reply to a command of one packet
abbrev pub begins : List ℕ → Ending
begins bytes = replied Command 1 bytes

-- How the replies ended that stand whole in bytes, one behind the other, so many at most.

abbrev pub ends_by : Ending → (List ℕ → List EndKind) → List EndKind
ends_by (Going state) others = []
ends_by (Ended end rest) others = end.kind ∷ others rest
ends_by (Failed rest) others = []

abbrev pub ends_within : (most : ℕ) → List ℕ → List EndKind
ends_within zero bytes = []
ends_within (suc most) bytes = ends_by (begins bytes) (λ rest. ends_within most rest)

abbrev pub ends_in : List ℕ → List EndKind
ends_in bytes = ends_within (length bytes) bytes

-- the first of them, and the bytes behind it
abbrev pub IsFirstBy : Ending → (bytes new : List ℕ) → Option First → Type 0
IsFirstBy (Going state) bytes new first = first ≡ None
IsFirstBy (Ended end rest) bytes new first = (first ≡ Some (record { used = length bytes - length rest; kind = end.kind })) × (drop (length bytes - length rest) new ≡ rest)
IsFirstBy (Failed rest) bytes new first = first ≡ None

abbrev pub IsFirstEnd : (bytes new : List ℕ) → Option First → Type 0
IsFirstEnd bytes new first = IsFirstBy (begins bytes) bytes new first

-- the size of the first packet, where its header is there
abbrev pub packet_size : List ℕ → ℕ
packet_size (a ∷ b ∷ c ∷ id ∷ rest) = ((4 + a) + 256 * b) + 65536 * c
packet_size _ = 0

abbrev pub behind_packet : List ℕ → List ℕ
behind_packet bytes = drop (packet_size bytes) bytes

-- what a client was written behind the greeting and the OK of its login, which are a packet each
abbrev pub replies_on : LinkId → Log → List ℕ
replies_on link log = behind_packet (behind_packet (written_of link log))

-- to the client that comes with an entry
abbrev pub ends_for : Log → Entry → List EndKind
ends_for log (Accepted port link salt) = ends_in (replies_on link log)
ends_for log _ = []

-- to all clients of the log
abbrev pub ends_of : Log → List EndKind
ends_of log = flat_map (ends_for log) log
