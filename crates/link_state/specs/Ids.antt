-- The sequence id behind the messages that bytes are.
use Rattle.std.specs.Prelude.{ℕ, List, length, Option, Some, None}
use Rattle.std.specs.List.{last_or}
use Rattle.std.specs.Option.{option_map_or}
use Rattle.packet_frame.specs.Packets.{Found, Framed, next_id, split}
use Rattle.packet_frame.specs.Packets.Found.{Nothing, Whole, Faulty}

-- no message is longer: 2^65 bytes
abbrev pub longest_message : ℕ
longest_message = 36893488147419103232

-- the id of the last packet of the last of them, `last` where there is none
abbrev pub last_in : List Framed → (last : ℕ) → ℕ
last_in messages last = option_map_or (λ message. message.last) (last_or None messages) last

-- the same of a message that was found and of those behind it
abbrev pub behind_found : Found → (last : ℕ) → ℕ
behind_found Nothing last = last
behind_found (Whole message rest) last = last_in (split longest_message 0 rest).messages message.last
behind_found (Faulty fault) last = last

abbrev pub id_behind : List ℕ → ℕ
id_behind bytes = next_id (last_in (split longest_message 0 bytes).messages 0)

-- how long the body is of a packet that was found
abbrev pub body_in : Found → Option ℕ
body_in Nothing = None
body_in (Whole packet rest) = Some (length packet.payload)
body_in (Faulty fault) = None
