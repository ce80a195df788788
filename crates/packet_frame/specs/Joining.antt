-- The bytes that a framer keeps: the packets of the first message are joined at their front, as far as they are there.
use Rattle.std.specs.Prelude.{◌≡◌, ◌⊎◌, ◌≤◌, ◌<◌, ℕ, zero, suc, ◌+◌, ◌*◌, ◌/◌, ◌%◌, nat_eq, List, [], ◌++◌, length, take, drop, Bool, true, false, Option, Some, None, Result, Ok, Err, if◌then◌else◌}
use Rattle.packet_frame.specs.declared.fault.FrameFault.{FrameFault}
use Rattle.packet_frame.specs.declared.message.Message.{Message}
use Rattle.packet_frame.specs.Packets.{Framed, Found, longest, next_id, packet}
use Rattle.packet_frame.specs.Packets.Found.{Nothing, Whole, Faulty}

-- how many packets are joined, the id of the first, their bodies, and the bytes behind them
pub record Joined : Type 0 where
  pub packets : ℕ
  pub first : ℕ
  pub payload : List ℕ
  pub rest : List ℕ

-- a payload as so many packets
abbrev pub in_packets : (count id : ℕ) → List ℕ → List ℕ
in_packets zero id payload = []
in_packets (suc count) id payload = packet id (take longest payload) ++ in_packets count (next_id id) (drop longest payload)

-- the bytes as they were read
abbrev pub as_read : Joined → List ℕ
as_read joined = in_packets joined.packets joined.first joined.payload ++ joined.rest

-- only the last packet of a message is shorter than the longest
abbrev pub ends_by : (full packets : ℕ) → Joined → Option Framed
ends_by full packets joined =
    if nat_eq full packets then None
    else Some (record { first = joined.first; last = (joined.first + full) % 256; payload = joined.payload })

-- the message, where its last packet is joined
abbrev pub joined_message : Joined → Option Framed
joined_message joined = ends_by (length joined.payload / longest) joined.packets joined

-- the packets are those of a message that is allowed, so far or all of it
pub record IsJoined (limit : ℕ) (joined : Joined) : Type 0 where
  pub is_byte : joined.first < 256
  pub fits : length joined.payload ≤ limit
  pub size : (length joined.payload ≡ joined.packets * longest) ⊎ (joined.packets ≡ suc (length joined.payload / longest))

-- the bytes of a framer: those of the joined packets' bodies stand behind the first one's header, and those that follow
-- the packets behind these and the other headers
abbrev pub joined_of : (packets first size : ℕ) → List ℕ → Joined
joined_of packets first size bytes = record { packets = packets; first = first; payload = take size (drop 4 bytes); rest = drop (4 * packets + size) bytes }

-- where so many bytes are done with
pub record IsLaidOut (gone packets size : ℕ) (items : List ℕ) : Type 0 where
  pub there : gone + (4 * packets + size) ≤ length items
  pub most : size ≤ packets * longest

-- the packet that the bytes behind begin with is joined, which has a body of so many bytes
abbrev pub with_body : (size : ℕ) → Joined → Joined
with_body size joined = record { packets = joined.packets + 1; first = joined.first; payload = joined.payload ++ take size (drop 4 joined.rest); rest = drop (4 + size) joined.rest }

abbrev pub body_told : Found → Result (Option ℕ) FrameFault
body_told Nothing = Ok None
body_told (Whole packet behind) = Ok (Some (length packet.payload))
body_told (Faulty fault) = Err fault

-- the next packet is joined
abbrev pub with_next : Framed → List ℕ → Joined → Joined
with_next next behind joined = record { packets = joined.packets + 1; first = joined.first; payload = joined.payload ++ next.payload; rest = behind }

abbrev pub next_joined : Found → Joined → Joined
next_joined Nothing joined = joined
next_joined (Whole next behind) joined = with_next next behind joined
next_joined (Faulty fault) joined = joined

-- the answer to that: whether there was one
abbrev pub next_told : Found → Result Bool FrameFault
next_told Nothing = Ok false
next_told (Whole next behind) = Ok true
next_told (Faulty fault) = Err fault

-- what is told of a message
abbrev pub told : Framed → Message
told message = record { last = message.last; length = length message.payload }

abbrev pub message_told : Option Framed → Option Message
message_told None = None
message_told (Some message) = Some (told message)

-- the message that was found
abbrev pub found_in : Found → Option Framed
found_in Nothing = None
found_in (Whole message rest) = Some message
found_in (Faulty fault) = None
