-- Packets and messages of a list of bytes. A packet is a length of 3 bytes, a sequence id of 1, and a body of that
-- length. A message is packets with bodies of 16,777,215 bytes and a last one with a shorter body, maybe an empty
-- one; their ids follow each other, 0 after 255.
use Rattle.std.specs.Prelude.{ℕ, zero, suc, ◌+◌, ◌-◌, ◌/◌, ◌%◌, nat_lt, nat_le, nat_eq, not, ◌&&◌, List, [], ◌∷◌, ◌++◌, length, take, drop, slice_index_or, Option, Some, None, if◌then◌else◌}
use Rattle.mx_base.specs.Fields.{little_endian}
use Rattle.packet_frame.specs.declared.fault.FrameFault.{FrameFault}
use Rattle.packet_frame.specs.declared.fault.FrameFault.TheVariants.{OutOfOrder, TooLarge}

-- a message: the ids of its first and its last packet, and their bodies joined
pub record Framed : Type 0 where
  pub first : ℕ
  pub last : ℕ
  pub payload : List ℕ

-- what a list of bytes begins with: no whole message, a message and the bytes behind it, or a fault
pub data Found : Type 0 where
  Nothing : Found
  Whole : Framed → List ℕ → Found
  Faulty : FrameFault → Found

-- the length of the longest body
abbrev pub longest : ℕ
longest = 16777215

abbrev pub next_id : ℕ → ℕ
next_id id = (id + 1) % 256

-- the length and the id in the header that the bytes begin with
abbrev pub packet_length : List ℕ → ℕ
packet_length bytes = little_endian (take 3 bytes)

abbrev pub packet_id : List ℕ → ℕ
packet_id bytes = slice_index_or bytes 3 0

-- the packet that the bytes begin with, as a message of its own; the packets of its message before it announced
-- so many bytes
abbrev pub first_packet : (limit announced id : ℕ) → List ℕ → Found
first_packet limit announced id bytes =
    if nat_lt (length bytes) 4 then Nothing
    else if not (nat_eq (packet_id bytes) id) then Faulty (OutOfOrder id (packet_id bytes))
    else if nat_lt limit (announced + packet_length bytes) then Faulty (TooLarge (announced + packet_length bytes))
    else if nat_lt (length bytes) (4 + packet_length bytes) then Nothing
    else Whole (record { first = id; last = id; payload = take (packet_length bytes) (drop 4 bytes) }) (drop (4 + packet_length bytes) bytes)

-- a packet and the message that its other packets are
abbrev pub begun : Framed → Found → Found
begun packet Nothing = Nothing
begun packet (Whole message rest) = Whole (record { first = packet.first; last = message.last; payload = packet.payload ++ message.payload }) rest
begun packet (Faulty fault) = Faulty fault

abbrev pub and_then : Found → (Framed → List ℕ → Found) → Found
and_then Nothing next = Nothing
and_then (Whole packet rest) next = next packet rest
and_then (Faulty fault) next = Faulty fault

-- the message that a packet begins: a packet with the longest body isn't the last one
abbrev pub continued : Framed → List ℕ → Found → Found
continued packet rest others = if nat_eq (length packet.payload) longest then begun packet others else Whole packet rest

-- the message of at most so many packets
abbrev pub message_within : (packets limit announced id : ℕ) → List ℕ → Found
message_within zero limit announced id bytes = Nothing
message_within (suc packets) limit announced id bytes =
    and_then (first_packet limit announced id bytes) (λ packet rest.
    continued packet rest (message_within packets limit (announced + longest) (next_id id) rest))

-- the message that the bytes begin with; its first packet's id has to be `first`, and its length at most `limit`
unfoldable pub first_message : (limit first : ℕ) → List ℕ → Found
first_message limit first bytes = message_within (length bytes) limit 0 first bytes

-- the messages of the bytes, each of which begins with the id `first`, what is behind them, and the fault there
pub record Split : Type 0 where
  pub messages : List Framed
  pub rest : List ℕ
  pub fault : Option FrameFault

abbrev pub with_front : List Framed → Split → Split
with_front front split = record { messages = front ++ split.messages; rest = split.rest; fault = split.fault }

abbrev pub split_found : Found → List ℕ → (List ℕ → Split) → Split
split_found Nothing bytes others = record { messages = []; rest = bytes; fault = None }
split_found (Whole message rest) bytes others = with_front (message ∷ []) (others rest)
split_found (Faulty fault) bytes others = record { messages = []; rest = bytes; fault = Some fault }

abbrev pub split_within : (count limit first : ℕ) → List ℕ → Split
split_within zero limit first bytes = record { messages = []; rest = bytes; fault = None }
split_within (suc count) limit first bytes = split_found (first_message limit first bytes) bytes (split_within count limit first)

unfoldable pub split : (limit first : ℕ) → List ℕ → Split
split limit first bytes = split_within (length bytes) limit first bytes

-- messages, the bytes behind them and the fault there, as more bytes come
abbrev pub grown : (limit first : ℕ) → List Framed → List ℕ → Option FrameFault → List ℕ → Split
grown limit first messages rest None more = with_front messages (split limit first (rest ++ more))
grown limit first messages rest (Some fault) more = record { messages = messages; rest = rest ++ more; fault = Some fault }

-- the one spelling of a payload as packets
abbrev pub packet : (id : ℕ) → List ℕ → List ℕ
packet id body = length body % 256 ∷ length body / 256 % 256 ∷ length body / 65536 ∷ id ∷ body

abbrev pub packets : (full id : ℕ) → List ℕ → List ℕ
packets zero id payload = packet id payload
packets (suc full) id payload = packet id (take longest payload) ++ packets full (next_id id) (drop longest payload)

unfoldable pub spelling : (first : ℕ) → List ℕ → List ℕ
spelling first payload = packets (length payload / longest) first payload

-- the id behind the last packet of a spelling
abbrev pub id_behind : (first : ℕ) → List ℕ → ℕ
id_behind first payload = (first + length payload / longest + 1) % 256

-- the id behind that of the last whole header of the first message, 0 where no header is whole
abbrev pub id_within : (packets last : ℕ) → List ℕ → ℕ
id_within zero last bytes = last
id_within (suc packets) last bytes =
    if nat_lt (length bytes) 4 then last
    else if nat_eq (packet_length bytes) longest then id_within packets (next_id (packet_id bytes)) (drop (4 + longest) bytes)
    else next_id (packet_id bytes)

unfoldable pub id_from : (last : ℕ) → List ℕ → ℕ
id_from last bytes = id_within (length bytes) last bytes

abbrev pub id_of_answer : List ℕ → ℕ
id_of_answer bytes = id_from 0 bytes

-- what the last packet of the first message still lacks of which a byte is there, 0 while its header isn't whole
abbrev pub lacking_within : (packets : ℕ) → List ℕ → ℕ
lacking_within zero bytes = 0
lacking_within (suc packets) bytes =
    if nat_lt (length bytes) 4 then 0
    else if nat_eq (packet_length bytes) longest && nat_le (4 + longest) (length bytes) then lacking_within packets (drop (4 + longest) bytes)
    else (4 + packet_length bytes) - length bytes

unfoldable pub lacking : List ℕ → ℕ
lacking bytes = lacking_within (length bytes) bytes

-- how many bytes the packets of the first message take
abbrev pub size_within : (packets : ℕ) → List ℕ → ℕ
size_within zero bytes = 0
size_within (suc packets) bytes =
    if nat_eq (packet_length bytes) longest then 4 + longest + size_within packets (drop (4 + longest) bytes)
    else 4 + packet_length bytes

unfoldable pub message_size : List ℕ → ℕ
message_size bytes = size_within (length bytes) bytes

-- payloads as packets, one message after the other with ids that go on, and the id behind them
abbrev pub spellings : (first : ℕ) → List (List ℕ) → List ℕ
spellings first [] = []
spellings first (payload ∷ payloads) = spelling first payload ++ spellings (id_behind first payload) payloads

abbrev pub ids_behind : (first : ℕ) → List (List ℕ) → ℕ
ids_behind first [] = first
ids_behind first (payload ∷ payloads) = ids_behind (id_behind first payload) payloads
