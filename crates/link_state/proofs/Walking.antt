-- The sequence id behind the messages that bytes are, packet by packet.
use Rattle.std.specs.Prelude.{◌≡◌, ◌≢◌, ◌≤◌, ◌<◌, ℕ, zero, suc, ◌+◌, ◌^◌, Bool, true, false, not, nat_eq, nat_lt, if◌then◌else◌, List, [], ◌∷◌, drop, length, take, Some, None}
use Rattle.std.specs.List.{last_or}
use Rattle.std.specs.Option.{option_map_or}
use Rattle.std.proofs.Common.{refl, sym, ap, ◌∙◌, arith}
use Rattle.std.proofs.lemmas.Bool.{lt-ltb}
use Rattle.std.proofs.lemmas.List.{length-drop, length-take-le, take_all}
use Rattle.packet_frame.specs.Laws.{split-found}
use Rattle.packet_frame.specs.PacketLaws.{PacketAt, first_packet-is, first_packet-whole, packet_shorter, packet_size}
use Rattle.packet_frame.specs.Packets.{Found, Framed, Split, and_then, begun, continued, first_message, first_packet, longest, message_within, next_id, packet_id, packet_length, split, split_found}
use Rattle.packet_frame.specs.Packets.Found.{Nothing, Whole, Faulty}
use Rattle.packet_frame.specs.declared.fault.FrameFault.TheVariants.{OutOfOrder, TooLarge}
use Rattle.link_state.specs.Ids.{behind_found, body_in, id_behind, last_in, longest_message}

-- all of it is written
pub all_sent : (n : ℕ) (bytes : List ℕ) → length bytes ≤ n → id_behind (take n bytes) ≡ id_behind bytes
all_sent n bytes most = ap id_behind (take_all n bytes most)

-- The last of messages is the last behind the first.

some_last : (messages : List Framed) (m : Framed) (a b : ℕ)
    → option_map_or (λ message. message.last) (last_or (Some m) messages) a ≡ option_map_or (λ message. message.last) (last_or (Some m) messages) b
some_last [] m a b = refl
some_last (n ∷ messages) m a b = some_last messages n a b

last_behind : (messages : List Framed) (m : Framed) (last : ℕ) → last_in (m ∷ messages) last ≡ last_in messages m.last
last_behind [] m last = refl
last_behind (n ∷ messages) m last = some_last messages n last m.last

found_split : (found : Found) (bytes : List ℕ) (last : ℕ) → behind_found found last ≡ last_in (split_found found bytes (split longest_message 0)).messages last
found_split Nothing bytes last = refl
found_split (Whole message rest) bytes last = sym (last_behind (split longest_message 0 rest).messages message last)
found_split (Faulty fault) bytes last = refl

pub split_last : (bytes : List ℕ) (last : ℕ) → behind_found (first_message longest_message 0 bytes) last ≡ last_in (split longest_message 0 bytes).messages last
split_last bytes last =
    found_split (first_message longest_message 0 bytes) bytes last ∙ ap (λ (s : Split). last_in s.messages last) (sym (split-found longest_message 0 bytes))

-- However many packets a message may have, where these are enough.

within_enough : (p q limit announced id : ℕ) (bytes : List ℕ) → length bytes ≤ p → length bytes ≤ q
    → message_within p limit announced id bytes ≡ message_within q limit announced id bytes
within_enough zero zero limit announced id bytes enough also = refl
within_enough zero (suc q) limit announced id [] enough also = refl
within_enough zero (suc q) limit announced id (b ∷ bytes) enough also = absurd (omega arith)
within_enough (suc p) zero limit announced id [] enough also = refl
within_enough (suc p) zero limit announced id (b ∷ bytes) enough also = absurd (omega arith)
within_enough (suc p) (suc q) limit announced id bytes enough also =
    by (first_packet limit announced id bytes) refl (λ rest short too. within_enough p q limit (announced + longest) (next_id id) rest short too) where
      by : (found : Found) → first_packet limit announced id bytes ≡ found
          → ((rest : List ℕ) → length rest ≤ p → length rest ≤ q
          → message_within p limit (announced + longest) (next_id id) rest ≡ message_within q limit (announced + longest) (next_id id) rest)
          → and_then found (λ packet rest. continued packet rest (message_within p limit (announced + longest) (next_id id) rest))
          ≡ and_then found (λ packet rest. continued packet rest (message_within q limit (announced + longest) (next_id id) rest))
      by Nothing is less = refl
      by (Whole packet rest) is less =
          let shorter : length rest + length packet.payload + 4 ≤ length bytes =
          packet_shorter limit announced id bytes packet rest (first_packet-whole limit announced id bytes packet rest is) in
          ap (λ (others : Found). continued packet rest others) (less rest (omega (arith, shorter)) (omega (arith, shorter)))
      by (Faulty fault) is less = refl

-- A packet that is there.

pub record IsThere (announced id : ℕ) (bytes : List ℕ) (body : ℕ) : Type 0 where
  pub packet : Framed
  pub rest : List ℕ
  pub whole : first_packet longest_message announced id bytes ≡ Whole packet rest
  pub size : length packet.payload ≡ body
  pub last : packet.last ≡ id
  pub goes : rest ≡ drop (4 + body) bytes
  pub within : 4 + body ≤ length bytes

same_body : (a b : ℕ) → Some a ≡ Some b → a ≡ b
same_body a b same = cc

pub there : (announced id : ℕ) (bytes : List ℕ) (body : ℕ) → Some body ≡ body_in (first_packet longest_message announced id bytes) → IsThere announced id bytes body
there announced id bytes body told = by (first_packet longest_message announced id bytes) refl told where
  by : (found : Found) → first_packet longest_message announced id bytes ≡ found → Some body ≡ body_in found → IsThere announced id bytes body
  by Nothing is told = absurd (cc)
  by (Faulty fault) is told = absurd (cc)
  by (Whole packet rest) is told =
      let at : PacketAt longest_message announced id bytes packet rest = first_packet-whole longest_message announced id bytes packet rest is in
      let size : length packet.payload ≡ body = sym (same_body body (length packet.payload) told) in
      let length_is : packet_length bytes ≡ body = sym (packet_size longest_message announced id bytes packet rest at) ∙ size in
      record {
        packet = packet;
        rest = rest;
        whole = is;
        size = size;
        last = ap (λ (m : Framed). m.last) at.is;
        goes = at.goes ∙ ap (λ (n : ℕ). drop (4 + n) bytes) length_is;
        within = omega (arith, at.there, length_is);
      }

-- None is there.
pub not_there : (announced id last : ℕ) (bytes : List ℕ) → None ≡ body_in (first_packet longest_message announced id bytes)
    → last ≡ behind_found (message_within (length bytes) longest_message announced id bytes) last
not_there announced id last bytes told = by (length bytes) where
  next : (fuel : ℕ) (found : Found) → None ≡ body_in found
      → last ≡ behind_found (and_then found (λ packet rest. continued packet rest (message_within fuel longest_message (announced + longest) (next_id id) rest))) last
  next fuel Nothing told = refl
  next fuel (Whole packet rest) told = absurd (cc)
  next fuel (Faulty fault) told = refl

  by : (fuel : ℕ) → last ≡ behind_found (message_within fuel longest_message announced id bytes) last
  by zero = refl
  by (suc fuel) = next fuel (first_packet longest_message announced id bytes) told

-- One is, with which a message goes on or ends.

begun_behind : (packet : Framed) (others : Found) (last : ℕ) → behind_found (begun packet others) last ≡ behind_found others last
begun_behind packet Nothing last = refl
begun_behind packet (Whole message rest) last = refl
begun_behind packet (Faulty fault) last = refl

module _ (announced id last body : ℕ) (bytes : List ℕ) (is : IsThere announced id bytes body) where
  one_more : message_within (length bytes) longest_message announced id bytes
      ≡ continued is.packet is.rest (message_within (length bytes) longest_message (announced + longest) (next_id id) is.rest)
  one_more =
      within_enough (length bytes) (suc (length bytes)) longest_message announced id bytes (omega arith) (omega arith)
      ∙ ap (λ (found : Found). and_then found (λ packet rest. continued packet rest
      (message_within (length bytes) longest_message (announced + longest) (next_id id) rest))) is.whole

  fewer : length is.rest ≤ length bytes
  fewer = omega (arith, ap length is.goes, length-drop (4 + body) bytes)

  same_rest : message_within (length bytes) longest_message (announced + longest) (next_id id) is.rest
      ≡ message_within (length (drop (4 + body) bytes)) longest_message (announced + longest) (next_id id) (drop (4 + body) bytes)
  same_rest =
      within_enough (length bytes) (length is.rest) longest_message (announced + longest) (next_id id) is.rest fewer (omega arith)
      ∙ ap (λ (rest : List ℕ). message_within (length rest) longest_message (announced + longest) (next_id id) rest) is.goes

  pub on_long : body ≡ longest
      → behind_found (message_within (length (drop (4 + body) bytes)) longest_message (announced + longest) (next_id id) (drop (4 + body) bytes)) last
      ≡ behind_found (message_within (length bytes) longest_message announced id bytes) last
  on_long long =
      let full : nat_eq (length is.packet.payload) longest ≡ true = grind (arith, is.size, long) in
      sym (ap (λ (found : Found). behind_found found last) one_more
      ∙ ap (λ (longer : Bool). behind_found (if longer then begun is.packet (message_within (length bytes) longest_message (announced + longest) (next_id id) is.rest)
      else Whole is.packet is.rest) last) full
      ∙ begun_behind is.packet (message_within (length bytes) longest_message (announced + longest) (next_id id) is.rest) last
      ∙ ap (λ (found : Found). behind_found found last) same_rest)

  pub on_short : body ≢ longest
      → behind_found (message_within (length (drop (4 + body) bytes)) longest_message 0 0 (drop (4 + body) bytes)) id
      ≡ behind_found (message_within (length bytes) longest_message announced id bytes) last
  unfolding first_message
  on_short short =
      let part : nat_eq (length is.packet.payload) longest ≡ false = grind (arith, is.size, short) in
      split_last (drop (4 + body) bytes) id
      ∙ sym (ap (λ (found : Found). behind_found found last) one_more
      ∙ ap (λ (longer : Bool). behind_found (if longer then begun is.packet (message_within (length bytes) longest_message (announced + longest) (next_id id) is.rest)
      else Whole is.packet is.rest) last) part
      ∙ ap (λ (at : ℕ). last_in (split longest_message 0 is.rest).messages at) is.last
      ∙ ap (λ (rest : List ℕ). last_in (split longest_message 0 rest).messages id) is.goes)

-- The same by what was told of the packet.

pub within_there : (announced id : ℕ) (bytes : List ℕ) (body : ℕ) → Some body ≡ body_in (first_packet longest_message announced id bytes) → 4 + body ≤ length bytes
within_there announced id bytes body told = (there announced id bytes body told).within

pub goes_on : (announced id last body result : ℕ) (bytes behind : List ℕ) → Some body ≡ body_in (first_packet longest_message announced id bytes)
    → body ≡ 16777215 → behind ≡ drop (4 + body) bytes
    → result ≡ behind_found (message_within (length behind) longest_message (announced + 16777215) (next_id id) behind) last
    → result ≡ behind_found (message_within (length bytes) longest_message announced id bytes) last
goes_on announced id last body result bytes behind told long goes is =
    is ∙ ap (λ (rest : List ℕ). behind_found (message_within (length rest) longest_message (announced + 16777215) (next_id id) rest) last) goes
    ∙ on_long announced id last body bytes (there announced id bytes body told) long

pub ends : (announced id last body result : ℕ) (bytes behind : List ℕ) → Some body ≡ body_in (first_packet longest_message announced id bytes)
    → body ≢ 16777215 → behind ≡ drop (4 + body) bytes
    → result ≡ behind_found (message_within (length behind) longest_message 0 0 behind) id
    → result ≡ behind_found (message_within (length bytes) longest_message announced id bytes) last
ends announced id last body result bytes behind told short goes is =
    is ∙ ap (λ (rest : List ℕ). behind_found (message_within (length rest) longest_message 0 0 rest) id) goes
    ∙ on_short announced id last body bytes (there announced id bytes body told) short

-- The first of them.
pub first_last : (bytes : List ℕ) → behind_found (message_within (length bytes) longest_message 0 0 bytes) 0 ≡ last_in (split longest_message 0 bytes).messages 0
unfolding first_message
first_last bytes = split_last bytes 0

-- The packet that bytes begin with, by its header.

abbrev by_tests : (small other long cut : Bool) → (announced id : ℕ) → (bytes : List ℕ) → Found
by_tests small other long cut announced id bytes =
    if small then Nothing
    else if other then Faulty (OutOfOrder id (packet_id bytes))
    else if long then Faulty (TooLarge (announced + packet_length bytes))
    else if cut then Nothing
    else Whole (record { first = id; last = id; payload = take (packet_length bytes) (drop 4 bytes) }) (drop (4 + packet_length bytes) bytes)

pub no_header : (announced id : ℕ) (bytes : List ℕ) → length bytes < 4 → None ≡ body_in (first_packet longest_message announced id bytes)
no_header announced id bytes short =
    ap (λ (small : Bool). body_in (by_tests small (not (nat_eq (packet_id bytes) id)) (nat_lt longest_message (announced + packet_length bytes))
    (nat_lt (length bytes) (4 + packet_length bytes)) announced id bytes)) (sym (lt-ltb (length bytes) 4 short))

-- an id out of order, or a packet that isn't whole

none_small : (small long cut : Bool) (announced id : ℕ) (bytes : List ℕ) → None ≡ body_in (by_tests small true long cut announced id bytes)
none_small true long cut announced id bytes = refl
none_small false long cut announced id bytes = refl

none_cut : (small other long : Bool) (announced id : ℕ) (bytes : List ℕ) → None ≡ body_in (by_tests small other long true announced id bytes)
none_cut true other long announced id bytes = refl
none_cut false true long announced id bytes = refl
none_cut false false true announced id bytes = refl
none_cut false false false announced id bytes = refl

pub other_id : (announced id : ℕ) (bytes : List ℕ) → packet_id bytes ≢ id → None ≡ body_in (first_packet longest_message announced id bytes)
other_id announced id bytes other =
    let is : true ≡ not (nat_eq (packet_id bytes) id) = grind (arith, other) in
    none_small (nat_lt (length bytes) 4) (nat_lt longest_message (announced + packet_length bytes)) (nat_lt (length bytes) (4 + packet_length bytes)) announced id bytes
    ∙ ap (λ (out : Bool). body_in (by_tests (nat_lt (length bytes) 4) out (nat_lt longest_message (announced + packet_length bytes))
    (nat_lt (length bytes) (4 + packet_length bytes)) announced id bytes)) is

pub cut_short : (announced id : ℕ) (bytes : List ℕ) → length bytes < 4 + packet_length bytes → None ≡ body_in (first_packet longest_message announced id bytes)
cut_short announced id bytes short =
    none_cut (nat_lt (length bytes) 4) (not (nat_eq (packet_id bytes) id)) (nat_lt longest_message (announced + packet_length bytes)) announced id bytes
    ∙ ap (λ (cut : Bool). body_in (by_tests (nat_lt (length bytes) 4) (not (nat_eq (packet_id bytes) id))
    (nat_lt longest_message (announced + packet_length bytes)) cut announced id bytes)) (sym (lt-ltb (length bytes) (4 + packet_length bytes) short))

pub body_there : (announced id : ℕ) (bytes : List ℕ) → 4 ≤ length bytes → packet_id bytes ≡ id → announced + length bytes < 2 ^ 64
    → 4 + packet_length bytes ≤ length bytes → Some (packet_length bytes) ≡ body_in (first_packet longest_message announced id bytes)
body_there announced id bytes header due small within =
    let allowed : announced + packet_length bytes ≤ longest_message = omega (arith, small, within) in
    sym (ap body_in (first_packet-is longest_message announced id bytes header due allowed within)
    ∙ ap (λ (n : ℕ). Some n) (length-take-le (packet_length bytes) (drop 4 bytes) (omega (arith, length-drop 4 bytes, within))))
