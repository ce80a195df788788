-- What is spelled is found again, whatever follows.
use Rattle.std.specs.Prelude.{◌≡◌, ◌≤◌, ◌<◌, ℕ, zero, suc, ◌+◌, ◌-◌, ◌*◌, ◌/◌, ◌%◌, true, false, nat_eq, List, [], ◌∷◌, ◌++◌, length, take, drop, refl}
use Rattle.std.proofs.Common.{◌∙◌, ap, arith, length-append, length-drop, append_assoc}
use Rattle.std.proofs.Math.Seq.{take-append_seam, drop-append_seam, drop-append-add}
use Rattle.std.proofs.lemmas.List.{length-take-le, take-append-drop}
use Rattle.std.proofs.lemmas.Bool.Decides.{nat_tests}
use Rattle.packet_frame.specs.Packets.{Framed, Found, first_packet, packet_length, and_then, continued, message_within, first_message, next_id, longest, packet, packets, spelling}
use Rattle.packet_frame.specs.Packets.Found.{Whole}
use Rattle.packet_frame.specs.PacketLaws.{first_packet-is}

-- a number below 2 ^ 24 is its three bytes
three_back : (n : ℕ) → n ≤ longest → n % 256 + 256 * (n / 256 % 256 + 256 * (n / 65536 + 256 * 0)) ≡ n
three_back n small =
    let outer : n / 65536 ≡ n / 256 / 256 = omega arith in
    omega (arith, outer)

-- the header and what is behind its packet
pub packet_length-spelled : (id : ℕ) (body rest : List ℕ) → length body ≤ longest → packet_length (packet id body ++ rest) ≡ length body
packet_length-spelled id body rest small = three_back (length body) small

pub length-spelled : (id : ℕ) (body rest : List ℕ) → length (packet id body ++ rest) ≡ 4 + length body + length rest
length-spelled id body rest = omega (arith, length-append body rest)

pub behind-spelled : (id : ℕ) (body rest : List ℕ) → drop (4 + length body) (packet id body ++ rest) ≡ rest
behind-spelled id body rest = drop-append-add (length body % 256 ∷ length body / 256 % 256 ∷ length body / 65536 ∷ id ∷ []) (body ++ rest) (length body) ∙ drop-append_seam body rest

pub packet-again : (limit announced id : ℕ) (body rest : List ℕ) → length body ≤ longest → announced + length body ≤ limit → first_packet limit announced id (packet id body ++ rest) ≡ Whole (record { first = id; last = id; payload = body }) rest
packet-again limit announced id body rest small allowed =
    let size : packet_length (packet id body ++ rest) ≡ length body = packet_length-spelled id body rest small in
    let whole : length (packet id body ++ rest) ≡ 4 + length body + length rest = length-spelled id body rest in
    let payload : take (packet_length (packet id body ++ rest)) (body ++ rest) ≡ body = rw size (take-append_seam body rest) in
    let behind : drop (4 + packet_length (packet id body ++ rest)) (packet id body ++ rest) ≡ rest = rw size (behind-spelled id body rest) in
    first_packet-is limit announced id (packet id body ++ rest) (omega (arith, whole)) refl (omega (arith, size)) (omega (arith, size, whole))
    ∙ cc (payload, behind)

pub same_size : (n : ℕ) → n ≡ longest → nat_eq n longest ≡ true
same_size n is = rw is refl

other_size : (n : ℕ) → n < longest → nat_eq n longest ≡ false
other_size n less = grind (arith, nat_tests)

-- each packet has its header
packets-length : (full id : ℕ) (payload : List ℕ) → full < length (packets full id payload)
packets-length zero id payload = omega arith
packets-length (suc full) id payload = omega (arith, packets-length full (next_id id) (drop longest payload), length-append (packet id (take longest payload)) (packets full (next_id id) (drop longest payload)))

longer : (found : Found) (one next : Framed) (behind rest : List ℕ) (others : List ℕ → Found) → found ≡ Whole one behind → nat_eq (length one.payload) longest ≡ true → others behind ≡ Whole next rest
    → and_then found (λ p r. continued p r (others r)) ≡ Whole (record { first = one.first; last = next.last; payload = one.payload ++ next.payload }) rest
longer found one next behind rest others is long goes = rw (is, long, goes) refl

within-again : (full count limit announced id : ℕ) (payload rest : List ℕ) → full < count → length payload / longest ≡ full → announced + length payload ≤ limit → id < 256
    → message_within count limit announced id (packets full id payload ++ rest) ≡ Whole (record { first = id; last = (id + full) % 256; payload = payload }) rest
within-again full zero limit announced id payload rest enough parts allowed is_byte = absurd (omega arith)
within-again zero (suc count) limit announced id payload rest enough parts allowed is_byte =
    let short : length payload < longest = omega arith in
    let last : id ≡ (id + 0) % 256 = omega arith in
    rw (packet-again limit announced id payload rest (omega arith) allowed, other_size (length payload) short) (ap (λ n. Whole (record { first = id; last = n; payload = payload }) rest) last)
within-again (suc full) (suc count) limit announced id payload rest enough parts allowed is_byte =
    let long : longest ≤ length payload = omega arith in
    let body : length (take longest payload) ≡ longest = length-take-le longest payload long in
    let left : length (drop longest payload) ≡ length payload - longest = length-drop longest payload in
    let others : List ℕ = packets full (next_id id) (drop longest payload) in
    let first = packet-again limit announced id (take longest payload) (others ++ rest) (omega (arith, body)) (omega (arith, body, long)) in
    let next = within-again full count limit (announced + longest) (next_id id) (drop longest payload) rest (omega arith) (omega (arith, left, parts, long)) (omega (arith, left, long)) (omega arith) in
    let last : (next_id id + full) % 256 ≡ (id + suc full) % 256 = omega arith in
    let whole : List ℕ → Found = λ xs. and_then (first_packet limit announced id xs) (λ p r. continued p r (message_within count limit (announced + longest) (next_id id) r)) in
    ap whole (append_assoc (packet id (take longest payload)) others rest)
    ∙ longer (first_packet limit announced id (packet id (take longest payload) ++ (others ++ rest))) (record { first = id; last = id; payload = take longest payload }) (record { first = next_id id; last = (next_id id + full) % 256; payload = drop longest payload })
    (others ++ rest) rest (message_within count limit (announced + longest) (next_id id)) first (same_size (length (take longest payload)) body) next
    ∙ cc (last, take-append-drop longest payload)

pub first_message-again : (limit first : ℕ) (payload rest : List ℕ) → first < 256 → length payload ≤ limit
    → first_message limit first (spelling first payload ++ rest) ≡ Whole (record { first = first; last = (first + length payload / longest) % 256; payload = payload }) rest
unfolding first_message spelling
first_message-again limit first payload rest is_byte allowed =
    within-again (length payload / longest) (length (packets (length payload / longest) first payload ++ rest)) limit 0 first payload rest
    (omega (arith, packets-length (length payload / longest) first payload, length-append (packets (length payload / longest) first payload) rest)) refl (omega arith) is_byte
