-- Packets that are joined, and the message that they begin.
use Rattle.std.proofs.Common.{◌≡◌, ◌≢◌, ◌⊎◌, inl, inr, ◌≤◌, ◌<◌, ℕ, zero, suc, ◌+◌, ◌-◌, ◌*◌, ◌/◌, ◌%◌, Bool, true, false, cond, nat_eq, List, [], ◌∷◌, ◌++◌, length, take, drop, Option, Some, None, Ok, Err, refl, ◌∙◌, sym, ap, subst, arith, append-nil, append_assoc, length-append, length-drop}
use Rattle.std.proofs.lemmas.List.{length-take-le, take_all, take-append-le, drop-append-le, take-append-drop, nil_from_length}
use Rattle.mx_base.specs.Fields.{AreBytes}
use Rattle.packet_frame.specs.declared.fault.FrameFault.{FrameFault}
use Rattle.packet_frame.specs.declared.fault.FrameFault.TheVariants.{OutOfOrder}
use Rattle.packet_frame.specs.declared.message.Message.{Message}
use Rattle.packet_frame.specs.Packets.{Framed, Found, first_packet, packet_length, packet_id, and_then, continued, message_within, first_message, next_id, longest, packet, packets, spelling}
use Rattle.packet_frame.specs.Packets.Found.{Nothing, Whole, Faulty}
use Rattle.packet_frame.specs.PacketLaws.{packet_size, nat_eq-true, nat_eq-false, first_packet-is, first_packet-whole, first_packet-fault}
use Rattle.packet_frame.specs.SpellingLaws.{packet_at_spelled, packet_length-most}
use Rattle.packet_frame.specs.RoundTrip.{length-spelled, packet-again, same_size, first_message-again}
use Rattle.packet_frame.specs.Joining.{Joined, in_packets, as_read, ends_by, joined_message, IsJoined, with_next, next_joined, next_told, body_told, told, message_told, found_in}
use Rattle.packet_frame.specs.FramerState.{answer}

-- a whole number of the longest bodies
pub front-full : (count : ℕ) (payload : List ℕ) → length payload ≡ suc count * longest → length (take longest payload) ≡ longest
front-full count payload full = length-take-le longest payload (omega arith)

pub behind-full : (count : ℕ) (payload : List ℕ) → length payload ≡ suc count * longest → length (drop longest payload) ≡ count * longest
behind-full count payload full = omega (arith, length-drop longest payload)

pub in_packets-length : (count id : ℕ) (payload : List ℕ) → length payload ≤ count * longest → length (in_packets count id payload) ≡ 4 * count + length payload
in_packets-length zero id payload most = omega arith
in_packets-length (suc count) id payload most =
    let parts : length (take longest payload) + length (drop longest payload) ≡ length payload = sym (length-append (take longest payload) (drop longest payload)) ∙ ap length (take-append-drop longest payload) in
    omega (arith, length-drop longest payload, parts, length-append (packet id (take longest payload)) (in_packets count (next_id id) (drop longest payload)), in_packets-length count (next_id id) (drop longest payload) (omega (arith, length-drop longest payload)))

-- one packet more
pub in_packets-more : (count id : ℕ) (payload body : List ℕ) → id < 256 → length payload ≡ count * longest → length body ≤ longest
    → in_packets (suc count) id (payload ++ body) ≡ in_packets count id payload ++ packet ((id + count) % 256) body
in_packets-more zero id payload body is_byte full most =
    let none : payload ≡ [] = nil_from_length payload (omega arith) in
    let same : id ≡ (id + 0) % 256 = omega arith in
    ap (λ xs. packet id (take longest (xs ++ body)) ++ []) none ∙ append-nil (packet id (take longest body)) ∙ ap (λ xs. packet id xs) (take_all longest body most) ∙ ap (λ i. packet i body) same
in_packets-more (suc count) id payload body is_byte full most =
    let front : take longest (payload ++ body) ≡ take longest payload = take-append-le longest payload body (omega arith) in
    let back : drop longest (payload ++ body) ≡ drop longest payload ++ body = drop-append-le longest payload body (omega arith) in
    let last : (next_id id + count) % 256 ≡ (id + suc count) % 256 = omega arith in
    ap (λ xs. packet id xs ++ in_packets (suc count) (next_id id) (drop longest (payload ++ body))) front
    ∙ ap (λ xs. packet id (take longest payload) ++ in_packets (suc count) (next_id id) xs) back
    ∙ ap (λ xs. packet id (take longest payload) ++ xs) (in_packets-more count (next_id id) (drop longest payload) body (omega arith) (behind-full count payload full) most)
    ∙ ap (λ i. packet id (take longest payload) ++ (in_packets count (next_id id) (drop longest payload) ++ packet i body)) last
    ∙ sym (append_assoc (packet id (take longest payload)) (in_packets count (next_id id) (drop longest payload)) (packet ((id + suc count) % 256) body))

-- all packets of a payload are its spelling
pub in_packets-all : (full id : ℕ) (payload : List ℕ) → length payload / longest ≡ full → in_packets (suc full) id payload ≡ packets full id payload
in_packets-all zero id payload parts = append-nil (packet id (take longest payload)) ∙ ap (λ xs. packet id xs) (take_all longest payload (omega arith))
in_packets-all (suc full) id payload parts =
    ap (λ xs. packet id (take longest payload) ++ xs) (in_packets-all full (next_id id) (drop longest payload) (omega (arith, length-drop longest payload)))

-- no whole message, or a fault
abbrev pub IsCut : Found → Type 0
IsCut Nothing = Unit {0}
IsCut (Whole message rest) = ⊥
IsCut (Faulty fault) = Unit {0}

cut-stays : (found : Found) (next : Framed → List ℕ → Found) → IsCut found → and_then found next ≡ found
cut-stays Nothing next cut = refl
cut-stays (Whole message rest) next cut = absurd cut
cut-stays (Faulty fault) next cut = refl

cut-longer : (found : Found) (one : Framed) (behind : List ℕ) (others : List ℕ → Found) (cut : Found) → found ≡ Whole one behind → nat_eq (length one.payload) longest ≡ true → others behind ≡ cut → IsCut cut → and_then found (λ p r. continued p r (others r)) ≡ cut
cut-longer found one behind others Nothing is long goes cut = rw (is, long, goes) refl
cut-longer found one behind others (Whole message rest) is long goes cut = absurd cut
cut-longer found one behind others (Faulty fault) is long goes cut = rw (is, long, goes) refl

within-cut : (full count limit announced id : ℕ) (payload rest : List ℕ) (found : Found) → full < count → length payload ≡ full * longest → announced + length payload ≤ limit → id < 256
    → first_packet limit (announced + length payload) ((id + full) % 256) rest ≡ found → IsCut found → message_within count limit announced id (in_packets full id payload ++ rest) ≡ found
within-cut full zero limit announced id payload rest found enough parts allowed is_byte is cut = absurd (omega arith)
within-cut zero (suc count) limit announced id payload rest found enough parts allowed is_byte is cut =
    let so_far : announced ≡ announced + length payload = omega arith in
    let same : id ≡ (id + 0) % 256 = omega arith in
    let next : Framed → List ℕ → Found = λ p r. continued p r (message_within count limit (announced + longest) (next_id id) r) in
    ap (λ n. and_then (first_packet limit n id rest) next) so_far ∙ ap (λ i. and_then (first_packet limit (announced + length payload) i rest) next) same
    ∙ ap (λ f. and_then f next) is ∙ cut-stays found next cut
within-cut (suc full) (suc count) limit announced id payload rest found enough parts allowed is_byte is cut =
    let body : length (take longest payload) ≡ longest = front-full full payload parts in
    let left : length (drop longest payload) ≡ full * longest = behind-full full payload parts in
    let others : List ℕ = in_packets full (next_id id) (drop longest payload) in
    let first = packet-again limit announced id (take longest payload) (others ++ rest) (omega (arith, body)) (omega (arith, body)) in
    let so_far : announced + longest + length (drop longest payload) ≡ announced + length payload = omega (arith, left) in
    let due : (next_id id + full) % 256 ≡ (id + suc full) % 256 = omega arith in
    let at : first_packet limit (announced + longest + length (drop longest payload)) ((next_id id + full) % 256) rest ≡ found =
    ap (λ n. first_packet limit n ((next_id id + full) % 256) rest) so_far ∙ ap (λ i. first_packet limit (announced + length payload) i rest) due ∙ is in
    let next = within-cut full count limit (announced + longest) (next_id id) (drop longest payload) rest found (omega arith) left (omega (arith, so_far)) (omega arith) at cut in
    let whole : List ℕ → Found = λ xs. and_then (first_packet limit announced id xs) (λ p r. continued p r (message_within count limit (announced + longest) (next_id id) r)) in
    ap whole (append_assoc (packet id (take longest payload)) others rest)
    ∙ cut-longer (first_packet limit announced id (packet id (take longest payload) ++ (others ++ rest))) (record { first = id; last = id; payload = take longest payload })
    (others ++ rest) (message_within count limit (announced + longest) (next_id id)) found first (same_size (length (take longest payload)) body) next cut

message-cut : (full limit id : ℕ) (payload rest : List ℕ) (found : Found) → length payload ≡ full * longest → length payload ≤ limit → id < 256
    → first_packet limit (length payload) ((id + full) % 256) rest ≡ found → IsCut found → first_message limit id (in_packets full id payload ++ rest) ≡ found
unfolding first_message
message-cut zero limit id payload [] found parts allowed is_byte is cut = is
message-cut zero limit id payload (b ∷ rest) found parts allowed is_byte is cut =
    let so_far : 0 + length payload ≡ length payload = omega arith in
    within-cut zero (suc (length rest)) limit 0 id payload (b ∷ rest) found (omega arith) parts (omega arith) is_byte (ap (λ n. first_packet limit n ((id + 0) % 256) (b ∷ rest)) so_far ∙ is) cut
message-cut (suc full) limit id payload rest found parts allowed is_byte is cut =
    let so_far : 0 + length payload ≡ length payload = omega arith in
    within-cut (suc full) (length (in_packets (suc full) id payload ++ rest)) limit 0 id payload rest found
    (omega (arith, in_packets-length (suc full) id payload (omega arith), length-append (in_packets (suc full) id payload) rest)) parts (omega arith) is_byte
    (ap (λ n. first_packet limit n ((id + suc full) % 256) rest) so_far ∙ is) cut

-- which of both it is
chosen-none : (b : Bool) (message : Framed) → cond b None (Some message) ≡ None → b ≡ true
chosen-none true message none = refl
chosen-none false message none = absurd (cc)

chosen-some : (b : Bool) (one message : Framed) → cond b None (Some one) ≡ Some message → (b ≡ false) × (message ≡ one)
chosen-some true one message some = absurd (cc)
chosen-some false one message some = (refl, cc)

whole_of : (full : ℕ) → Joined → Framed
whole_of full joined = record { first = joined.first; last = (joined.first + full) % 256; payload = joined.payload }

ends-none : (full count : ℕ) (joined : Joined) → ends_by full count joined ≡ None → full ≡ count
unfolding whole_of
ends-none full count joined none = nat_eq-true full count (chosen-none (nat_eq full count) (whole_of full joined) none)

ends-some : (full count : ℕ) (joined : Joined) (message : Framed) → ends_by full count joined ≡ Some message → (full ≢ count) × (message ≡ record { first = joined.first; last = (joined.first + full) % 256; payload = joined.payload })
unfolding whole_of
ends-some full count joined message some =
    let which = chosen-some (nat_eq full count) (whole_of full joined) message some in
    (nat_eq-false full count which.0, which.1)

pub open-size : (limit : ℕ) (joined : Joined) → IsJoined limit joined → joined_message joined ≡ None → length joined.payload ≡ joined.packets * longest
open-size limit joined at none = elim at.size [
  | inl full ↦ full
  | inr ended ↦ absurd (let full = ends-none (length joined.payload / longest) joined.packets joined none in omega (arith, ended, full))
]

pub ended-size : (limit : ℕ) (joined : Joined) (message : Framed) → IsJoined limit joined → joined_message joined ≡ Some message → joined.packets ≡ suc (length joined.payload / longest)
ended-size limit joined message at some = elim at.size [
  | inl all ↦ (let full = ends-some (length joined.payload / longest) joined.packets joined message some in absurd (full.0 (omega (arith, all))))
  | inr ended ↦ ended
]

pub most-size : (limit : ℕ) (joined : Joined) → IsJoined limit joined → length joined.payload ≤ joined.packets * longest
most-size limit joined at = elim at.size [
  | inl full ↦ omega (arith, full)
  | inr ended ↦ omega (arith, ended)
]

-- what is found where no more is joined
pub found-cut : (limit : ℕ) (joined : Joined) (found : Found) → IsJoined limit joined → joined_message joined ≡ None → first_packet limit (length joined.payload) ((joined.first + joined.packets) % 256) joined.rest ≡ found → IsCut found
    → first_message limit joined.first (as_read joined) ≡ found
found-cut limit joined found at none is cut = message-cut joined.packets limit joined.first joined.payload joined.rest found (open-size limit joined at none) at.fits at.is_byte is cut

pub found-whole : (limit : ℕ) (joined : Joined) (message : Framed) → IsJoined limit joined → joined_message joined ≡ Some message → first_message limit joined.first (as_read joined) ≡ Whole message joined.rest
unfolding spelling
found-whole limit joined message at some =
    let full : ℕ = length joined.payload / longest in
    let is : message ≡ record { first = joined.first; last = (joined.first + full) % 256; payload = joined.payload } = (ends-some full joined.packets joined message some).1 in
    let all : in_packets joined.packets joined.first joined.payload ≡ spelling joined.first joined.payload =
    ap (λ n. in_packets n joined.first joined.payload) (ended-size limit joined message at some) ∙ in_packets-all full joined.first joined.payload refl in
    ap (λ xs. first_message limit joined.first (xs ++ joined.rest)) all
    ∙ first_message-again limit joined.first joined.payload joined.rest at.is_byte at.fits
    ∙ ap (λ (m : Framed). Whole m joined.rest) (sym is)

-- one packet more is joined
full_or_less : (n : ℕ) → n ≤ longest → (n ≡ longest) ⊎ (n < longest)
full_or_less n most = grind arith

pub record Goes (limit : ℕ) (old new : Joined) : Type 0 where
  pub joined : IsJoined limit new
  pub same : as_read new ≡ as_read old
  pub shorter : length new.rest < length old.rest

pub goes-on : (limit : ℕ) (joined : Joined) (next : Framed) (behind : List ℕ) → IsJoined limit joined → joined_message joined ≡ None → AreBytes joined.rest
    → first_packet limit (length joined.payload) ((joined.first + joined.packets) % 256) joined.rest ≡ Whole next behind → Goes limit joined (with_next next behind joined)
goes-on limit joined next behind at none are is =
    let due : ℕ = (joined.first + joined.packets) % 256 in
    let packet_at = first_packet-whole limit (length joined.payload) due joined.rest next behind is in
    let spelled = packet_at_spelled limit (length joined.payload) due joined.rest next behind are packet_at in
    let so_far : length joined.payload ≡ joined.packets * longest = open-size limit joined at none in
    let one_more : joined.packets + 1 ≡ suc joined.packets = omega arith in
    let size : length (joined.payload ++ next.payload) ≡ length joined.payload + length next.payload = length-append joined.payload next.payload in
    let body : length next.payload ≡ packet_length joined.rest = packet_size limit (length joined.payload) due joined.rest next behind packet_at in
    let total : length joined.rest ≡ 4 + length next.payload + length behind = ap length spelled.0 ∙ length-spelled due next.payload behind in
    record {
      joined = record {
        is_byte = at.is_byte;
        fits = omega (arith, size, body, packet_at.allowed);
        size = elim (full_or_less (length next.payload) spelled.1) [
          | inl full ↦ inl (omega (arith, size, so_far, full))
          | inr less ↦ inr (omega (arith, size, so_far, less))
        ];
      };
      same = ap (λ n. in_packets n joined.first (joined.payload ++ next.payload) ++ behind) one_more
          ∙ ap (λ xs. xs ++ behind) (in_packets-more joined.packets joined.first joined.payload next.payload at.is_byte so_far spelled.1)
          ∙ append_assoc (in_packets joined.packets joined.first joined.payload) (packet due next.payload) behind
          ∙ ap (λ xs. in_packets joined.packets joined.first joined.payload ++ xs) (sym spelled.0);
      shorter = omega (arith, total);
    }

-- another id was joined
other_first : (limit first a b c other : ℕ) (tail : List ℕ) → first ≢ other → first_message limit first (a ∷ b ∷ c ∷ other ∷ tail) ≡ Faulty (OutOfOrder first other)
unfolding first_message
other_first limit first a b c other tail apart =
    let fault = first_packet-fault limit 0 first (a ∷ b ∷ c ∷ other ∷ tail) (OutOfOrder first other) (record { header = omega arith; which = inl (λ same. apart (sym same), refl) }) in
    ap (λ f. and_then f (λ p r. continued p r (message_within (suc (suc (suc (length tail)))) limit (0 + longest) (next_id first) r))) fault

pub found-other : (limit first : ℕ) (joined : Joined) → 0 < joined.packets → first ≢ joined.first → first_message limit first (as_read joined) ≡ Faulty (OutOfOrder first joined.first)
found-other limit first joined some apart = by joined.packets some where
  by : (packets : ℕ) → 0 < packets → first_message limit first (in_packets packets joined.first joined.payload ++ joined.rest) ≡ Faulty (OutOfOrder first joined.first)
  by zero none = absurd (omega arith)
  by (suc packets) some =
      other_first limit first (length (take longest joined.payload) % 256) (length (take longest joined.payload) / 256 % 256) (length (take longest joined.payload) / 65536) joined.first
      ((take longest joined.payload ++ in_packets packets (next_id joined.first) (drop longest joined.payload)) ++ joined.rest) apart

-- what is told of the packet that bytes begin with
pub told-whole : (limit announced id : ℕ) (bytes : List ℕ) → 4 ≤ length bytes → packet_id bytes ≡ id → announced + packet_length bytes ≤ limit → packet_length bytes ≤ length bytes - 4
    → Ok (Some (packet_length bytes)) ≡ body_told (first_packet limit announced id bytes)
told-whole limit announced id bytes header due allowed there =
    let size : length (take (packet_length bytes) (drop 4 bytes)) ≡ packet_length bytes = length-take-le (packet_length bytes) (drop 4 bytes) (omega (arith, length-drop 4 bytes)) in
    sym (ap body_told (first_packet-is limit announced id bytes header due allowed (omega arith)) ∙ ap (λ n. Ok (Some n)) size)

pub record BodyAt (limit announced id : ℕ) (bytes : List ℕ) (size : ℕ) : Type 0 where
  pub there : 4 + size ≤ length bytes
  pub most : size ≤ longest
  pub is : first_packet limit announced id bytes ≡ Whole (record { first = id; last = id; payload = take size (drop 4 bytes) }) (drop (4 + size) bytes)

pub told-body : (limit announced id : ℕ) (bytes : List ℕ) (size : ℕ) → AreBytes bytes → Ok (Some size) ≡ body_told (first_packet limit announced id bytes) → BodyAt limit announced id bytes size
told-body limit announced id bytes size are told = by (first_packet limit announced id bytes) refl told where
  by : (found : Found) → first_packet limit announced id bytes ≡ found → Ok (Some size) ≡ body_told found → BodyAt limit announced id bytes size
  by Nothing is told = absurd (cc)
  by (Whole next behind) is told =
      let at = first_packet-whole limit announced id bytes next behind is in
      let same : size ≡ packet_length bytes = (let one : size ≡ length next.payload = cc in one ∙ packet_size limit announced id bytes next behind at) in
      record {
        there = omega (arith, same, at.there);
        most = omega (arith, same, packet_length-most bytes are);
        is = rw same (first_packet-is limit announced id bytes at.header at.due at.allowed at.there);
      }
  by (Faulty fault) is told = absurd (cc)

-- of the packet that is due
pub due-body : (limit : ℕ) (joined : Joined) (announced id : ℕ) (bytes : List ℕ) (size : ℕ) → announced ≡ length joined.payload → id ≡ (joined.first + joined.packets) % 256 → bytes ≡ joined.rest → AreBytes bytes
    → Ok (Some size) ≡ body_told (first_packet limit announced id bytes) → BodyAt limit (length joined.payload) ((joined.first + joined.packets) % 256) joined.rest size
due-body limit joined announced id bytes size so_far due is are told =
    subst (λ xs. BodyAt limit (length joined.payload) ((joined.first + joined.packets) % 256) xs size) is
    (subst (λ i. BodyAt limit (length joined.payload) i bytes size) due
    (subst (λ n. BodyAt limit n id bytes size) so_far (told-body limit announced id bytes size are told)))

-- what is told of the message
pub untold : (message : Option Framed) → None ≡ message_told message → message ≡ None
untold None is = refl
untold (Some message) is = absurd (cc)

pub told-message : (message : Option Framed) (told_as : Message) → Some told_as ≡ message_told message → (framed : Framed) × (message ≡ Some framed) × (told_as ≡ told framed)
told-message None told_as is = absurd (cc)
told-message (Some framed) told_as is = (framed, refl, cc)

-- How the joining of a message ends, where the bytes are those of `old`.
module _ (limit : ℕ) (old now : Joined) (at : IsJoined limit now) (same : as_read now ≡ as_read old) (first : now.first ≡ old.first) where
  moved : (found : Found) → first_message limit now.first (as_read now) ≡ found → first_message limit old.first (as_read old) ≡ found
  moved found is = ap (λ i. first_message limit i (as_read old)) (sym first) ∙ ap (first_message limit now.first) (sym same) ∙ is

  abbrev due_packet : Found
  due_packet = first_packet limit (length now.payload) ((now.first + now.packets) % 256) now.rest

  -- its last packet is joined
  pub all-found : (message : Message) → Some message ≡ message_told (joined_message now) → Ok (Some message) ≡ answer (first_message limit old.first (as_read old))
  all-found message is =
      let whole = told-message (joined_message now) message is in
      ap (λ m. Ok (Some m)) whole.2 ∙ sym (ap answer (moved (Whole whole.0 now.rest) (found-whole limit now whole.0 at whole.1)))

  pub all-message : (message : Message) → Some message ≡ message_told (joined_message now) → joined_message now ≡ found_in (first_message limit old.first (as_read old))
  all-message message is =
      let whole = told-message (joined_message now) message is in
      whole.1 ∙ sym (ap found_in (moved (Whole whole.0 now.rest) (found-whole limit now whole.0 at whole.1)))

  -- a packet can't be
  pub all-fault : (fault : FrameFault) → None ≡ message_told (joined_message now) → Err fault ≡ next_told due_packet → Err fault ≡ answer (first_message limit old.first (as_read old))
  all-fault fault none told = by due_packet refl told where
    by : (found : Found) → due_packet ≡ found → Err fault ≡ next_told found → Err fault ≡ answer (first_message limit old.first (as_read old))
    by Nothing is told = absurd (cc)
    by (Whole next behind) is told = absurd (cc)
    by (Faulty other) is told = (let same_fault : fault ≡ other = cc in ap Err same_fault ∙ sym (ap answer (moved (Faulty other) (found-cut limit now (Faulty other) at (untold (joined_message now) none) is tt))))

  -- it isn't there
  pub nothing-due : Ok false ≡ next_told due_packet → due_packet ≡ Nothing
  nothing-due told = by due_packet refl told where
    by : (found : Found) → due_packet ≡ found → Ok false ≡ next_told found → due_packet ≡ Nothing
    by Nothing is told = is
    by (Whole next behind) is told = absurd (cc)
    by (Faulty fault) is told = absurd (cc)

  pub all-none : None ≡ message_told (joined_message now) → Ok false ≡ next_told due_packet → Ok None ≡ answer (first_message limit old.first (as_read old))
  all-none none told = sym (ap answer (moved Nothing (found-cut limit now Nothing at (untold (joined_message now) none) (nothing-due told) tt)))

  pub all-empty : (new : Joined) → None ≡ message_told (joined_message now) → Ok false ≡ next_told due_packet → new ≡ next_joined due_packet now → joined_message new ≡ found_in (first_message limit old.first (as_read old))
  all-empty new none told goes =
      let nothing = nothing-due told in
      ap joined_message (goes ∙ ap (λ found. next_joined found now) nothing) ∙ untold (joined_message now) none
      ∙ sym (ap found_in (moved Nothing (found-cut limit now Nothing at (untold (joined_message now) none) nothing tt)))

  -- it is joined
  pub all-more : (new : Joined) → None ≡ message_told (joined_message now) → AreBytes now.rest → Ok true ≡ next_told due_packet → new ≡ next_joined due_packet now → Goes limit now new × (new.first ≡ now.first)
  all-more new none are told goes = by due_packet refl told goes where
    by : (found : Found) → due_packet ≡ found → Ok true ≡ next_told found → new ≡ next_joined found now → Goes limit now new × (new.first ≡ now.first)
    by Nothing is told goes = absurd (cc)
    by (Whole next behind) is told goes = (subst (Goes limit now) (sym goes) (goes-on limit now next behind at (untold (joined_message now) none) are is), ap (λ (j : Joined). j.first) goes)
    by (Faulty fault) is told goes = absurd (cc)
