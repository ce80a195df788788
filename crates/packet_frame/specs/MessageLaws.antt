-- Laws of the message that a list of bytes begins with.
use Rattle.std.specs.Prelude.{◌≡◌, ◌⊎◌, ◌≤◌, ℕ, zero, suc, ◌+◌, Bool, true, false, cond, nat_eq, List, ◌++◌, length, drop, refl}
use Rattle.std.proofs.Common.{◌∙◌, sym, ap, inl, inr, arith, length-append}
use Rattle.std.proofs.lemmas.List.{drop-drop}
use Rattle.packet_frame.specs.declared.fault.FrameFault.{FrameFault}
use Rattle.packet_frame.specs.Packets.{Framed, Found, first_packet, packet_length, begun, and_then, continued, message_within, first_message, size_within, message_size, next_id, longest}
use Rattle.packet_frame.specs.Packets.Found.{Nothing, Whole, Faulty}
use Rattle.packet_frame.specs.PacketLaws.{PacketAt, nat_eq-true, packet_size, first_packet-whole, first_packet-whole-more, first_packet-faulty-more, packet_shorter}

and_then-whole : (found : Found) (next : Framed → List ℕ → Found) (message : Framed) (rest : List ℕ) → and_then found next ≡ Whole message rest
    → (packet : Framed) × (behind : List ℕ) × (found ≡ Whole packet behind) × (next packet behind ≡ Whole message rest)
and_then-whole Nothing next message rest e = absurd (cc)
and_then-whole (Whole packet behind) next message rest e = (packet, behind, refl, e)
and_then-whole (Faulty fault) next message rest e = absurd (cc)

and_then-faulty : (found : Found) (next : Framed → List ℕ → Found) (fault : FrameFault) → and_then found next ≡ Faulty fault
    → (found ≡ Faulty fault) ⊎ ((packet : Framed) × (behind : List ℕ) × (found ≡ Whole packet behind) × (next packet behind ≡ Faulty fault))
and_then-faulty Nothing next fault e = absurd (cc)
and_then-faulty (Whole packet behind) next fault e = inr (packet, behind, refl, e)
and_then-faulty (Faulty fault) next other e = inl e

-- a message is a packet, or one of the longest and the message that follows
chosen-whole : (b : Bool) (packet message : Framed) (behind rest : List ℕ) (others : Found) → cond b (begun packet others) (Whole packet behind) ≡ Whole message rest
    → ((b ≡ false) × (packet ≡ message) × (behind ≡ rest)) ⊎ ((b ≡ true) × (next : Framed) × (others ≡ Whole next rest) × (message ≡ record { first = packet.first; last = next.last; payload = packet.payload ++ next.payload }))
chosen-whole false packet message behind rest others e = inl (refl, cc, cc)
chosen-whole true packet message behind rest Nothing e = absurd (cc)
chosen-whole true packet message behind rest (Whole next last) e = inr (refl, next, cc, cc)
chosen-whole true packet message behind rest (Faulty fault) e = absurd (cc)

chosen-faulty : (b : Bool) (packet : Framed) (behind : List ℕ) (others : Found) (fault : FrameFault) → cond b (begun packet others) (Whole packet behind) ≡ Faulty fault → (b ≡ true) × (others ≡ Faulty fault)
chosen-faulty false packet behind others fault e = absurd (cc)
chosen-faulty true packet behind Nothing fault e = absurd (cc)
chosen-faulty true packet behind (Whole next last) fault e = absurd (cc)
chosen-faulty true packet behind (Faulty other) fault e = (refl, cc)

-- how a message is found: a packet, and behind one with the longest body the message that goes on there
pub record Led (others limit announced id : ℕ) (bytes : List ℕ) (message : Framed) (rest : List ℕ) : Type 0 where
  pub packet : Framed
  pub behind : List ℕ
  pub whole : first_packet limit announced id bytes ≡ Whole packet behind
  pub at : PacketAt limit announced id bytes packet behind
  pub goes : ((nat_eq (length packet.payload) longest ≡ false) × (packet ≡ message) × (behind ≡ rest))
      ⊎ ((nat_eq (length packet.payload) longest ≡ true) × (next : Framed) × (message_within others limit (announced + longest) (next_id id) behind ≡ Whole next rest)
      × (message ≡ record { first = packet.first; last = next.last; payload = packet.payload ++ next.payload }))

pub led : (others limit announced id : ℕ) (bytes : List ℕ) (message : Framed) (rest : List ℕ) → message_within (suc others) limit announced id bytes ≡ Whole message rest → Led others limit announced id bytes message rest
led others limit announced id bytes message rest whole =
    let begins = and_then-whole (first_packet limit announced id bytes) (λ (p : Framed) (r : List ℕ). continued p r (message_within others limit (announced + longest) (next_id id) r)) message rest whole in
    let packet : Framed = begins.0 in
    let behind : List ℕ = begins.1 in
    record {
      packet = packet;
      behind = behind;
      whole = begins.2;
      at = first_packet-whole limit announced id bytes packet behind begins.2;
      goes = chosen-whole (nat_eq (length packet.payload) longest) packet message behind rest (message_within others limit (announced + longest) (next_id id) behind) begins.3;
    }

-- bytes that come later change nothing of it
pub within-whole-more : (packets others limit announced id : ℕ) (bytes more : List ℕ) (message : Framed) (rest : List ℕ) → packets ≤ others → message_within packets limit announced id bytes ≡ Whole message rest → message_within others limit announced id (bytes ++ more) ≡ Whole message (rest ++ more)
within-whole-more zero others limit announced id bytes more message rest enough whole = absurd (cc)
within-whole-more (suc packets) zero limit announced id bytes more message rest enough whole = absurd (omega arith)
within-whole-more (suc packets) (suc others) limit announced id bytes more message rest enough whole =
    let by = led packets limit announced id bytes message rest whole in
    let again : first_packet limit announced id (bytes ++ more) ≡ Whole by.packet (by.behind ++ more) = first_packet-whole-more limit announced id bytes more by.packet by.behind by.whole in
    rw again (elim by.goes [
      | inl last ↦ rw (last.0) (cc (last.1, last.2))
      | inr long ↦ rw (long.0, within-whole-more packets others limit (announced + longest) (next_id id) by.behind more long.1 rest (omega arith) long.2) (cc (long.3))
    ])

pub within-faulty-more : (packets others limit announced id : ℕ) (bytes more : List ℕ) (fault : FrameFault) → packets ≤ others → message_within packets limit announced id bytes ≡ Faulty fault → message_within others limit announced id (bytes ++ more) ≡ Faulty fault
within-faulty-more zero others limit announced id bytes more fault enough faulty = absurd (cc)
within-faulty-more (suc packets) zero limit announced id bytes more fault enough faulty = absurd (omega arith)
within-faulty-more (suc packets) (suc others) limit announced id bytes more fault enough faulty =
    let begins = and_then-faulty (first_packet limit announced id bytes) (λ (p : Framed) (r : List ℕ). continued p r (message_within packets limit (announced + longest) (next_id id) r)) fault faulty in
    elim begins [
      | inl now ↦ rw (first_packet-faulty-more limit announced id bytes more fault now) refl
      | inr later ↦
          let goes = chosen-faulty (nat_eq (length (later.0).payload) longest) later.0 later.1 (message_within packets limit (announced + longest) (next_id id) later.1) fault later.3 in
          rw (first_packet-whole-more limit announced id bytes more later.0 later.1 later.2, goes.0, within-faulty-more packets others limit (announced + longest) (next_id id) later.1 more fault (omega arith) goes.1) refl
    ]

pub within-shorter : (packets limit announced id : ℕ) (bytes : List ℕ) (message : Framed) (rest : List ℕ) → message_within packets limit announced id bytes ≡ Whole message rest → length rest + length message.payload + 4 ≤ length bytes
within-shorter zero limit announced id bytes message rest whole = absurd (cc)
within-shorter (suc packets) limit announced id bytes message rest whole =
    let by = led packets limit announced id bytes message rest whole in
    let shorter : length by.behind + length by.packet.payload + 4 ≤ length bytes = packet_shorter limit announced id bytes by.packet by.behind by.at in
    elim by.goes [
      | inl last ↦ omega (arith, shorter, ap length last.2, ap (λ (m : Framed). length m.payload) last.1)
      | inr long ↦
          let others = within-shorter packets limit (announced + longest) (next_id id) by.behind long.1 rest long.2 in
          omega (arith, shorter, others, ap (λ (m : Framed). length m.payload) long.3, length-append by.packet.payload (long.1).payload)
    ]

-- what is behind a message is what its packets leave
last_size : (count : ℕ) (bytes : List ℕ) → nat_eq (packet_length bytes) longest ≡ false → size_within (suc count) bytes ≡ 4 + packet_length bytes
last_size count bytes last = rw last refl

longer_size : (count : ℕ) (bytes : List ℕ) → nat_eq (packet_length bytes) longest ≡ true → size_within (suc count) bytes ≡ 4 + longest + size_within count (drop (4 + longest) bytes)
longer_size count bytes long = rw long refl

within-goes : (packets limit announced id : ℕ) (bytes : List ℕ) (message : Framed) (rest : List ℕ) → message_within packets limit announced id bytes ≡ Whole message rest → rest ≡ drop (size_within packets bytes) bytes
within-goes zero limit announced id bytes message rest whole = absurd (cc)
within-goes (suc packets) limit announced id bytes message rest whole =
    let by = led packets limit announced id bytes message rest whole in
    let size : length by.packet.payload ≡ packet_length bytes = packet_size limit announced id bytes by.packet by.behind by.at in
    let test : nat_eq (length by.packet.payload) longest ≡ nat_eq (packet_length bytes) longest = ap (λ n. nat_eq n longest) size in
    elim by.goes [
      | inl last ↦ sym last.2 ∙ by.at.goes ∙ ap (λ n. drop n bytes) (sym (last_size packets bytes (sym test ∙ last.0)))
      | inr long ↦
          let full : packet_length bytes ≡ longest = nat_eq-true _ _ (sym test ∙ long.0) in
          let goes : by.behind ≡ drop (4 + longest) bytes = by.at.goes ∙ ap (λ n. drop (4 + n) bytes) full in
          within-goes packets limit (announced + longest) (next_id id) by.behind long.1 rest long.2
          ∙ ap (λ xs. drop (size_within packets xs) xs) goes
          ∙ drop-drop (size_within packets (drop (4 + longest) bytes)) (4 + longest) bytes
          ∙ ap (λ n. drop n bytes) (sym (longer_size packets bytes (sym test ∙ long.0)))
    ]

pub first_message-goes : (limit first : ℕ) (bytes : List ℕ) (message : Framed) (rest : List ℕ) → first_message limit first bytes ≡ Whole message rest → rest ≡ drop (message_size bytes) bytes
unfolding first_message message_size
first_message-goes limit first bytes message rest whole = within-goes (length bytes) limit 0 first bytes message rest whole
