-- Messages shorter than the longest body are one packet.
use Rattle.std.specs.Prelude.{◌≡◌, ◌≤◌, ◌<◌, ℕ, ◌+◌, ◌/◌, false, nat_eq, List, [], ◌∷◌, ◌++◌, length, take, drop, refl}
use Rattle.std.proofs.Common.{◌∙◌, sym, ap, arith}
use Rattle.std.proofs.lemmas.Bool.Decides.{nat_tests}
use Rattle.mx_base.specs.Fields.{AreBytes}
use Rattle.packet_frame.specs.Packets.{Framed, Found, first_packet, and_then, continued, message_within, first_message, message_size, next_id, longest, packet, spelling}
use Rattle.packet_frame.specs.Packets.Found.{Nothing, Whole, Faulty}
use Rattle.packet_frame.specs.PacketLaws.{packet_size, first_packet-whole}
use Rattle.packet_frame.specs.MessageLaws.{first_message-goes}
use Rattle.packet_frame.specs.SpellingLaws.{first_message-spelled}

apart : (a b : ℕ) → a < b → nat_eq a b ≡ false
apart a b less = grind (arith, nat_tests)

one_only : (limit id : ℕ) (bytes : List ℕ) (found : Found) (others : List ℕ → Found) → limit < longest → first_packet limit 0 id bytes ≡ found → and_then found (λ p r. continued p r (others r)) ≡ found
one_only limit id bytes Nothing others short is = refl
one_only limit id bytes (Whole one rest) others short is =
    let at = first_packet-whole limit 0 id bytes one rest is in
    rw (apart (length one.payload) longest (omega (arith, packet_size limit 0 id bytes one rest at, at.allowed))) refl
one_only limit id bytes (Faulty fault) others short is = refl

-- for the empty list there is no packet, so the bound on their number doesn't matter
pub first_message-one : (limit first : ℕ) (bytes : List ℕ) → limit < longest → first_message limit first bytes ≡ first_packet limit 0 first bytes
unfolding first_message
first_message-one limit first [] short = refl
first_message-one limit first (b ∷ bytes) short = one_only limit first (b ∷ bytes) (first_packet limit 0 first (b ∷ bytes)) (message_within (length bytes) limit (0 + longest) (next_id first)) short refl

-- what a message is
pub record IsMessageOf (limit first : ℕ) (bytes : List ℕ) (message : Framed) (rest : List ℕ) : Type 0 where
  pub begins : message.first ≡ first
  pub ends : message.last ≡ first
  pub fits : length message.payload ≤ limit
  pub there : 4 + length message.payload ≤ length bytes
  pub is : message.payload ≡ take (length message.payload) (drop 4 bytes)
  pub goes : rest ≡ drop (message_size bytes) bytes
  pub spelled : AreBytes bytes → bytes ≡ spelling first message.payload ++ rest

pub first_message-whole : (limit first : ℕ) (bytes : List ℕ) (message : Framed) (rest : List ℕ) → limit < longest → first_message limit first bytes ≡ Whole message rest → IsMessageOf limit first bytes message rest
first_message-whole limit first bytes message rest short whole =
    let at = first_packet-whole limit 0 first bytes message rest (sym (first_message-one limit first bytes short) ∙ whole) in
    let size = packet_size limit 0 first bytes message rest at in
    record {
      begins = ap (λ (m : Framed). m.first) at.is;
      ends = ap (λ (m : Framed). m.last) at.is;
      fits = omega (arith, size, at.allowed);
      there = omega (arith, size, at.there);
      is = rw size (ap (λ (m : Framed). m.payload) at.is);
      goes = first_message-goes limit first bytes message rest whole;
      spelled = λ are. (first_message-spelled limit first bytes message rest are whole).1;
    }

-- a short payload is spelled as one packet
pub spelling-one : (first : ℕ) (payload : List ℕ) → length payload < longest → spelling first payload ≡ packet first payload
unfolding spelling
spelling-one first payload short = let none : length payload / longest ≡ 0 = omega arith in rw none refl
