-- What is read as a message is the one spelling of its payload.
use Rattle.std.specs.Prelude.{◌≡◌, ◌≤◌, ◌<◌, ℕ, zero, suc, ◌+◌, ◌*◌, ◌/◌, ◌%◌, true, false, nat_eq, List, [], ◌∷◌, ◌++◌, length, take, drop}
use Rattle.std.proofs.Common.{◌∙◌, sym, ap, subst, inl, inr, arith, length-append, length-drop, append_assoc}
use Rattle.std.proofs.Math.Seq.{take-append_seam, drop-append_seam, drop-append-add}
use Rattle.std.proofs.lemmas.List.{length-take-le, take-append-drop, get_or-drop}
use Rattle.mx_base.specs.Fields.{AreBytes}
use Rattle.packet_frame.specs.Packets.{Framed, packet_length, packet_id, message_within, first_message, next_id, longest, packet, packets, spelling}
use Rattle.packet_frame.specs.Packets.Found.{Whole}
use Rattle.packet_frame.specs.PacketLaws.{PacketAt, nat_eq-true, nat_eq-false}
use Rattle.packet_frame.specs.MessageLaws.{led}

-- three bytes and the number that they spell
three_bytes : (a b c n : ℕ) → a < 256 → b < 256 → c < 256 → n ≡ a + 256 * (b + 256 * c) → (n % 256 ≡ a) × (n / 256 % 256 ≡ b) × (n / 65536 ≡ c) × (n ≤ longest)
three_bytes a b c n low middle high is =
    let upper : n / 256 ≡ b + 256 * c = omega arith in
    (omega arith, omega (arith, upper), omega arith, omega arith)

first_three : (a b c i : ℕ) (tail : List ℕ) → packet_length (a ∷ b ∷ c ∷ i ∷ tail) ≡ a + 256 * (b + 256 * c)
first_three a b c i tail = omega arith

four_cells : (a b c x y z i : ℕ) (tail front back behind : List ℕ) → x ≡ a → y ≡ b → z ≡ c → front ++ back ≡ tail → behind ≡ back → a ∷ b ∷ c ∷ i ∷ tail ≡ (x ∷ y ∷ z ∷ i ∷ front) ++ behind
four_cells a b c x y z i tail front back behind first second third joined same = cc

pub packet_spelled : (bytes : List ℕ) → AreBytes bytes → 4 ≤ length bytes → 4 + packet_length bytes ≤ length bytes → bytes ≡ packet (packet_id bytes) (take (packet_length bytes) (drop 4 bytes)) ++ drop (4 + packet_length bytes) bytes
packet_spelled [] are header there = absurd (omega arith)
packet_spelled (a ∷ []) are header there = absurd (omega arith)
packet_spelled (a ∷ b ∷ []) are header there = absurd (omega arith)
packet_spelled (a ∷ b ∷ c ∷ []) are header there = absurd (omega arith)
packet_spelled (a ∷ b ∷ c ∷ i ∷ tail) are header there =
    let n = packet_length (a ∷ b ∷ c ∷ i ∷ tail) in
    let size : length (take n tail) ≡ n = length-take-le n tail (omega arith) in
    let parts = three_bytes a b c (length (take n tail)) (are 0) (are 1) (are 2) (size ∙ first_three a b c i tail) in
    four_cells a b c (length (take n tail) % 256) (length (take n tail) / 256 % 256) (length (take n tail) / 65536) i tail (take n tail) (drop n tail) (drop (4 + n) (a ∷ b ∷ c ∷ i ∷ tail))
    parts.0 parts.1 parts.2 (take-append-drop n tail) (drop-append-add (a ∷ b ∷ c ∷ i ∷ []) tail n)

pub packet_length-most : (bytes : List ℕ) → AreBytes bytes → packet_length bytes ≤ longest
packet_length-most [] are = omega arith
packet_length-most (a ∷ []) are = omega (arith, are 0)
packet_length-most (a ∷ b ∷ []) are = omega (arith, are 0, are 1)
packet_length-most (a ∷ b ∷ c ∷ tail) are = omega (arith, are 0, are 1, are 2)

pub spelled-longer : (id : ℕ) (body more : List ℕ) → length body ≡ longest → packets (length (body ++ more) / longest) id (body ++ more) ≡ packet id body ++ packets (length more / longest) (next_id id) more
spelled-longer id body more long =
    let count : length (body ++ more) / longest ≡ suc (length more / longest) = omega (arith, length-append body more, long) in
    let front : take longest (body ++ more) ≡ body = rw (← long) (take-append_seam body more) in
    let back : drop longest (body ++ more) ≡ more = rw (← long) (drop-append_seam body more) in
    ap (λ n. packets n id (body ++ more)) count ∙ cc (front, back)

-- a message is its spelling
pub record IsSpelled (id : ℕ) (bytes : List ℕ) (message : Framed) (rest : List ℕ) : Type 0 where
  pub begins : message.first ≡ id
  pub spelled : bytes ≡ packets (length message.payload / longest) id message.payload ++ rest

spelled-last : (id : ℕ) (bytes : List ℕ) (one message : Framed) (behind rest : List ℕ) → one.first ≡ id → bytes ≡ packet id one.payload ++ behind → length one.payload ≤ longest → nat_eq (length one.payload) longest ≡ false → one ≡ message → behind ≡ rest → IsSpelled id bytes message rest
spelled-last id bytes one message behind rest first spelled most shorter same also =
    let none : length one.payload / longest ≡ 0 = omega (arith, most, nat_eq-false _ _ shorter) in
    let is : IsSpelled id bytes one behind = record { begins = first; spelled = spelled ∙ ap (λ n. packets n id one.payload ++ behind) (sym none) } in
    subst (λ m. IsSpelled id bytes m rest) same (subst (IsSpelled id bytes one) also is)

spelled-more : (id : ℕ) (bytes : List ℕ) (one next message : Framed) (behind rest : List ℕ) → one.first ≡ id → bytes ≡ packet id one.payload ++ behind → nat_eq (length one.payload) longest ≡ true → message ≡ record { first = one.first; last = next.last; payload = one.payload ++ next.payload }
    → behind ≡ packets (length next.payload / longest) (next_id id) next.payload ++ rest → IsSpelled id bytes message rest
spelled-more id bytes one next message behind rest first spelled long is others =
    let longer = spelled-longer id one.payload next.payload (nat_eq-true _ _ long) in
    subst (λ m. IsSpelled id bytes m rest) (sym is) (record {
      begins = first;
      spelled = spelled ∙ ap (λ xs. packet id one.payload ++ xs) others ∙ sym (append_assoc (packet id one.payload) (packets (length next.payload / longest) (next_id id) next.payload) rest) ∙ ap (λ xs. xs ++ rest) (sym longer);
    })

pub AreBytes-drop : (n : ℕ) (bytes : List ℕ) → AreBytes bytes → AreBytes (drop n bytes)
AreBytes-drop n bytes are i = rw (get_or-drop n bytes i 0) (are (n + i))

pub packet_at_spelled : (limit announced id : ℕ) (bytes : List ℕ) (found : Framed) (rest : List ℕ) → AreBytes bytes → PacketAt limit announced id bytes found rest → (bytes ≡ packet id found.payload ++ rest) × (length found.payload ≤ longest) × AreBytes rest
packet_at_spelled limit announced id bytes found rest are at =
    let payload : found.payload ≡ take (packet_length bytes) (drop 4 bytes) = ap (λ (m : Framed). m.payload) at.is in
    let size : length found.payload ≡ packet_length bytes = ap length payload ∙ length-take-le (packet_length bytes) (drop 4 bytes) (omega (arith, length-drop 4 bytes, at.there)) in
    let spelled = packet_spelled bytes are at.header at.there in
    (rw (payload, at.goes, ← at.due) spelled, omega (arith, size, packet_length-most bytes are), rw at.goes (AreBytes-drop (4 + packet_length bytes) bytes are))

within-spelled : (packets limit announced id : ℕ) (bytes : List ℕ) (message : Framed) (rest : List ℕ) → AreBytes bytes → message_within packets limit announced id bytes ≡ Whole message rest → IsSpelled id bytes message rest
within-spelled zero limit announced id bytes message rest are whole = absurd (cc)
within-spelled (suc count) limit announced id bytes message rest are whole =
    let by = led count limit announced id bytes message rest whole in
    let spelled = packet_at_spelled limit announced id bytes by.packet by.behind are by.at in
    let first : by.packet.first ≡ id = ap (λ (m : Framed). m.first) by.at.is in
    elim by.goes [
      | inl last ↦ spelled-last id bytes by.packet message by.behind rest first spelled.0 spelled.1 last.0 last.1 last.2
      | inr long ↦
          let others = within-spelled count limit (announced + longest) (next_id id) by.behind long.1 rest spelled.2 long.2 in
          spelled-more id bytes by.packet long.1 message by.behind rest first spelled.0 long.0 long.3 others.spelled
    ]

pub first_message-spelled : (limit first : ℕ) (bytes : List ℕ) (message : Framed) (rest : List ℕ) → AreBytes bytes → first_message limit first bytes ≡ Whole message rest → (message.first ≡ first) × (bytes ≡ spelling first message.payload ++ rest)
unfolding first_message spelling
first_message-spelled limit first bytes message rest are whole =
    let found = within-spelled (length bytes) limit 0 first bytes message rest are whole in
    (found.begins, found.spelled)

-- a spelling isn't empty
pub spelling-some : (first : ℕ) (payload : List ℕ) → 0 < length (spelling first payload)
unfolding spelling
spelling-some first payload = of (length payload / longest) first payload where
  of : (full id : ℕ) (bytes : List ℕ) → 0 < length (packets full id bytes)
  of zero id bytes = search arith
  of (suc full) id bytes = search arith
