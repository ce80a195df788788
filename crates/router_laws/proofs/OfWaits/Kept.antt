-- Of a client that the router doesn't read, a mebibyte is kept: as many bytes are behind its last message as its seat keeps, or a longest packet is.
use Rattle.std.specs.Prelude.{◌≡◌, ◌⊎◌, ◌<◌, ◌≤◌, ◌+◌, ◌-◌, ℕ, zero, suc, length, List, [], ◌∷◌, ◌++◌}
use Rattle.std.proofs.Common.{refl, sym, ap, ◌∙◌, subst, arith, inl, inr, length-append, length-drop}
use Rattle.packet_frame.specs.Laws.{first_message-shorter, split-faulty, split-nothing, split-whole}
use Rattle.packet_frame.specs.MessageLaws.{led}
use Rattle.packet_frame.specs.PacketLaws.{nat_eq-true, packet_size}
use Rattle.packet_frame.specs.Packets.{Framed, Found, Split, first_message, longest, message_within, packet_length, split, with_front}
use Rattle.packet_frame.specs.Packets.Found.{Faulty, Nothing, Whole}
use Rattle.router_promises.specs.Ends.{behind, behind_by}

-- A message whose body is shorter than the longest is one packet.

within_exact : (packets limit announced id : ℕ) (bytes : List ℕ) (message : Framed) (rest : List ℕ)
    → message_within packets limit announced id bytes ≡ Whole message rest → length message.payload < longest
    → length bytes ≡ length rest + length message.payload + 4
within_exact zero limit announced id bytes message rest whole short = absurd (cc)
within_exact (suc packets) limit announced id bytes message rest whole short =
    let by = led packets limit announced id bytes message rest whole in
    let size : length by.packet.payload ≡ packet_length bytes = packet_size limit announced id bytes by.packet by.behind by.at in
    let behind_is : length by.behind ≡ length bytes - (4 + packet_length bytes) =
    ap length by.at.goes ∙ length-drop (4 + packet_length bytes) bytes in
    elim by.goes [
      | inl last ↦ omega (arith, size, behind_is, by.at.there, ap length last.2, ap (λ (m : Framed). length m.payload) last.1)
      | inr long ↦
          let full : length by.packet.payload ≡ longest = nat_eq-true _ _ long.0 in
          absurd (omega (arith, full, short, ap (λ (m : Framed). length m.payload) long.3, length-append by.packet.payload (long.1).payload))
    ]

message_exact : (limit : ℕ) (bytes : List ℕ) (message : Framed) (rest : List ℕ) → first_message limit 0 bytes ≡ Whole message rest
    → length message.payload < longest → length bytes ≡ length rest + length message.payload + 4
unfolding first_message
message_exact limit bytes message rest whole short = within_exact (length bytes) limit 0 0 bytes message rest whole short

-- What messages and the bytes behind them weigh: four bytes for each message, and its payload.

abbrev sizes : List Framed → ℕ
sizes [] = 0
sizes (message ∷ others) = length message.payload + 4 + sizes others

abbrev weight : Split → ℕ
weight s = sizes s.messages + length s.rest

light_by : (limit : ℕ) (bytes : List ℕ) (found : Found) → first_message limit 0 bytes ≡ found
    → ((rest : List ℕ) → length rest < length bytes → weight (split limit 0 rest) ≤ length rest) → weight (split limit 0 bytes) ≤ length bytes
light_by limit bytes Nothing is shorter = subst (λ (s : Split). weight s ≤ length bytes) (sym (split-nothing limit 0 bytes is)) (omega arith)
light_by limit bytes (Whole message rest) is shorter =
    let less : length rest + length message.payload + 4 ≤ length bytes = first_message-shorter limit 0 bytes message rest is in
    let others : sizes (split limit 0 rest).messages + length (split limit 0 rest).rest ≤ length rest = shorter rest (omega (arith, less)) in
    subst (λ (s : Split). weight s ≤ length bytes) (sym (split-whole limit 0 bytes message rest is)) (omega (arith, less, others))
light_by limit bytes (Faulty fault) is shorter = subst (λ (s : Split). weight s ≤ length bytes) (sym (split-faulty limit 0 bytes fault is)) (omega arith)

light_within : (size limit : ℕ) (bytes : List ℕ) → length bytes < size → weight (split limit 0 bytes) ≤ length bytes
light_within zero limit bytes below = absurd (omega arith)
light_within (suc size) limit bytes below =
    light_by limit bytes (first_message limit 0 bytes) refl (λ rest shorter. light_within size limit rest (omega (arith, shorter, below)))

light : (limit : ℕ) (bytes : List ℕ) → weight (split limit 0 bytes) ≤ length bytes
light limit bytes = light_within (suc (length bytes)) limit bytes (omega arith)

lt_or : (n k : ℕ) → (n < k) ⊎ (k ≤ n)
lt_or n k = search arith

heavy_by : (limit n : ℕ) (bytes : List ℕ) (found : Found) → first_message limit 0 bytes ≡ found → n ≤ length bytes → n ≤ longest
    → ((rest : List ℕ) (k : ℕ) → length rest < length bytes → k ≤ length rest → k ≤ longest → k ≤ weight (split limit 0 rest))
    → n ≤ weight (split limit 0 bytes)
heavy_by limit n bytes Nothing is there most shorter = subst (λ (s : Split). n ≤ weight s) (sym (split-nothing limit 0 bytes is)) (omega (arith, there))
heavy_by limit n bytes (Whole message rest) is there most shorter =
    let less : length rest + length message.payload + 4 ≤ length bytes = first_message-shorter limit 0 bytes message rest is in
    subst (λ (s : Split). n ≤ weight s) (sym (split-whole limit 0 bytes message rest is)) (
    elim (lt_or (length message.payload) longest) [
      | inl short ↦
          let exact : length bytes ≡ length rest + length message.payload + 4 = message_exact limit bytes message rest is short in
          let others : n - (length message.payload + 4) ≤ sizes (split limit 0 rest).messages + length (split limit 0 rest).rest =
          shorter rest (n - (length message.payload + 4)) (omega (arith, less)) (omega (arith, exact, there)) (omega (arith, most)) in
          omega (arith, others)
      | inr long ↦ omega (arith, long, most)
    ]
    )
heavy_by limit n bytes (Faulty fault) is there most shorter = subst (λ (s : Split). n ≤ weight s) (sym (split-faulty limit 0 bytes fault is)) (omega (arith, there))

heavy_within : (size limit n : ℕ) (bytes : List ℕ) → length bytes < size → n ≤ length bytes → n ≤ longest → n ≤ weight (split limit 0 bytes)
heavy_within zero limit n bytes below there most = absurd (omega arith)
heavy_within (suc size) limit n bytes below there most =
    heavy_by limit n bytes (first_message limit 0 bytes) refl there most
    (λ rest k shorter within less. heavy_within size limit k rest (omega (arith, shorter, below)) within less)

heavy : (limit n : ℕ) (bytes : List ℕ) → n ≤ length bytes → n ≤ longest → n ≤ weight (split limit 0 bytes)
heavy limit n bytes there most = heavy_within (suc (length bytes)) limit n bytes (omega arith) there most

-- What is behind messages is split as what is kept.

left_by : (limit : ℕ) (bytes : List ℕ) (gone : List Framed) (message : Framed) (kept : Split) (found : Found) → first_message limit 0 bytes ≡ found
    → split limit 0 bytes ≡ with_front (message ∷ gone) kept
    → ((rest : List ℕ) → split limit 0 rest ≡ with_front gone kept → split limit 0 (behind (length gone) limit rest) ≡ kept)
    → split limit 0 (behind_by found bytes (behind (length gone) limit)) ≡ kept
left_by limit bytes gone message kept Nothing is same later =
    absurd (let clash : message ∷ (gone ++ kept.messages) ≡ [] = ap (λ (s : Split). s.messages) (sym same ∙ split-nothing limit 0 bytes is) in cc)
left_by limit bytes gone message kept (Whole first rest) is same later =
    let both : with_front (first ∷ []) (split limit 0 rest) ≡ with_front (message ∷ gone) kept = sym (split-whole limit 0 bytes first rest is) ∙ same in
    let all : first ∷ (split limit 0 rest).messages ≡ message ∷ (gone ++ kept.messages) = ap (λ (s : Split). s.messages) both in
    let messages : (split limit 0 rest).messages ≡ gone ++ kept.messages = cc in
    let behind_them : (split limit 0 rest).rest ≡ kept.rest = ap (λ (s : Split). s.rest) both in
    let fault : (split limit 0 rest).fault ≡ kept.fault = ap (λ (s : Split). s.fault) both in
    later rest (λ i. record { messages = messages i; rest = behind_them i; fault = fault i })
left_by limit bytes gone message kept (Faulty fault) is same later =
    absurd (let clash : message ∷ (gone ++ kept.messages) ≡ [] = ap (λ (s : Split). s.messages) (sym same ∙ split-faulty limit 0 bytes fault is) in cc)

left : (limit : ℕ) (gone : List Framed) (bytes : List ℕ) (kept : Split) → split limit 0 bytes ≡ with_front gone kept
    → split limit 0 (behind (length gone) limit bytes) ≡ kept
left limit [] bytes kept same = same
left limit (message ∷ gone) bytes kept same =
    left_by limit bytes gone message kept (first_message limit 0 bytes) refl same (λ rest so. left limit gone rest kept so)

-- a mebibyte that a seat keeps is behind the messages that are gone
pub mebibyte_left : (limit : ℕ) (gone : List Framed) (bytes kept : List ℕ) → split limit 0 bytes ≡ with_front gone (split limit 0 kept)
    → 1048576 ≤ length kept → 1048576 ≤ length (behind (length gone) limit bytes)
mebibyte_left limit gone bytes kept same many =
    let alike : weight (split limit 0 (behind (length gone) limit bytes)) ≡ weight (split limit 0 kept) = ap weight (left limit gone bytes (split limit 0 kept) same) in
    let least : 1048576 ≤ weight (split limit 0 kept) = heavy limit 1048576 kept many (omega arith) in
    let most : weight (split limit 0 (behind (length gone) limit bytes)) ≤ length (behind (length gone) limit bytes) = light limit (behind (length gone) limit bytes) in
    omega (arith, alike, least, most)
