-- The headers behind packets that are joined: what the last packet lacks, and the id of an answer.
use Rattle.std.proofs.Common.{◌≡◌, ◌≢◌, ◌⊎◌, inl, inr, ◌≤◌, ◌<◌, ℕ, zero, suc, ◌+◌, ◌-◌, ◌*◌, ◌/◌, ◌%◌, true, false, cond, ◌&&◌, nat_lt, nat_le, nat_eq, List, [], ◌∷◌, ◌++◌, length, take, drop, Some, None, refl, ◌∙◌, sym, ap, arith, append_assoc, length-drop}
use Rattle.std.proofs.lemmas.List.{take_all}
use Rattle.std.proofs.lemmas.Bool.Decides.{nat_tests}
use Rattle.std.proofs.lemmas.Bool.{lt-ltb, le-ltb}
use Rattle.packet_frame.specs.Packets.{Framed, packet_length, longest, next_id, packet, lacking_within, lacking, id_from, id_of_answer}
use Rattle.packet_frame.specs.RoundTrip.{packet_length-spelled, length-spelled, behind-spelled}
use Rattle.packet_frame.specs.Joining.{Joined, in_packets, as_read, joined_message, IsJoined}
use Rattle.packet_frame.proofs.Across.{id_from-short, id_from-long}
use Rattle.packet_frame.proofs.Joins.{front-full, behind-full, open-size, ended-size}

lacking-enough : (count others : ℕ) (bytes : List ℕ) → length bytes ≤ count → length bytes ≤ others → lacking_within count bytes ≡ lacking_within others bytes
lacking-enough zero zero bytes enough also = refl
lacking-enough zero (suc others) [] enough also = refl
lacking-enough zero (suc others) (b ∷ bytes) enough also = absurd (omega arith)
lacking-enough (suc count) zero [] enough also = refl
lacking-enough (suc count) zero (b ∷ bytes) enough also = absurd (omega arith)
lacking-enough (suc count) (suc others) bytes enough also =
    let shorter = lacking-enough count others (drop (4 + longest) bytes) (omega (arith, length-drop (4 + longest) bytes)) (omega (arith, length-drop (4 + longest) bytes)) in
    ap (λ n. cond (nat_lt (length bytes) 4) 0 (cond (nat_eq (packet_length bytes) longest && nat_le (4 + longest) (length bytes)) n ((4 + packet_length bytes) - length bytes))) shorter

-- by the header that the bytes begin with
pub lacking-cut : (bytes : List ℕ) → length bytes < 4 → 0 ≡ lacking bytes
unfolding lacking
lacking-cut [] cut = refl
lacking-cut (b ∷ bytes) cut = rw (lt-ltb (length (b ∷ bytes)) 4 cut) refl

both-true : (a b c d : ℕ) → a ≡ b → c ≤ d → (nat_eq a b && nat_le c d) ≡ true
both-true a b c d same there = grind (arith, nat_tests)

either-false : (a b c d : ℕ) → (a ≢ b) ⊎ (d < c) → (nat_eq a b && nat_le c d) ≡ false
either-false a b c d (inl apart) = grind (arith, nat_tests)
either-false a b c d (inr less) = grind (arith, nat_tests)

pub lacking-long : (bytes : List ℕ) → 4 ≤ length bytes → packet_length bytes ≡ longest → 4 + longest ≤ length bytes → lacking (drop (4 + longest) bytes) ≡ lacking bytes
unfolding lacking
lacking-long [] header long there = absurd (omega arith)
lacking-long (b ∷ bytes) header long there =
    rw (le-ltb (length (b ∷ bytes)) 4 header, both-true (packet_length (b ∷ bytes)) longest (4 + longest) (length (b ∷ bytes)) long there)
    (lacking-enough (length (drop (4 + longest) (b ∷ bytes))) (length bytes) (drop (4 + longest) (b ∷ bytes)) (omega arith) (omega (arith, length-drop (4 + longest) (b ∷ bytes))))

pub lacking-short : (bytes : List ℕ) → 4 ≤ length bytes → (packet_length bytes ≢ longest) ⊎ (length bytes < 4 + longest) → (4 + packet_length bytes) - length bytes ≡ lacking bytes
unfolding lacking
lacking-short [] header short = absurd (omega arith)
lacking-short (b ∷ bytes) header short = rw (le-ltb (length (b ∷ bytes)) 4 header, either-false (packet_length (b ∷ bytes)) longest (4 + longest) (length (b ∷ bytes)) short) refl

-- a packet with the longest body, and a shorter one
module _ (id : ℕ) (body more : List ℕ) where
  long_length : length body ≡ longest → packet_length (packet id body ++ more) ≡ longest
  long_length long = packet_length-spelled id body more (omega (arith, long)) ∙ long

  long_behind : length body ≡ longest → drop (4 + longest) (packet id body ++ more) ≡ more
  long_behind long = ap (λ n. drop (4 + n) (packet id body ++ more)) (sym long) ∙ behind-spelled id body more

  lacking-on : length body ≡ longest → lacking (packet id body ++ more) ≡ lacking more
  lacking-on long =
      sym (lacking-long (packet id body ++ more) (omega (arith, length-spelled id body more)) (long_length long) (omega (arith, length-spelled id body more, long))) ∙ ap lacking (long_behind long)

  lacking-none : length body < longest → lacking (packet id body ++ more) ≡ 0
  lacking-none less =
      let size : packet_length (packet id body ++ more) ≡ length body = packet_length-spelled id body more (omega arith) in
      sym (lacking-short (packet id body ++ more) (omega (arith, length-spelled id body more)) (inl (λ same. (let no : length body ≡ longest = sym size ∙ same in omega arith)))) ∙ omega (arith, size, length-spelled id body more)

  id-on : (last : ℕ) → length body ≡ longest → id_from last (packet id body ++ more) ≡ id_from (next_id id) more
  id-on last long = id_from-long last (packet id body ++ more) (omega (arith, length-spelled id body more)) (long_length long) ∙ ap (id_from (next_id id)) (long_behind long)

  id-last : (last : ℕ) → length body < longest → id_from last (packet id body ++ more) ≡ next_id id
  id-last last less =
      let size : packet_length (packet id body ++ more) ≡ length body = packet_length-spelled id body more (omega arith) in
      id_from-short last (packet id body ++ more) (omega (arith, length-spelled id body more)) (λ same. (let no : length body ≡ longest = sym size ∙ same in omega arith))

-- so many of them
lacking-behind : (count id : ℕ) (payload more : List ℕ) → length payload ≡ count * longest → lacking (in_packets count id payload ++ more) ≡ lacking more
lacking-behind zero id payload more full = refl
lacking-behind (suc count) id payload more full =
    ap lacking (append_assoc (packet id (take longest payload)) (in_packets count (next_id id) (drop longest payload)) more)
    ∙ lacking-on id (take longest payload) (in_packets count (next_id id) (drop longest payload) ++ more) (front-full count payload full)
    ∙ lacking-behind count (next_id id) (drop longest payload) more (behind-full count payload full)

first_front : (full : ℕ) (payload : List ℕ) → length payload / longest ≡ suc full → length (take longest payload) ≡ longest
first_front full payload parts = Rattle.std.proofs.lemmas.List.length-take-le longest payload (omega arith)

last_front : (payload : List ℕ) → length payload / longest ≡ 0 → length (take longest payload) < longest
last_front payload parts = (let less : length payload < longest = omega arith in rw (take_all longest payload (omega arith)) less)

others_left : (full : ℕ) (payload : List ℕ) → length payload / longest ≡ suc full → length (drop longest payload) / longest ≡ full
others_left full payload parts = omega (arith, length-drop longest payload)

lacking-all : (full id : ℕ) (payload more : List ℕ) → length payload / longest ≡ full → lacking (in_packets (suc full) id payload ++ more) ≡ 0
lacking-all zero id payload more parts =
    ap lacking (append_assoc (packet id (take longest payload)) [] more) ∙ lacking-none id (take longest payload) ([] ++ more) (last_front payload parts)
lacking-all (suc full) id payload more parts =
    ap lacking (append_assoc (packet id (take longest payload)) (in_packets (suc full) (next_id id) (drop longest payload)) more)
    ∙ lacking-on id (take longest payload) (in_packets (suc full) (next_id id) (drop longest payload) ++ more) (first_front full payload parts)
    ∙ lacking-all full (next_id id) (drop longest payload) more (others_left full payload parts)

id-behind : (count last id : ℕ) (payload more : List ℕ) → length payload ≡ suc count * longest → id < 256 → id_from last (in_packets (suc count) id payload ++ more) ≡ id_from ((id + suc count) % 256) more
id-behind zero last id payload more full is_byte =
    ap (id_from last) (append_assoc (packet id (take longest payload)) [] more) ∙ id-on id (take longest payload) ([] ++ more) last (front-full 0 payload full)
id-behind (suc count) last id payload more full is_byte =
    let due : (next_id id + suc count) % 256 ≡ (id + suc (suc count)) % 256 = omega arith in
    ap (id_from last) (append_assoc (packet id (take longest payload)) (in_packets (suc count) (next_id id) (drop longest payload)) more)
    ∙ id-on id (take longest payload) (in_packets (suc count) (next_id id) (drop longest payload) ++ more) last (front-full (suc count) payload full)
    ∙ id-behind count (next_id id) (next_id id) (drop longest payload) more (behind-full (suc count) payload full) (omega arith)
    ∙ ap (λ i. id_from i more) due

id-all : (full last id : ℕ) (payload more : List ℕ) → length payload / longest ≡ full → id < 256 → id_from last (in_packets (suc full) id payload ++ more) ≡ (id + suc full) % 256
id-all zero last id payload more parts is_byte =
    ap (id_from last) (append_assoc (packet id (take longest payload)) [] more) ∙ id-last id (take longest payload) ([] ++ more) last (last_front payload parts)
id-all (suc full) last id payload more parts is_byte =
    let due : (next_id id + suc full) % 256 ≡ (id + suc (suc full)) % 256 = omega arith in
    ap (id_from last) (append_assoc (packet id (take longest payload)) (in_packets (suc full) (next_id id) (drop longest payload)) more)
    ∙ id-on id (take longest payload) (in_packets (suc full) (next_id id) (drop longest payload) ++ more) last (first_front full payload parts)
    ∙ id-all full (next_id id) (next_id id) (drop longest payload) more (others_left full payload parts) (omega arith)
    ∙ due

-- of what is joined
pub joined-lacking : (limit : ℕ) (joined : Joined) → IsJoined limit joined → joined_message joined ≡ None → lacking joined.rest ≡ lacking (as_read joined)
joined-lacking limit joined at none = sym (lacking-behind joined.packets joined.first joined.payload joined.rest (open-size limit joined at none))

pub joined-whole : (limit : ℕ) (joined : Joined) (message : Framed) → IsJoined limit joined → joined_message joined ≡ Some message → 0 ≡ lacking (as_read joined)
joined-whole limit joined message at some =
    sym (ap (λ n. lacking (in_packets n joined.first joined.payload ++ joined.rest)) (ended-size limit joined message at some)
    ∙ lacking-all (length joined.payload / longest) joined.first joined.payload joined.rest refl)

pub id-open : (limit : ℕ) (joined : Joined) (unfed : List ℕ) → IsJoined limit joined → joined_message joined ≡ None → joined.packets ≢ 0
    → id_from ((joined.first + joined.packets) % 256) (joined.rest ++ unfed) ≡ id_of_answer (as_read joined ++ unfed)
id-open limit joined unfed at none some = sym (
    ap id_of_answer (append_assoc (in_packets joined.packets joined.first joined.payload) joined.rest unfed) ∙ by joined.packets some (open-size limit joined at none)) where
      by : (count : ℕ) → count ≢ 0 → length joined.payload ≡ count * longest → id_of_answer (in_packets count joined.first joined.payload ++ (joined.rest ++ unfed)) ≡ id_from ((joined.first + count) % 256) (joined.rest ++ unfed)
      by zero some full = absurd (some refl)
      by (suc count) some full = id-behind count 0 joined.first joined.payload (joined.rest ++ unfed) full at.is_byte

pub id-whole : (limit : ℕ) (joined : Joined) (message : Framed) (unfed : List ℕ) → IsJoined limit joined → joined_message joined ≡ Some message
    → (joined.first + joined.packets) % 256 ≡ id_of_answer (as_read joined ++ unfed)
id-whole limit joined message unfed at some =
    let full : ℕ = length joined.payload / longest in
    let count : joined.packets ≡ suc full = ended-size limit joined message at some in
    ap (λ n. (joined.first + n) % 256) count
    ∙ sym (ap id_of_answer (append_assoc (in_packets joined.packets joined.first joined.payload) joined.rest unfed)
    ∙ ap (λ n. id_of_answer (in_packets n joined.first joined.payload ++ (joined.rest ++ unfed))) count
    ∙ id-all full 0 joined.first joined.payload (joined.rest ++ unfed) refl at.is_byte)
