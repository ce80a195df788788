-- Laws of the packet that a list of bytes begins with.
use Rattle.std.specs.Prelude.{◌≡◌, ◌⊎◌, ◌≤◌, ◌<◌, ◌≢◌, ℕ, ◌+◌, Bool, true, false, cond, nat_lt, nat_eq, not, List, ◌++◌, length, take, drop, refl}
use Rattle.std.proofs.Common.{◌∙◌, sym, ap, inl, inr, arith, length-append, length-drop}
use Rattle.std.proofs.lemmas.List.{take-append-le, drop-append-le, get_or_append_left, length-take-le}
use Rattle.std.proofs.lemmas.Bool.{ltb-true, ltb-false, lt-ltb, le-ltb}
use Rattle.std.proofs.lemmas.Bool.Decides.{nat_tests}
use Rattle.mx_base.specs.Fields.{little_endian}
use Rattle.packet_frame.specs.declared.fault.FrameFault.{FrameFault}
use Rattle.packet_frame.specs.declared.fault.FrameFault.TheVariants.{OutOfOrder, TooLarge}
use Rattle.packet_frame.specs.Packets.{Framed, Found, packet_length, packet_id, first_packet}
use Rattle.packet_frame.specs.Packets.Found.{Nothing, Whole, Faulty}

not-false : (b : Bool) → not b ≡ false → b ≡ true
not-false true e = refl
not-false false e = absurd (cc)

not-true : (b : Bool) → not b ≡ true → b ≡ false
not-true true e = absurd (cc)
not-true false e = refl

pub nat_eq-true : (a b : ℕ) → nat_eq a b ≡ true → a ≡ b
nat_eq-true a b same = grind (arith, nat_tests)

pub nat_eq-false : (a b : ℕ) → nat_eq a b ≡ false → a ≢ b
nat_eq-false a b apart = grind (arith, nat_tests)

-- which way four tests went
passed : (a b c d : Bool) (f g : FrameFault) (w : Found) (found : Framed) (rest : List ℕ) → cond a Nothing (cond b (Faulty f) (cond c (Faulty g) (cond d Nothing w))) ≡ Whole found rest
    → (a ≡ false) × (b ≡ false) × (c ≡ false) × (d ≡ false) × (w ≡ Whole found rest)
passed true b c d f g w found rest e = absurd (cc)
passed false true c d f g w found rest e = absurd (cc)
passed false false true d f g w found rest e = absurd (cc)
passed false false false true f g w found rest e = absurd (cc)
passed false false false false f g w found rest e = (refl, refl, refl, refl, e)

failed : (a b c d : Bool) (f g : FrameFault) (found : Framed) (rest : List ℕ) (fault : FrameFault) → cond a Nothing (cond b (Faulty f) (cond c (Faulty g) (cond d Nothing (Whole found rest)))) ≡ Faulty fault
    → (a ≡ false) × (((b ≡ true) × (f ≡ fault)) ⊎ ((b ≡ false) × (c ≡ true) × (g ≡ fault)))
failed true b c d f g found rest fault e = absurd (cc)
failed false true c d f g found rest fault e = (refl, inl (refl, cc))
failed false false true d f g found rest fault e = (refl, inr (refl, refl, cc))
failed false false false true f g found rest fault e = absurd (cc)
failed false false false false f g found rest fault e = absurd (cc)

-- where the bytes begin with a whole packet
pub record PacketAt (limit announced id : ℕ) (bytes : List ℕ) (found : Framed) (rest : List ℕ) : Type 0 where
  pub header : 4 ≤ length bytes
  pub due : packet_id bytes ≡ id
  pub allowed : announced + packet_length bytes ≤ limit
  pub there : 4 + packet_length bytes ≤ length bytes
  pub is : found ≡ record { first = id; last = id; payload = take (packet_length bytes) (drop 4 bytes) }
  pub goes : rest ≡ drop (4 + packet_length bytes) bytes

pub first_packet-whole : (limit announced id : ℕ) (bytes : List ℕ) (found : Framed) (rest : List ℕ) → first_packet limit announced id bytes ≡ Whole found rest → PacketAt limit announced id bytes found rest
first_packet-whole limit announced id bytes found rest whole =
    let total = announced + packet_length bytes in
    let one : Found = Whole (record { first = id; last = id; payload = take (packet_length bytes) (drop 4 bytes) }) (drop (4 + packet_length bytes) bytes) in
    let tests = passed (nat_lt (length bytes) 4) (not (nat_eq (packet_id bytes) id)) (nat_lt limit total) (nat_lt (length bytes) (4 + packet_length bytes)) (OutOfOrder id (packet_id bytes)) (TooLarge total) one found rest whole in
    let same : one ≡ Whole found rest = tests.4 in
    record {
      header = ltb-false _ _ tests.0;
      due = nat_eq-true _ _ (not-false _ tests.1);
      allowed = ltb-false _ _ tests.2;
      there = ltb-false _ _ tests.3;
      is = cc same;
      goes = cc same;
    }

pub first_packet-is : (limit announced id : ℕ) (bytes : List ℕ) → 4 ≤ length bytes → packet_id bytes ≡ id → announced + packet_length bytes ≤ limit → 4 + packet_length bytes ≤ length bytes
    → first_packet limit announced id bytes ≡ Whole (record { first = id; last = id; payload = take (packet_length bytes) (drop 4 bytes) }) (drop (4 + packet_length bytes) bytes)
first_packet-is limit announced id bytes header due allowed there = rw (le-ltb (length bytes) 4 header, due, le-ltb limit (announced + packet_length bytes) allowed, le-ltb (length bytes) (4 + packet_length bytes) there) (grind arith)

-- the length of the packet that is there
pub packet_size : (limit announced id : ℕ) (bytes : List ℕ) (found : Framed) (rest : List ℕ) → PacketAt limit announced id bytes found rest → length found.payload ≡ packet_length bytes
packet_size limit announced id bytes found rest at = ap (λ (m : Framed). length m.payload) at.is ∙ length-take-le (packet_length bytes) (drop 4 bytes) (omega (arith, length-drop 4 bytes, at.there))

-- where it begins with a fault
pub record FaultAt (limit announced id : ℕ) (bytes : List ℕ) (fault : FrameFault) : Type 0 where
  pub header : 4 ≤ length bytes
  pub which : ((packet_id bytes ≢ id) × (fault ≡ OutOfOrder id (packet_id bytes))) ⊎ ((packet_id bytes ≡ id) × (limit < announced + packet_length bytes) × (fault ≡ TooLarge (announced + packet_length bytes)))

pub first_packet-faulty : (limit announced id : ℕ) (bytes : List ℕ) (fault : FrameFault) → first_packet limit announced id bytes ≡ Faulty fault → FaultAt limit announced id bytes fault
first_packet-faulty limit announced id bytes fault faulty =
    let total = announced + packet_length bytes in
    let tests = failed (nat_lt (length bytes) 4) (not (nat_eq (packet_id bytes) id)) (nat_lt limit total) (nat_lt (length bytes) (4 + packet_length bytes)) (OutOfOrder id (packet_id bytes)) (TooLarge total)
    (record { first = id; last = id; payload = take (packet_length bytes) (drop 4 bytes) }) (drop (4 + packet_length bytes) bytes) fault faulty in
    record {
      header = ltb-false _ _ tests.0;
      which = elim (tests.1) [
        | inl other ↦ inl (nat_eq-false _ _ (not-true _ other.0), sym other.1)
        | inr large ↦ inr (nat_eq-true _ _ (not-false _ large.0), ltb-true _ _ large.1, sym large.2)
      ];
    }

pub first_packet-fault : (limit announced id : ℕ) (bytes : List ℕ) (fault : FrameFault) → FaultAt limit announced id bytes fault → first_packet limit announced id bytes ≡ Faulty fault
first_packet-fault limit announced id bytes fault at = elim at.which [
  | inl other ↦ rw (le-ltb (length bytes) 4 at.header) (grind (arith, nat_tests, other.0, other.1))
  | inr large ↦ rw (le-ltb (length bytes) 4 at.header, lt-ltb limit (announced + packet_length bytes) large.1) (grind (arith, nat_tests, large.0, large.2))
]

-- a whole header stays as more bytes come
pub packet_length-more : (bytes more : List ℕ) → 4 ≤ length bytes → packet_length (bytes ++ more) ≡ packet_length bytes
packet_length-more bytes more header = ap little_endian (take-append-le 3 bytes more (omega arith))

pub packet_id-more : (bytes more : List ℕ) → 4 ≤ length bytes → packet_id (bytes ++ more) ≡ packet_id bytes
packet_id-more bytes more header = get_or_append_left bytes more 0 3 (omega arith)

-- and so do a whole packet and a fault
pub first_packet-whole-more : (limit announced id : ℕ) (bytes more : List ℕ) (found : Framed) (rest : List ℕ) → first_packet limit announced id bytes ≡ Whole found rest → first_packet limit announced id (bytes ++ more) ≡ Whole found (rest ++ more)
first_packet-whole-more limit announced id bytes more found rest whole =
    let at = first_packet-whole limit announced id bytes found rest whole in
    let size : packet_length (bytes ++ more) ≡ packet_length bytes = packet_length-more bytes more at.header in
    let header : 4 ≤ length (bytes ++ more) = omega (arith, length-append bytes more, at.header) in
    let due : packet_id (bytes ++ more) ≡ id = packet_id-more bytes more at.header ∙ at.due in
    let there : 4 + packet_length (bytes ++ more) ≤ length (bytes ++ more) = omega (arith, length-append bytes more, at.there, size) in
    let is = first_packet-is limit announced id (bytes ++ more) header due (omega (arith, at.allowed, size)) there in
    let payload : take (packet_length (bytes ++ more)) (drop 4 (bytes ++ more)) ≡ take (packet_length bytes) (drop 4 bytes) = rw (size, drop-append-le 4 bytes more at.header) (take-append-le (packet_length bytes) (drop 4 bytes) more (omega (arith, length-drop 4 bytes, at.there))) in
    let goes : drop (4 + packet_length (bytes ++ more)) (bytes ++ more) ≡ rest ++ more = rw size (drop-append-le (4 + packet_length bytes) bytes more at.there ∙ ap (λ xs. xs ++ more) (sym at.goes)) in
    is ∙ cc (payload, goes, at.is)

pub first_packet-faulty-more : (limit announced id : ℕ) (bytes more : List ℕ) (fault : FrameFault) → first_packet limit announced id bytes ≡ Faulty fault → first_packet limit announced id (bytes ++ more) ≡ Faulty fault
first_packet-faulty-more limit announced id bytes more fault faulty =
    let at = first_packet-faulty limit announced id bytes fault faulty in
    let size : packet_length (bytes ++ more) ≡ packet_length bytes = packet_length-more bytes more at.header in
    let same : packet_id (bytes ++ more) ≡ packet_id bytes = packet_id-more bytes more at.header in
    let P : ℕ → ℕ → Type 0 = λ (n : ℕ) (i : ℕ). ((i ≢ id) × (fault ≡ OutOfOrder id i)) ⊎ ((i ≡ id) × (limit < announced + n) × (fault ≡ TooLarge (announced + n))) in
    let which : P (packet_length (bytes ++ more)) (packet_id (bytes ++ more)) = rw (size, same) at.which in
    first_packet-fault limit announced id (bytes ++ more) fault (record { header = omega (arith, length-append bytes more, at.header); which = which })

pub packet_shorter : (limit announced id : ℕ) (bytes : List ℕ) (found : Framed) (rest : List ℕ) → PacketAt limit announced id bytes found rest → length rest + length found.payload + 4 ≤ length bytes
packet_shorter limit announced id bytes found rest at =
    omega (arith, packet_size limit announced id bytes found rest at, ap length at.goes, length-drop (4 + packet_length bytes) bytes, at.there)
