-- Bytes that a tracker took to the end of a reply are packets.
use Rattle.std.proofs.Common.{◌≡◌, ◌≤◌, ◌<◌, ℕ, ◌+◌, ◌-◌, ◌*◌, ◌/◌, ◌%◌, Bool, true, false, cond, nat_le, nat_eq, Option, Some, None, List, [], ◌∷◌, ◌++◌, length, refl, ◌∙◌, sym, ap, arith}
use Rattle.std.proofs.lemmas.Bool.{leb-true, leb-false}
use Rattle.mx_base.specs.Fields.{AreBytes}
use Rattle.packet_frame.specs.Packets.{longest, packet}
use Rattle.packet_frame.specs.PacketLaws.{nat_eq-true, nat_eq-false}
use Rattle.reply_track.specs.declared.reply.ReplyEnd.{ReplyEnd}
use Rattle.reply_track.specs.declared.body.Body.{Body}
use Rattle.reply_track.specs.declared.place.Place.TheVariants.{First, Second, Third, Id as IdPlace, Body as BodyPlace}
use Rattle.reply_track.specs.declared.place.State.{State}
use Rattle.reply_track.specs.declared.place.Outcome.{Outcome}
use Rattle.reply_track.specs.declared.place.Outcome.TheVariants.{On, Over, Wrong}
use Rattle.reply_track.specs.Steps.{next_id, step, taken, empty_body, empty_by, packet_ended, payload_by, body_takes_low, body_takes_length}
use Rattle.reply_track.specs.Runs.{Ending, run, run_by}
use Rattle.reply_track.specs.Runs.Ending.{Going, Ended, Failed}
use Rattle.reply_track.proofs.Crossing.{mk, run_on, read_by, read_body, packet_at, packet-same}
use Rattle.reply_track.proofs.Messages.{part_read}

-- a test that was passed
went : (test : Bool) (next : State) (byte : ℕ) (bytes : List ℕ) (others : State → Ending) (end : ReplyEnd) (rest : List ℕ) → run_by (cond test (On next) Wrong) byte bytes others ≡ Ended end rest → (test ≡ true) × (others next ≡ Ended end rest)
went true next byte bytes others end rest is = (refl, is)
went false next byte bytes others end rest is = absurd (cc)

by_on : (to : Outcome) (byte : ℕ) (bytes : List ℕ) (end : ReplyEnd) (rest : List ℕ) → run_by to byte bytes (λ (n : State). run n bytes) ≡ Ended end rest → run_on to bytes ≡ Ended end rest
by_on (On state) byte bytes end rest is = is
by_on (Over last) byte bytes end rest is = is
by_on Wrong byte bytes end rest is = absurd (cc)

-- the rest of a packet
record InBody (server client number left : ℕ) (long : Bool) (body : Body) (bytes : List ℕ) (end : ReplyEnd) (rest : List ℕ) : Type 0 where
  pub part : List ℕ
  pub others : List ℕ
  pub last : Body
  pub is : bytes ≡ part ++ others
  pub size : length part ≡ left
  pub reads : read_body body part ≡ Some last
  pub goes : run_on (packet_at server client number long last) others ≡ Ended end rest

in_body_by : (server client number : ℕ) (long : Bool) (end : ReplyEnd) (rest bytes : List ℕ) (b left : ℕ) (body : Body) (found : Option Body) (one : Bool) → ((left : ℕ) (body : Body) → 0 < left → run (mk server client number (BodyPlace left long) body) bytes ≡ Ended end rest → InBody server client number left long body bytes end rest)
    → 0 < left → taken body left b ≡ found → nat_le left 1 ≡ one → run_by (payload_by (mk server client number (BodyPlace left long) body) left long found) b bytes (λ (n : State). run n bytes) ≡ Ended end rest → InBody server client number left long body (b ∷ bytes) end rest
in_body_by server client number long end rest bytes b left body None one behind_it some found last is = absurd (cc)
in_body_by server client number long end rest bytes b left body (Some next) true behind_it some found last is =
    let at : State = mk server client number (BodyPlace left long) body in
    let only : left ≡ 1 = omega (arith, leb-true left 1 last) in
    let chosen : payload_by at left long (Some next) ≡ packet_ended at long next = rw last refl in
    let goes : run_by (packet_ended at long next) b bytes (λ (n : State). run n bytes) ≡ Ended end rest = sym (ap (λ (o : Outcome). run_by o b bytes (λ (n : State). run n bytes)) chosen) ∙ is in
    let same : run_by (packet_at server client number long next) b bytes (λ (n : State). run n bytes) ≡ Ended end rest = sym (ap (λ (o : Outcome). run_by o b bytes (λ (n : State). run n bytes)) (packet-same server client number (BodyPlace left long) body long next)) ∙ goes in
    record {
      part = b ∷ [];
      others = bytes;
      last = next;
      is = refl;
      size = sym only;
      reads = ap (λ (t : Option Body). read_by t (λ (n : Body). Some n)) (sym (ap (λ n. taken body n b) only) ∙ found);
      goes = by_on (packet_at server client number long next) b bytes end rest same;
    }
in_body_by server client number long end rest bytes b left body (Some next) false behind_it some found last is =
    let at : State = mk server client number (BodyPlace left long) body in
    let more : 1 < left = leb-false left 1 last in
    let chosen : payload_by at left long (Some next) ≡ On (mk server client number (BodyPlace (left - 1) long) next) = rw last refl in
    let goes : run (mk server client number (BodyPlace (left - 1) long) next) bytes ≡ Ended end rest = sym (ap (λ (o : Outcome). run_by o b bytes (λ (n : State). run n bytes)) chosen) ∙ is in
    let behind = behind_it (left - 1) next (omega arith) goes in
    let size : length (b ∷ behind.part) ≡ left = omega (arith, behind.size) in
    record {
      part = b ∷ behind.part;
      others = behind.others;
      last = behind.last;
      is = ap (λ bs. b ∷ bs) behind.is;
      size = size;
      reads = ap (λ (t : Option Body). read_by t (λ (n : Body). read_body n behind.part)) (ap (λ n. taken body n b) size ∙ found) ∙ behind.reads;
      goes = behind.goes;
    }

in_body : (server client number : ℕ) (long : Bool) (end : ReplyEnd) (rest bytes : List ℕ) (left : ℕ) (body : Body) → 0 < left → run (mk server client number (BodyPlace left long) body) bytes ≡ Ended end rest → InBody server client number left long body bytes end rest
in_body server client number long end rest [] left body some is = absurd (cc)
in_body server client number long end rest (b ∷ bytes) left body some is = in_body_by server client number long end rest bytes b left body (taken body left b) (nat_le left 1) (in_body server client number long end rest bytes) some refl refl is

-- a packet
pub record InPacket (server client number : ℕ) (body : Body) (bytes : List ℕ) (end : ReplyEnd) (rest : List ℕ) : Type 0 where
  pub part : List ℕ
  pub others : List ℕ
  pub last : Body
  pub is : bytes ≡ packet server part ++ others
  pub most : length part ≤ longest
  pub reads : part_read body part ≡ Some last
  pub goes : run_on (packet_at (next_id server) (next_id client) number (nat_eq (length part) longest) last) others ≡ Ended end rest

four_cells : (a b c i x y z : ℕ) (part others es : List ℕ) (j : ℕ) → x ≡ a → y ≡ b → z ≡ c → i ≡ j → es ≡ part ++ others → a ∷ b ∷ c ∷ i ∷ es ≡ (x ∷ y ∷ z ∷ j ∷ part) ++ others
four_cells a b c i x y z part others es j p q r s t = cc

packet_by : (server client number a b c i n : ℕ) (body : Body) (bytes : List ℕ) (end : ReplyEnd) (rest : List ℕ) (same none : Bool) → a < 256 → b < 256 → c < 256 → n ≡ a + 256 * b + 65536 * c → nat_eq i server ≡ same → nat_eq n 0 ≡ none
    → run_by (step (mk server client number (IdPlace n) body) i) i bytes (λ (s : State). run s bytes) ≡ Ended end rest → InPacket server client number body (a ∷ b ∷ c ∷ i ∷ bytes) end rest
packet_by server client number a b c i n body bytes end rest false none sa sb sc is_n is_id is_none is = absurd (refused (sym (ap (λ (o : Outcome). run_by o i bytes (λ (s : State). run s bytes)) wrong) ∙ is)) where
  wrong : step (mk server client number (IdPlace n) body) i ≡ Wrong
  wrong = rw is_id refl

  refused : Failed (i ∷ bytes) ≡ Ended end rest → ⊥
  refused e = cc
packet_by server client number a b c i n body bytes end rest true true sa sb sc is_n is_id is_none is =
    let none : n ≡ 0 = nat_eq-true n 0 is_none in
    let on : step (mk server client number (IdPlace n) body) i ≡ empty_by (mk (next_id server) (next_id client) number (IdPlace n) body) (empty_body body) = rw (is_id, is_none) refl in
    let goes : run_by (empty_by (mk (next_id server) (next_id client) number (IdPlace n) body) (empty_body body)) i bytes (λ (s : State). run s bytes) ≡ Ended end rest = sym (ap (λ (o : Outcome). run_by o i bytes (λ (s : State). run s bytes)) on) ∙ is in
    empty (empty_body body) refl goes where
      empty : (found : Option Body) → empty_body body ≡ found → run_by (empty_by (mk (next_id server) (next_id client) number (IdPlace n) body) found) i bytes (λ (s : State). run s bytes) ≡ Ended end rest → InPacket server client number body (a ∷ b ∷ c ∷ i ∷ bytes) end rest
      empty None found goes = absurd (cc)
      empty (Some last) found goes =
          let id_is : i ≡ server = nat_eq-true i server is_id in
          let no : n ≡ 0 = nat_eq-true n 0 is_none in
          let same : run_by (packet_at (next_id server) (next_id client) number false last) i bytes (λ (s : State). run s bytes) ≡ Ended end rest = sym (ap (λ (o : Outcome). run_by o i bytes (λ (s : State). run s bytes)) (packet-same (next_id server) (next_id client) number (IdPlace n) body false last)) ∙ goes in
          record {
            part = [];
            others = bytes;
            last = last;
            is = four_cells a b c i 0 0 0 [] bytes bytes server (omega arith) (omega arith) (omega arith) id_is refl;
            most = omega arith;
            reads = found;
            goes = by_on (packet_at (next_id server) (next_id client) number false last) i bytes end rest same;
          }
packet_by server client number a b c i n body bytes end rest true false sa sb sc is_n is_id is_none is =
    let some : 0 < n = omega (arith, nat_eq-false n 0 is_none) in
    let on : step (mk server client number (IdPlace n) body) i ≡ On (mk (next_id server) (next_id client) number (BodyPlace n (nat_eq n longest)) body) = rw (is_id, is_none) refl in
    let goes : run (mk (next_id server) (next_id client) number (BodyPlace n (nat_eq n longest)) body) bytes ≡ Ended end rest = sym (ap (λ (o : Outcome). run_by o i bytes (λ (s : State). run s bytes)) on) ∙ is in
    let inside = in_body (next_id server) (next_id client) number (nat_eq n longest) end rest bytes n body some goes in
    let m : ℕ = length inside.part in
    let size : m ≡ n = inside.size in
    let upper : m / 256 ≡ b + 256 * c = omega (arith, size) in
    record {
      part = inside.part;
      others = inside.others;
      last = inside.last;
      is = four_cells a b c i (m % 256) (m / 256 % 256) (m / 65536) inside.part inside.others bytes server (omega (arith, size)) (omega (arith, upper)) (omega (arith, size)) (nat_eq-true i server is_id) inside.is;
      most = omega (arith, size);
      reads = some_part inside.part (omega (arith, size)) ∙ inside.reads;
      goes = rw size inside.goes;
    } where
      some_part : (part : List ℕ) → 0 < length part → part_read body part ≡ read_body body part
      some_part [] none = absurd (omega arith)
      some_part (p ∷ part) more = refl

pub in-packet : (server client number : ℕ) (body : Body) (bytes : List ℕ) (end : ReplyEnd) (rest : List ℕ) → AreBytes bytes → run (mk server client number First body) bytes ≡ Ended end rest → InPacket server client number body bytes end rest
in-packet server client number body [] end rest are is = absurd (cc)
in-packet server client number body (a ∷ []) end rest are is =
    let one = went (body_takes_low body a) (mk server client number (Second a) body) a [] (λ (s : State). run s []) end rest is in absurd (never one.1) where
      never : Going (mk server client number (Second a) body) ≡ Ended end rest → ⊥
      never e = cc
in-packet server client number body (a ∷ b ∷ []) end rest are is =
    let one = went (body_takes_low body a) (mk server client number (Second a) body) a (b ∷ []) (λ (s : State). run s (b ∷ [])) end rest is in
    let two = went (body_takes_low body (a + 256 * b)) (mk server client number (Third (a + 256 * b)) body) b [] (λ (s : State). run s []) end rest one.1 in absurd (never two.1) where
      never : Going (mk server client number (Third (a + 256 * b)) body) ≡ Ended end rest → ⊥
      never e = cc
in-packet server client number body (a ∷ b ∷ c ∷ []) end rest are is =
    let n : ℕ = a + 256 * b + 65536 * c in
    let one = went (body_takes_low body a) (mk server client number (Second a) body) a (b ∷ c ∷ []) (λ (s : State). run s (b ∷ c ∷ [])) end rest is in
    let two = went (body_takes_low body (a + 256 * b)) (mk server client number (Third (a + 256 * b)) body) b (c ∷ []) (λ (s : State). run s (c ∷ [])) end rest one.1 in
    let three = went (body_takes_length body n) (mk server client number (IdPlace n) body) c [] (λ (s : State). run s []) end rest two.1 in absurd (never three.1) where
      never : Going (mk server client number (IdPlace (a + 256 * b + 65536 * c)) body) ≡ Ended end rest → ⊥
      never e = cc
in-packet server client number body (a ∷ b ∷ c ∷ i ∷ bytes) end rest are is =
    let n : ℕ = a + 256 * b + 65536 * c in
    let one = went (body_takes_low body a) (mk server client number (Second a) body) a (b ∷ c ∷ i ∷ bytes) (λ (s : State). run s (b ∷ c ∷ i ∷ bytes)) end rest is in
    let two = went (body_takes_low body (a + 256 * b)) (mk server client number (Third (a + 256 * b)) body) b (c ∷ i ∷ bytes) (λ (s : State). run s (c ∷ i ∷ bytes)) end rest one.1 in
    let three = went (body_takes_length body n) (mk server client number (IdPlace n) body) c (i ∷ bytes) (λ (s : State). run s (i ∷ bytes)) end rest two.1 in
    packet_by server client number a b c i n body bytes end rest (nat_eq i server) (nat_eq n 0) (are 0) (are 1) (are 2) refl refl refl three.1
