-- Bytes that a tracker took to the end of a reply begin with a message.
use Rattle.std.proofs.Common.{◌≡◌, ◌≤◌, ◌<◌, ℕ, zero, suc, ◌+◌, ◌/◌, ◌%◌, Bool, true, false, nat_eq, Some, List, [], ◌∷◌, ◌++◌, length, take, refl, ◌∙◌, sym, ap, arith, length-append, append_assoc, lit<}
use Rattle.std.proofs.Math.Nat.{add-zero}
use Rattle.std.proofs.lemmas.List.{take_all}
use Rattle.std.proofs.Math.Seq.{take-append_seam, drop-append_seam}
use Rattle.mx_base.specs.Fields.{AreBytes}
use Rattle.packet_frame.specs.Packets.{longest, packet, packets, spelling, id_behind}
use Rattle.packet_frame.specs.PacketLaws.{nat_eq-true, nat_eq-false}
use Rattle.packet_frame.specs.SpellingLaws.{spelled-longer, AreBytes-drop}
use Rattle.reply_track.specs.declared.reply.ReplyEnd.{ReplyEnd}
use Rattle.reply_track.specs.declared.due.Due.{Due}
use Rattle.reply_track.specs.declared.due.Next.{Next}
use Rattle.reply_track.specs.declared.body.Body.{Body}
use Rattle.reply_track.specs.declared.body.Body.TheVariants.{Due as DueBody, Cell as CellBody, Number as NumberBody, Rest}
use Rattle.reply_track.specs.declared.place.Place.TheVariants.{First}
use Rattle.reply_track.specs.Steps.{next_id}
use Rattle.reply_track.specs.Runs.{run}
use Rattle.reply_track.specs.Runs.Ending.{Ended}
use Rattle.reply_track.proofs.Crossing.{mk, run_on, packet_at, followed_at}
use Rattle.reply_track.proofs.Messages.{part_read, rest-part}
use Rattle.reply_track.proofs.Walls.{in-packet}

AreBytes-behind : (front bytes : List ℕ) → AreBytes (front ++ bytes) → AreBytes bytes
AreBytes-behind front bytes are = rw (drop-append_seam front bytes) at (AreBytes-drop (length front) (front ++ bytes) are)

AreBytes-front : (front bytes : List ℕ) → AreBytes (front ++ bytes) → AreBytes front
AreBytes-front [] bytes are i = lit< tt
AreBytes-front (b ∷ front) bytes are zero = are 0
AreBytes-front (b ∷ front) bytes are (suc i) = AreBytes-front front bytes (λ k. are (suc k)) i

are_part : (server : ℕ) (part others bytes : List ℕ) → bytes ≡ packet server part ++ others → AreBytes bytes → AreBytes part
are_part server part others bytes is are i = AreBytes-front (packet server part) others (rw is at are) (suc (suc (suc (suc i))))

-- the packets behind the first one
record InOthers (server client number : ℕ) (next : Next) (bytes : List ℕ) (end : ReplyEnd) (rest : List ℕ) : Type 0 where
  pub payload : List ℕ
  pub behind : List ℕ
  pub is : bytes ≡ packets (length payload / longest) server payload ++ behind
  pub are : AreBytes behind
  pub goes : run_on (followed_at (id_behind server payload) (id_behind client payload) number next) behind ≡ Ended end rest

longer_is : (n more : ℕ) → n ≡ longest + more → n / longest ≡ suc (more / longest)
longer_is n more is = omega arith

longer_ids : (id n more : ℕ) → n ≡ longest + more → (next_id id + more / longest + 1) % 256 ≡ (id + n / longest + 1) % 256
longer_ids id n more is = omega (arith, longer_is n more is)

others_by : (server client number : ℕ) (next : Next) (bytes : List ℕ) (end : ReplyEnd) (rest part others : List ℕ) (long : Bool) → nat_eq (length part) longest ≡ long → bytes ≡ packet server part ++ others → length part ≤ longest → AreBytes others
    → run_on (packet_at (next_id server) (next_id client) number long (Rest next)) others ≡ Ended end rest
    → (run (mk (next_id server) (next_id client) number First (Rest next)) others ≡ Ended end rest → InOthers (next_id server) (next_id client) number next others end rest) → InOthers server client number next bytes end rest
others_by server client number next bytes end rest part others true is_long is most are goes behind_it =
    let long : length part ≡ longest = nat_eq-true (length part) longest is_long in
    let more = behind_it goes in
    let size : length (part ++ more.payload) ≡ longest + length more.payload = omega (arith, length-append part more.payload, long) in
    record {
      payload = part ++ more.payload;
      behind = more.behind;
      is = is ∙ ap (λ bs. packet server part ++ bs) more.is ∙ sym (append_assoc (packet server part) (packets (length more.payload / longest) (next_id server) more.payload) more.behind) ∙ ap (λ bs. bs ++ more.behind) (sym (spelled-longer server part more.payload long));
      are = more.are;
      goes = rw (← longer_ids server (length (part ++ more.payload)) (length more.payload) size, ← longer_ids client (length (part ++ more.payload)) (length more.payload) size) more.goes;
    }
others_by server client number next bytes end rest part others false is_long is most are goes behind_it =
    let short : length part < longest = omega (arith, nat_eq-false (length part) longest is_long) in
    let none : length part / longest ≡ 0 = omega arith in
    record {
      payload = part;
      behind = others;
      is = rw none is;
      are = are;
      goes = rw (none, add-zero server, add-zero client) goes;
    }

in_others : (fuel server client number : ℕ) (next : Next) (bytes : List ℕ) (end : ReplyEnd) (rest : List ℕ) → length bytes < fuel → AreBytes bytes → run (mk server client number First (Rest next)) bytes ≡ Ended end rest → InOthers server client number next bytes end rest
in_others zero server client number next bytes end rest enough are is = absurd (omega arith)
in_others (suc fuel) server client number next bytes end rest enough are is =
    let at = in-packet server client number (Rest next) bytes end rest are is in
    let last : at.last ≡ Rest next = cc (at.reads, rest-part next at.part) in
    let goes : run_on (packet_at (next_id server) (next_id client) number (nat_eq (length at.part) longest) (Rest next)) at.others ≡ Ended end rest = rw last at at.goes in
    let size : length bytes ≡ length (packet server at.part) + length at.others = ap length at.is ∙ length-append (packet server at.part) at.others in
    let behind : AreBytes at.others = AreBytes-behind (packet server at.part) at.others (rw at.is at are) in
    others_by server client number next bytes end rest at.part at.others (nat_eq (length at.part) longest) refl at.is at.most behind goes
    (λ more. in_others fuel (next_id server) (next_id client) number next at.others end rest (omega (arith, size)) behind more)

-- a message, and what its first packet is read as
pub record InMessage (server client number : ℕ) (due : Due) (bytes : List ℕ) (end : ReplyEnd) (rest : List ℕ) : Type 0 where
  pub payload : List ℕ
  pub next : Next
  pub behind : List ℕ
  pub is : bytes ≡ spelling server payload ++ behind
  pub are : AreBytes behind
  pub are_payload : AreBytes (take longest payload)
  pub reads : part_read (DueBody due) (take longest payload) ≡ Some (Rest next)
  pub goes : run_on (followed_at (id_behind server payload) (id_behind client payload) number next) behind ≡ Ended end rest

message_by : (server client number : ℕ) (due : Due) (bytes : List ℕ) (end : ReplyEnd) (rest part others : List ℕ) (next : Next) (long : Bool) → nat_eq (length part) longest ≡ long → bytes ≡ packet server part ++ others → length part ≤ longest → AreBytes bytes → AreBytes others
    → part_read (DueBody due) part ≡ Some (Rest next) → run_on (packet_at (next_id server) (next_id client) number long (Rest next)) others ≡ Ended end rest → InMessage server client number due bytes end rest
unfolding spelling
message_by server client number due bytes end rest part others next true is_long is most are_all are reads goes =
    let long : length part ≡ longest = nat_eq-true (length part) longest is_long in
    let more = in_others (suc (length others)) (next_id server) (next_id client) number next others end rest (omega arith) are goes in
    let size : length (part ++ more.payload) ≡ longest + length more.payload = omega (arith, length-append part more.payload, long) in
    let front : take longest (part ++ more.payload) ≡ part = rw (← long) (take-append_seam part more.payload) in
    record {
      payload = part ++ more.payload;
      next = next;
      behind = more.behind;
      is = is ∙ ap (λ bs. packet server part ++ bs) more.is ∙ sym (append_assoc (packet server part) (packets (length more.payload / longest) (next_id server) more.payload) more.behind) ∙ ap (λ bs. bs ++ more.behind) (sym (spelled-longer server part more.payload long));
      are = more.are;
      are_payload = rw front (are_part server part others bytes is are_all);
      reads = rw front reads;
      goes = rw (← longer_ids server (length (part ++ more.payload)) (length more.payload) size, ← longer_ids client (length (part ++ more.payload)) (length more.payload) size) more.goes;
    }
message_by server client number due bytes end rest part others next false is_long is most are_all are reads goes =
    let short : length part < longest = omega (arith, nat_eq-false (length part) longest is_long) in
    let none : length part / longest ≡ 0 = omega arith in
    let front : take longest part ≡ part = take_all longest part most in
    record {
      payload = part;
      next = next;
      behind = others;
      is = rw none is;
      are = are;
      are_payload = rw front (are_part server part others bytes is are_all);
      reads = rw front reads;
      goes = rw (none, add-zero server, add-zero client) goes;
    }

read_last : (server client number : ℕ) (long : Bool) (last : Body) (others : List ℕ) (end : ReplyEnd) (rest : List ℕ) → run_on (packet_at server client number long last) others ≡ Ended end rest → (next : Next) × (last ≡ Rest next)
read_last server client number long (Rest next) others end rest is = (next, refl)
read_last server client number long (DueBody due) others end rest is = absurd (cc)
read_last server client number long (CellBody cell) others end rest is = absurd (cc)
read_last server client number long (NumberBody field size value) others end rest is = absurd (cc)

pub in-message : (server client number : ℕ) (due : Due) (bytes : List ℕ) (end : ReplyEnd) (rest : List ℕ) → AreBytes bytes → run (mk server client number First (DueBody due)) bytes ≡ Ended end rest → InMessage server client number due bytes end rest
in-message server client number due bytes end rest are is =
    let at = in-packet server client number (DueBody due) bytes end rest are is in
    let last = read_last (next_id server) (next_id client) number (nat_eq (length at.part) longest) at.last at.others end rest at.goes in
    let behind : AreBytes at.others = AreBytes-behind (packet server at.part) at.others (rw at.is at are) in
    message_by server client number due bytes end rest at.part at.others last.0 (nat_eq (length at.part) longest) refl at.is at.most are behind (at.reads ∙ ap Some last.1) (rw last.1 at at.goes)
