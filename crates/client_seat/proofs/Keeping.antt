-- What is written to a client and what is to be written are together what it is due, as its messages are read, taken up and answered.
use Rattle.std.specs.Prelude.{◌≡◌, ◌≤◌, ℕ, suc, ◌+◌, List, [], ◌∷◌, ◌++◌, length, take, drop, Option, Some, None}
use Rattle.std.proofs.Common.{◌∙◌, refl, sym, ap, arith, append-nil, append_assoc, length-append}
use Rattle.packet_frame.specs.Packets.{Framed}
use Rattle.client_session.specs.Answers.{front}
use Rattle.log_story.specs.Owed.{messages, talk_of}
use Rattle.log_story.specs.Tale.{Client}
use Rattle.client_seat.specs.Seats.{Seat, wrote}
use Rattle.client_seat.specs.Stands.{AreAnswered, IsNext, IsWrittenOf, Known, answer_to, due_so_far}
use Rattle.client_seat.proofs.Owing.{due-answered, due-taken, due_from}
use Rattle.client_seat.proofs.Sending.{front_length, parts}

-- so many bytes were written
pub written : (client : Client) (seat : Seat) (due : List ℕ) (n : ℕ) → n ≤ length seat.outbox.due → IsWrittenOf client seat due
    → IsWrittenOf (record client { written = client.written + n }) (wrote n seat) due
written client seat due n within was = record {
  written = was.written ++ take n seat.outbox.due;
  size = omega (arith, length-append was.written (take n seat.outbox.due), was.size, front_length n seat.outbox.due within);
  all =
      was.all ∙ ap (λ (left : List ℕ). was.written ++ left) (sym (parts n seat.outbox.due))
      ∙ sym (append_assoc was.written (take n seat.outbox.due) (drop n seat.outbox.due));
}

-- more is due, and it is to be written
pub more-due : (client : Client) (old new : Seat) (due more : List ℕ) → new.outbox.due ≡ old.outbox.due ++ more → IsWrittenOf client old due
    → IsWrittenOf client new (due ++ more)
more-due client old new due more is was = record {
  written = was.written;
  size = was.size;
  all =
      ap (λ (front : List ℕ). front ++ more) was.all ∙ append_assoc was.written old.outbox.due more
      ∙ ap (λ (left : List ℕ). was.written ++ left) (sym is);
}

length-taken : (client : Client) (sent : List Framed) → client.taken ≤ length sent → length (take client.taken sent) ≡ client.taken
length-taken client sent within = by client.taken sent within where
  by : (n : ℕ) (xs : List Framed) → n ≤ length xs → length (take n xs) ≡ n
  by Rattle.std.specs.Prelude.zero xs less = refl
  by (suc n) [] less = absurd (omega arith)
  by (suc n) (x ∷ xs) less = let fewer : n ≤ length xs = omega arith in omega (arith, by n xs fewer)

-- A message is taken up, and isn't answered yet.
pub due-stays : (x : Known) (client : Client) (message : Framed) → client.taken ≤ length (messages x.plan client) → IsNext x.plan client message
    → answer_to x client (suc client.taken) message ≡ None
    → due_so_far x (record client { taken = suc client.taken }) ≡ due_so_far x client
due-stays x client message within next none =
    ap (λ (sent : List Framed). front (talk_of x.plan client) ++ due_from x client [] 1 sent) next.before
    ∙ ap (λ (due : List ℕ). front (talk_of x.plan client) ++ due)
    (due-taken x client 1 (take client.taken (messages x.plan client)) message
    (ap (λ (k : ℕ). answer_to x client k message) (omega (arith, length-taken client (messages x.plan client) within)) ∙ none))

-- The last message that was taken up is answered, and those before it were; for the others nothing is new.
pub due-answers : (x y : Known) (client : Client) (before : List Framed) (message : Framed) (bytes : List ℕ) → y.plan ≡ x.plan
    → take client.taken (messages x.plan client) ≡ before ++ message ∷ [] → AreAnswered x client 1 before
    → answer_to x client (1 + length before) message ≡ None → answer_to y client (1 + length before) message ≡ Some bytes
    → AreAnswered y client 1 before → due_from y client [] 1 before ≡ due_from x client [] 1 before
    → due_so_far y client ≡ due_so_far x client ++ bytes
due-answers x y client before message bytes plan taken was none some is same =
    let now : due_from y client [] 1 (before ++ message ∷ []) ≡ due_from x client [] 1 (before ++ message ∷ []) ++ bytes =
    due-answered y client [] 1 before message bytes is some
    ∙ ap (λ (own : List ℕ). due_from y client [] 1 before ++ own) (append-nil bytes)
    ∙ ap (λ (due : List ℕ). due ++ bytes) (same ∙ sym (due-taken x client 1 before message none)) in
    let greeted : front (talk_of y.plan client) ≡ front (talk_of x.plan client) = ap (λ p. front (talk_of p client)) plan in
    let sent : take client.taken (messages y.plan client) ≡ before ++ message ∷ [] = ap (λ p. take client.taken (messages p client)) plan ∙ taken in
    ap (λ (said : List ℕ). said ++ due_from y client [] 1 (take client.taken (messages y.plan client))) greeted
    ∙ ap (λ (xs : List Framed). front (talk_of x.plan client) ++ due_from y client [] 1 xs) sent
    ∙ ap (λ (due : List ℕ). front (talk_of x.plan client) ++ due) now
    ∙ sym (append_assoc (front (talk_of x.plan client)) (due_from x client [] 1 (before ++ message ∷ [])) bytes)
    ∙ ap (λ (xs : List Framed). (front (talk_of x.plan client) ++ due_from x client [] 1 xs) ++ bytes) (sym taken)
