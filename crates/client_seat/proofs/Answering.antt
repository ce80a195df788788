-- What is due to a client, as its last message that was taken up is answered.
use Rattle.std.specs.Prelude.{◌≡◌, ◌<◌, ℕ, suc, ◌+◌, is_some, List, [], ◌∷◌, ◌++◌, length, Option}
use Rattle.std.proofs.Common.{◌∙◌, refl, sym, ap, arith}
use Rattle.packet_frame.specs.Packets.{Framed}
use Rattle.log_story.specs.Tale.{Client}
use Rattle.client_seat.specs.Stands.{Answers, AreAnswered, Known, answer_to, due_so_far}
use Rattle.client_seat.proofs.Keeping.{due-answers}
use Rattle.client_seat.proofs.Owing.{due_from, step, told_by}

module _ (x y : Known) (client : Client) where
  still-answered : (i : ℕ) (sent : List Framed)
      → ((ordinal : ℕ) (other : Framed) → ordinal < i + length sent → answer_to y client ordinal other ≡ answer_to x client ordinal other)
      → AreAnswered x client i sent → AreAnswered y client i sent
  still-answered i [] same was = tt
  still-answered i (message ∷ others) same was = (
    ap (λ (answer : Option (List ℕ)). is_some answer) (same i message (omega arith)) ∙ was.0,
    still-answered (suc i) others (λ ordinal other less. same ordinal other (omega arith)) was.1,
  )

  still-due : (i : ℕ) (sent : List Framed)
      → ((ordinal : ℕ) (other : Framed) → ordinal < i + length sent → answer_to y client ordinal other ≡ answer_to x client ordinal other)
      → due_from y client [] i sent ≡ due_from x client [] i sent
  still-due i [] same = refl
  still-due i (message ∷ others) same =
      step y client [] i message others
      ∙ ap (λ (answer : Option (List ℕ)). told_by answer (due_from y client [] (suc i) others)) (same i message (omega arith))
      ∙ ap (told_by (answer_to x client i message)) (still-due (suc i) others (λ ordinal other less. same ordinal other (omega arith)))
      ∙ sym (step x client [] i message others)

pub answers-due : (x y : Known) (client : Client) (before : List Framed) (message : Framed) (bytes : List ℕ) → Answers x y client before message bytes
    → due_so_far y client ≡ due_so_far x client ++ bytes
answers-due x y client before message bytes now =
    due-answers x y client before message bytes now.plan now.taken now.answered now.was_none now.there
    (still-answered x y client 1 before now.same now.answered) (still-due x y client 1 before now.same)
