-- What a client is due, as its next message is taken up, and answered or not.
use Rattle.std.specs.Prelude.{◌≡◌, ◌<◌, ℕ, suc, ◌+◌, true, ◌||◌, is_some, length, take, List, [], ◌∷◌, ◌++◌, Option, Some, None}
use Rattle.std.proofs.Common.{refl, sym, ap, ◌∙◌, arith, append-nil, append_assoc, below_more}
use Rattle.std.proofs.lemmas.List.{length-take-le}
use Rattle.std.proofs.lemmas.Option.{slice_get_within}
use Rattle.packet_frame.specs.Packets.{Framed, next_id, spellings}
use Rattle.client_session.specs.Answers.{front}
use Rattle.private_model.specs.Commands.{Reply}
use Rattle.log_story.specs.Clients.{is_answered}
use Rattle.log_story.specs.Owed.{messages, name_of, number_of, talk_of}
use Rattle.log_story.specs.Plan.{own_at}
use Rattle.log_story.specs.Tale.{Client, Tale}
use Rattle.step_laws.specs.Taken.{next_of}
use Rattle.client_seat.proofs.Keeping.{due-stays}
use Rattle.client_seat.proofs.Owing.{due-answered, due_from}
use Rattle.client_seat.specs.Stands.{AreAnswered, IsNext, Known, answer_by, answer_to, due_so_far}

-- Where it is answered.

some_by : (own : Option (List (List ℕ))) (reply : Option Reply) (number id : ℕ)
    → is_some (answer_by own reply number id) ≡ (is_some own || is_some reply)
some_by (Some payloads) reply number id = refl
some_by None (Some reply) number id = refl
some_by None None number id = refl

module _ (x : Known) (tale : Tale) (now : tale.moment ≡ x.moment) (client : Client) where
  answered_some : (ordinal : ℕ) (message : Framed)
      → is_answered x.plan tale x.view client (suc ordinal) ≡ true → is_some (answer_to x client (suc ordinal) message) ≡ true
  answered_some ordinal message is =
      some_by (own_at x.plan x.moment (name_of client (suc ordinal))) (x.view.replies (name_of client (suc ordinal)))
      (number_of x.plan (name_of client (suc ordinal))) (next_id message.last)
      ∙ ap (λ (m : ℕ). is_some (own_at x.plan m (name_of client (suc ordinal))) || is_some (x.view.replies (name_of client (suc ordinal)))) (sym now)
      ∙ is

  pub are_answered : (i : ℕ) (sent : List Framed)
      → ((ordinal : ℕ) → ordinal < suc i + length sent → is_answered x.plan tale x.view client ordinal ≡ true) → AreAnswered x client (suc i) sent
  are_answered i [] are = tt
  are_answered i (message ∷ others) are = (
    answered_some i message (are (suc i) (omega arith)),
    are_answered (suc i) others (λ ordinal below. are ordinal (omega arith)),
  )

-- all that were taken up
pub all_answered : (P : ℕ → Type 0) (n : ℕ) → ((ordinal : ℕ) → ordinal < n → P ordinal) → P n → (ordinal : ℕ) → ordinal < suc n → P ordinal
all_answered P n earlier last ordinal below = below_more P n earlier last ordinal (omega arith)

module _ (x : Known) (client : Client) (message : Framed) (next : IsNext x.plan client message) where
  pub due_size : length (take client.taken (messages x.plan client)) ≡ client.taken
  due_size =
      let within : client.taken < length (messages x.plan client) = slice_get_within (messages x.plan client) client.taken message next.next in
      length-take-le client.taken (messages x.plan client) (omega arith)

  -- the answer stands behind the others
  pub due_with : (payloads : List (List ℕ)) → own_at x.plan x.moment (name_of client (suc client.taken)) ≡ Some payloads
      → AreAnswered x client 1 (take client.taken (messages x.plan client))
      → due_so_far x (next_of client) ≡ due_so_far x client ++ spellings (next_id message.last) payloads
  due_with payloads own before =
      let bytes : List ℕ = spellings (next_id message.last) payloads in
      let last : answer_to x client (1 + length (take client.taken (messages x.plan client))) message ≡ Some bytes =
      ap (λ (k : ℕ). answer_to x client k message) (omega (arith, due_size))
      ∙ ap (λ (o : Option (List (List ℕ))). answer_by o (x.view.replies (name_of client (suc client.taken)))
      (number_of x.plan (name_of client (suc client.taken))) (next_id message.last)) own in
      ap (λ (xs : List Framed). front (talk_of x.plan client) ++ due_from x client [] 1 xs) next.before
      ∙ ap (λ (due : List ℕ). front (talk_of x.plan client) ++ due)
      (due-answered x client [] 1 (take client.taken (messages x.plan client)) message bytes before last
      ∙ ap (λ (own : List ℕ). due_from x client [] 1 (take client.taken (messages x.plan client)) ++ own) (append-nil bytes))
      ∙ sym (append_assoc (front (talk_of x.plan client)) (due_from x client [] 1 (take client.taken (messages x.plan client))) bytes)

  -- no answer stands there yet
  pub due_without : own_at x.plan x.moment (name_of client (suc client.taken)) ≡ None
      → x.view.replies (name_of client (suc client.taken)) ≡ None → due_so_far x (next_of client) ≡ due_so_far x client
  due_without own reply =
      let within : client.taken < length (messages x.plan client) = slice_get_within (messages x.plan client) client.taken message next.next in
      due-stays x client message (omega arith) next
      (λ i. answer_by (own i) (reply i) (number_of x.plan (name_of client (suc client.taken))) (next_id message.last))
