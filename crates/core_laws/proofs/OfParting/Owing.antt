-- A client is owed the same where the same of its messages is answered.
use Rattle.std.specs.Prelude.{◌≡◌, ◌≤◌, ◌+◌, ℕ, zero, suc, Bool, true, false, is_some, ◌||◌, length, take, List, [], ◌∷◌, ◌++◌}
use Rattle.std.proofs.Common.{refl, sym, ap, ◌∙◌, subst, arith}
use Rattle.std.proofs.lemmas.List.{length-take}
use Rattle.packet_frame.specs.Packets.{Framed, next_id}
use Rattle.client_session.specs.Answers.{front}
use Rattle.private_model.specs.View.{View}
use Rattle.log_story.specs.Clients.{is_answered}
use Rattle.log_story.specs.Owed.{answered_with, due_bytes, due_for, error_behind, messages, name_of, number_of, talk_of, with_word}
use Rattle.log_story.specs.Plan.{Plan, own_at, word_at}
use Rattle.log_story.specs.Tale.{Client, Tale}
use Rattle.client_seat.specs.Seats.{is_ended}
use Rattle.client_seat.specs.Stands.{IsWrittenOf, Known, due_so_far}
use Rattle.client_seat.specs.declared.phase.Phase.{Phase}
use Rattle.client_seat.specs.declared.phase.Phase.TheVariants as phase
use Rattle.client_seat.specs.declared.seat.Seat.{Seat}
use Rattle.core_stands.specs.Clients.{IsFrontOf, IsOwing}
use Rattle.core_stands.specs.Grounds.{Ground, known_on, view_on}

-- of the messages that were taken up
pub record Alike (plan : Plan) (client : Client) (old new : View) (moment later : ℕ) : Type 0 where
  pub own : (ordinal : ℕ) → ordinal ≤ client.taken → own_at plan later (name_of client ordinal) ≡ own_at plan moment (name_of client ordinal)
  pub replies : (ordinal : ℕ) → new.replies (name_of client ordinal) ≡ old.replies (name_of client ordinal)

module _ (plan : Plan) (client : Client) (old new : View) (moment later : ℕ) (alike : Alike plan client old new moment later) where
  due_alike : (last : List ℕ) (ordinal : ℕ) (all : List Framed) → ordinal + length all ≤ suc client.taken
      → due_for new.replies plan later client last ordinal all ≡ due_for old.replies plan moment client last ordinal all
  due_alike last ordinal [] below = refl
  due_alike last ordinal (message ∷ others) below =
      let here : ordinal ≤ client.taken = omega arith in
      let rest : suc ordinal + length others ≤ suc client.taken = omega arith in
      λ i. answered_with (alike.own ordinal here i) (alike.replies ordinal i) (number_of plan (name_of client ordinal)) (next_id message.last)
      (due_alike last (suc ordinal) others rest i)

  due_taken : (last : List ℕ) → due_for new.replies plan later client last 1 (take client.taken (messages plan client))
      ≡ due_for old.replies plan moment client last 1 (take client.taken (messages plan client))
  due_taken last = due_alike last 1 (take client.taken (messages plan client)) (omega (arith, length-take client.taken (messages plan client)))

  abbrev x : Known
  x = record { plan = plan; view = old; moment = moment }

  abbrev y : Known
  y = record { plan = plan; view = new; moment = later }

  pub so_far_alike : due_so_far x client ≡ due_so_far y client
  so_far_alike = sym (ap (λ (due : List ℕ). front (talk_of plan client) ++ due) (due_taken []))

  pub bytes_alike : word_at plan later client.number ≡ word_at plan moment client.number
      → due_bytes old.replies plan moment client ≡ due_bytes new.replies plan later client
  bytes_alike word = sym (λ i. with_word (talk_of plan client) (front (talk_of plan client) ++ due_taken (error_behind plan client) i) (word i))

  pub answered_alike : (before after : Tale) → before.moment ≡ moment → after.moment ≡ later → (ordinal : ℕ) → ordinal ≤ client.taken
      → is_answered plan after new client ordinal ≡ is_answered plan before old client ordinal
  answered_alike before after at then zero below = refl
  answered_alike before after at then (suc n) below =
      let own : own_at plan after.moment (name_of client (suc n)) ≡ own_at plan before.moment (name_of client (suc n)) =
      ap (λ (m : ℕ). own_at plan m (name_of client (suc n))) then ∙ alike.own (suc n) below ∙ sym (ap (λ (m : ℕ). own_at plan m (name_of client (suc n))) at) in
      λ i. is_some (own i) || is_some (alike.replies (suc n) i)

-- the same in two grounds of one plan
pub owing_alike : (g after : Ground) (client : Client) (at : Phase) (fresh : Bool) (seat : Seat)
    → due_so_far (known_on g) client ≡ due_so_far (known_on after) client
    → (is_ended at ≡ true → due_bytes (view_on g).replies g.plan g.tale.moment client ≡ due_bytes (view_on after).replies after.plan after.tale.moment client)
    → IsOwing at fresh g client seat → IsOwing at fresh after client seat
owing_alike g after client phase.LoggingIn true seat so_far bytes is = tt
owing_alike g after client phase.LoggingIn false seat so_far bytes is = subst (λ (due : List ℕ). IsWrittenOf client seat due) so_far is
owing_alike g after client (phase.Serving account) fresh seat so_far bytes is = subst (λ (due : List ℕ). IsWrittenOf client seat due) so_far is
owing_alike g after client phase.Ended fresh seat so_far bytes is = subst (λ (due : List ℕ). IsFrontOf client seat due) (bytes refl) is
