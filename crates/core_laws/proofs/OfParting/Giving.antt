-- What a client is due as its last message is answered by the router, at the next entry.
use Rattle.std.specs.Prelude.{◌≡◌, ◌<◌, ◌≤◌, ◌+◌, ◌-◌, ℕ, zero, suc, Bool, true, false, is_some, ◌||◌, nat_eq, length, slice_get, take, List, [], ◌∷◌, ◌++◌, Option, Some, None}
use Rattle.std.proofs.Common.{refl, sym, ap, ◌∙◌, arith, append_assoc, length-append}
use Rattle.std.proofs.lemmas.Bool.{true≢false}
use Rattle.packet_frame.specs.Packets.{Framed, Split, next_id, spellings, split}
use Rattle.private_model.proofs.Maps.{number_of}
use Rattle.private_model.specs.Commands.{Reply}
use Rattle.private_model.specs.View.{View}
use Rattle.log_story.specs.Clients.{is_answered}
use Rattle.log_story.specs.Owed as owed
use Rattle.log_story.specs.Owed.{messages, name_of}
use Rattle.log_story.specs.Plan.{Plan, own_at}
use Rattle.log_story.specs.Tale.{Client, Tale}
use Rattle.server_side.specs.Account.{Account}
use Rattle.client_seat.specs.Answers.{answered}
use Rattle.client_seat.specs.Stands.{Answers, AreAnswered, IsServed, IsWrittenOf, Known, answer_by, answer_to}
use Rattle.client_seat.specs.declared.seat.Seat.{Seat}

pub apart_below : (a b : ℕ) → a < b → nat_eq a b ≡ false
apart_below a b less = by (nat_eq a b) refl where
  by : (same : Bool) → nat_eq a b ≡ same → nat_eq a b ≡ false
  by true is = absurd (let same : a ≡ b = number_of a b is in omega (arith, same, less))
  by false is = is

pub neither : {A B : Type 0} (o : Option A) (r : Option B) → (is_some o || is_some r) ≡ false → (o ≡ None) × (r ≡ None)
neither None None is = (refl, refl)
neither (Some a) r is = absurd (true≢false is)
neither None (Some b) is = absurd (true≢false is)

answer_some : (own : Option (List (List ℕ))) (reply : Option Reply) (number id : ℕ) → is_some (answer_by own reply number id) ≡ is_some own || is_some reply
answer_some (Some payloads) reply number id = refl
answer_some None (Some reply) number id = refl
answer_some None None number id = refl

-- the last of those that are gone
last_of : (x : Framed) (xs : List Framed) → (front : List Framed) × (m : Framed) × (x ∷ xs ≡ front ++ m ∷ [])
last_of x [] = ([], x, refl)
last_of x (y ∷ ys) = let rest = last_of y ys in (x ∷ rest.0, rest.1, ap (λ (all : List Framed). x ∷ all) rest.2)

one_of : (xs : List Framed) → 0 < length xs → (front : List Framed) × (m : Framed) × (xs ≡ front ++ m ∷ [])
one_of [] some = absurd (omega (arith, some))
one_of (x ∷ xs) some = last_of x xs

take_front : (xs ys : List Framed) → take (length xs) (xs ++ ys) ≡ xs
take_front [] ys = refl
take_front (x ∷ xs) ys = ap (λ (all : List Framed). x ∷ all) (take_front xs ys)

get_behind : (front : List Framed) (m : Framed) (others : List Framed) → slice_get ((front ++ m ∷ []) ++ others) (length front) ≡ Some m
get_behind [] m others = refl
get_behind (x ∷ front) m others = get_behind front m others

-- of a client that is served, whose last message isn't answered
module _ (plan : Plan) (tale : Tale) (view : View) (client : Client) where
  told : (ordinal : ℕ) → 0 < ordinal → is_answered plan tale view client ordinal ≡ is_some (own_at plan tale.moment (name_of client ordinal)) || is_some (view.replies (name_of client ordinal))
  told zero some = absurd (omega (arith, some))
  told (suc n) some = refl

  pub none_answered : (ordinal : ℕ) → is_answered plan tale view client ordinal ≡ false → 0 < ordinal
  none_answered zero is = absurd (true≢false is)
  none_answered (suc n) is = omega arith

  abbrev x : Known
  x = record { plan = plan; view = view; moment = tale.moment }

  answered_so : (ordinal : ℕ) (message : Framed) → 0 < ordinal → is_answered plan tale view client ordinal ≡ true → is_some (answer_to x client ordinal message) ≡ true
  answered_so ordinal message some is =
      answer_some (own_at plan tale.moment (name_of client ordinal)) (view.replies (name_of client ordinal)) (owed.number_of plan (name_of client ordinal)) (next_id message.last)
      ∙ sym (told ordinal some) ∙ is

  are_answered : (earlier : (ordinal : ℕ) → ordinal < client.taken → is_answered plan tale view client ordinal ≡ true) (i : ℕ) (all : List Framed)
      → 0 < i → i + length all ≤ client.taken → AreAnswered x client i all
  are_answered earlier i [] some below = tt
  are_answered earlier i (message ∷ others) some below = (
    answered_so i message some (earlier i (omega (arith, below))),
    are_answered earlier (suc i) others (omega arith) (omega (arith, below)),
  )

  -- the messages that were taken up, and the last of them
  pub record Taken : Type 0 where
    pub before : List Framed
    pub message : Framed
    pub all : take client.taken (messages plan client) ≡ before ++ message ∷ []
    pub size : client.taken ≡ 1 + length before
    pub there : slice_get (messages plan client) (client.taken - 1) ≡ Some message

  pub taken_so : (seat : Seat) (account : Account) → IsServed plan client seat account → 0 < client.taken → Taken
  taken_so seat account was some =
      let last = one_of was.gone (rw was.size some) in
      let more : List Framed = (split plan.service.limit 0 seat.client.framer.kept).messages in
      let whole : messages plan client ≡ was.gone ++ more = ap (λ (s : Split). s.messages) was.rest in
      let sized : length was.gone ≡ length last.0 + 1 = ap length last.2 ∙ length-append last.0 (last.1 ∷ []) in
      record {
        before = last.0;
        message = last.1;
        all = ap (λ (sent : List Framed). take client.taken sent) whole ∙ ap (λ (k : ℕ). take k (was.gone ++ more)) (sym was.size) ∙ take_front was.gone more ∙ last.2;
        size = omega (arith, sized, was.size);
        there = ap (λ (sent : List Framed). slice_get sent (client.taken - 1)) (whole ∙ ap (λ (gone : List Framed). gone ++ more) last.2)
            ∙ ap (λ (k : ℕ). slice_get ((last.0 ++ last.1 ∷ []) ++ more) k) (omega (arith, sized, was.size))
            ∙ get_behind last.0 last.1 more;
      }

  module _ (moment : ℕ) (taken : Taken) (payload : List ℕ) (first : ℕ) where
    abbrev y : Known
    y = record { plan = plan; view = view; moment = moment }

    pub answers_so : is_answered plan tale view client client.taken ≡ false
        → ((ordinal : ℕ) → ordinal < client.taken → is_answered plan tale view client ordinal ≡ true)
        → ((ordinal : ℕ) → ordinal < client.taken → own_at plan moment (name_of client ordinal) ≡ own_at plan tale.moment (name_of client ordinal))
        → own_at plan moment (name_of client client.taken) ≡ Some (payload ∷ []) → first ≡ next_id taken.message.last
        → Answers x y client taken.before taken.message (spellings first (payload ∷ []))
    answers_so opened earlier own given id =
        let some : 0 < client.taken = none_answered client.taken opened in
        let none = neither (own_at plan tale.moment (name_of client client.taken)) (view.replies (name_of client client.taken)) (sym (told client.taken some) ∙ opened) in
        let number : ℕ = owed.number_of plan (name_of client client.taken) in
        record {
          plan = refl;
          taken = taken.all;
          was_none = ap (λ (k : ℕ). answer_to x client k taken.message) (sym taken.size)
              ∙ (λ i. answer_by (none.0 i) (none.1 i) number (next_id taken.message.last));
          there = ap (λ (k : ℕ). answer_to y client k taken.message) (sym taken.size)
              ∙ ap (λ (o : Option (List (List ℕ))). answer_by o (view.replies (name_of client client.taken)) number (next_id taken.message.last)) given
              ∙ ap (λ (k : ℕ). Some (spellings k (payload ∷ []))) (sym id);
          answered = are_answered earlier 1 taken.before (omega arith) (omega (arith, taken.size));
          same = λ ordinal other below.
              ap (λ (o : Option (List (List ℕ))). answer_by o (view.replies (name_of client ordinal)) (owed.number_of plan (name_of client ordinal)) (next_id other.last))
              (own ordinal (omega (arith, below, taken.size)));
        }

-- bytes that are due more
pub written_more : (client : Client) (seat : Seat) (payload : List ℕ) (due now : List ℕ) → now ≡ due ++ spellings seat.first (payload ∷ []) → IsWrittenOf client seat due
    → IsWrittenOf client (answered (payload ∷ []) seat) now
written_more client seat payload due now is was = record {
  written = was.written;
  size = was.size;
  all = is ∙ ap (λ (front : List ℕ). front ++ spellings seat.first (payload ∷ [])) was.all ∙ append_assoc was.written seat.outbox.due (spellings seat.first (payload ∷ []));
}
