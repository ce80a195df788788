-- A client's last message is answered by a reply: what it is due grows by that.
use Rattle.std.specs.Prelude.{◌≡◌, ◌≤◌, ◌<◌, ℕ, zero, suc, ◌+◌, ◌-◌, Bool, true, false, is_some, ◌||◌, nat_eq, List, [], ◌∷◌, ◌++◌, length, slice_get, take, Option, Some, None}
use Rattle.std.proofs.Common.{refl, sym, ap, ◌∙◌, arith, length-append}
use Rattle.std.proofs.lemmas.Bool.{false≢true, true≢false}
use Rattle.packet_frame.specs.Packets.{Framed, Split, next_id, spellings, split}
use Rattle.reply_track.specs.Grammar.{renamed}
use Rattle.server_side.specs.Account.{Account}
use Rattle.private_model.specs.Commands.{Reply}
use Rattle.private_model.specs.Names.{MessageName}
use Rattle.private_model.specs.Story.{is_message, put}
use Rattle.private_model.specs.View.{View}
use Rattle.log_story.specs.Clients.{is_answered}
use Rattle.log_story.specs.Owed.{kind_of, messages, name_of, number_of}
use Rattle.log_story.specs.Plan.{Plan, own_at}
use Rattle.log_story.specs.Tale.{Client, Tale}
use Rattle.client_seat.proofs.Answering.{answers-due}
use Rattle.client_seat.specs.declared.seat.Seat.{Seat}
use Rattle.client_seat.specs.Stands.{AreAnswered, IsServed, Known, answer_by, due_so_far}
use Rattle.private_model.proofs.Maps.{same_message}
use Rattle.core_laws.proofs.OfParting.Apart.{put_apart}
use Rattle.core_laws.proofs.OfHearing.Messages.{of_other_ordinal, put_here}

-- the last message that was taken up
pub record IsLast (plan : Plan) (client : Client) : Type 0 where
  pub before : List Framed
  pub message : Framed
  pub taken : take client.taken (messages plan client) ≡ before ++ message ∷ []
  pub count : suc (length before) ≡ client.taken
  pub at : slice_get (messages plan client) (client.taken - 1) ≡ Some message

last_at : (k : ℕ) (xs : List Framed) → k < length xs → (message : Framed) × (take (suc k) xs ≡ take k xs ++ message ∷ []) × (slice_get xs k ≡ Some message)
last_at k [] within = absurd (omega arith)
last_at zero (x ∷ xs) within = (x, refl, refl)
last_at (suc k) (x ∷ xs) within =
    let less : k < length xs = omega arith in
    let rest = last_at k xs less in
    (rest.0, ap (λ (ys : List Framed). x ∷ ys) rest.1, rest.2)

length_taken : (n : ℕ) (xs : List Framed) → n ≤ length xs → length (take n xs) ≡ n
length_taken zero xs less = refl
length_taken (suc n) [] less = absurd (omega arith)
length_taken (suc n) (x ∷ xs) less = let fewer : n ≤ length xs = omega arith in omega (arith, length_taken n xs fewer)

pub is_last : (plan : Plan) (client : Client) (seat : Seat) (account : Account) (k : ℕ) → IsServed plan client seat account → client.taken ≡ suc k
    → IsLast plan client
is_last plan client seat account k served some =
    let rest : Split = split plan.service.limit 0 seat.client.framer.kept in
    let size : length (messages plan client) ≡ length served.gone + length rest.messages =
    ap (λ (all : Split). length all.messages) served.rest ∙ length-append served.gone rest.messages in
    let within : k < length (messages plan client) = omega (arith, size, served.size, some) in
    let fewer : k ≤ length (messages plan client) = omega arith in
    let last = last_at k (messages plan client) within in
    let place : client.taken - 1 ≡ k = omega (arith, some) in
    record {
      before = take k (messages plan client);
      message = last.0;
      taken = ap (λ (n : ℕ). take n (messages plan client)) some ∙ last.1;
      count = ap suc (length_taken k (messages plan client) fewer) ∙ sym some;
      at = ap (slice_get (messages plan client)) place ∙ last.2;
    }

-- what is answered has an answer

abbrev is_told : Option (List (List ℕ)) → Option Reply → Bool
is_told own reply = is_some own || is_some reply

some_told : (own : Option (List (List ℕ))) (reply : Option Reply) (number id : ℕ) → is_told own reply ≡ true → is_some (answer_by own reply number id) ≡ true
some_told (Some payloads) reply number id is = refl
some_told None (Some reply) number id is = refl
some_told None None number id is = absurd (false≢true is)

none_told : (own : Option (List (List ℕ))) (reply : Option Reply) → is_told own reply ≡ false → (own ≡ None) × (reply ≡ None)
none_told None None is = (refl, refl)
none_told None (Some reply) is = absurd (true≢false is)
none_told (Some payloads) reply is = absurd (true≢false is)

abbrev pub IsTold : Known → Client → (ordinal : ℕ) → Type 0
IsTold x client ordinal = is_told (own_at x.plan x.moment (name_of client ordinal)) (x.view.replies (name_of client ordinal)) ≡ true

are_told : (x : Known) (client : Client) (i : ℕ) (xs : List Framed) → ((ordinal : ℕ) → i ≤ ordinal → ordinal < i + length xs → IsTold x client ordinal)
    → AreAnswered x client i xs
are_told x client i [] each = tt
are_told x client i (message ∷ others) each = (
  some_told (own_at x.plan x.moment (name_of client i)) (x.view.replies (name_of client i)) (number_of x.plan (name_of client i)) (next_id message.last)
      (each i (omega arith) (omega arith)),
  are_told x client (suc i) others (λ ordinal above below. each ordinal (omega arith) (omega arith)),
)

-- The reply comes.

module _ (plan : Plan) (moment : ℕ) (tale : Tale) (at_moment : tale.moment ≡ moment) (old new : View) (client : Client) (reply : Reply)
    (heard : (m : MessageName) → new.replies m ≡ put is_message old.replies (name_of client client.taken) (Some reply) m)
    (last : IsLast plan client)
    (unanswered : is_answered plan tale old client client.taken ≡ false)
    (earlier : (ordinal : ℕ) → ordinal < client.taken → is_answered plan tale old client ordinal ≡ true) where
  abbrev x : Known
  x = record { plan = plan; view = old; moment = moment }

  abbrev y : Known
  y = record { plan = plan; view = new; moment = moment }

  abbrev bytes : List ℕ
  bytes = spellings (next_id last.message.last) (renamed (kind_of reply) (number_of plan (name_of client client.taken)) reply.payloads)

  place : 1 + length last.before ≡ client.taken
  place = omega (arith, last.count)

  told_at : (ordinal : ℕ) (answered : Bool) → 1 ≤ ordinal → is_answered plan tale old client ordinal ≡ answered
      → is_told (own_at plan moment (name_of client ordinal)) (old.replies (name_of client ordinal)) ≡ answered
  told_at zero answered above is = absurd (omega arith)
  told_at (suc k) answered above is =
      ap (λ (m : ℕ). is_told (own_at plan m (name_of client (suc k))) (old.replies (name_of client (suc k)))) (sym at_moment) ∙ is

  none : (own_at plan moment (name_of client client.taken) ≡ None) × (old.replies (name_of client client.taken) ≡ None)
  none =
      none_told (own_at plan moment (name_of client client.taken)) (old.replies (name_of client client.taken))
      (told_at client.taken false (omega (arith, place)) unanswered)

  abbrev AnswerAt : View → ℕ → Option (List ℕ)
  AnswerAt v ordinal =
      answer_by (own_at plan moment (name_of client ordinal)) (v.replies (name_of client ordinal)) (number_of plan (name_of client ordinal)) (next_id last.message.last)

  was_none : AnswerAt old client.taken ≡ None
  was_none =
      ap (λ (own : Option (List (List ℕ))). answer_by own (old.replies (name_of client client.taken)) (number_of plan (name_of client client.taken)) (next_id last.message.last)) none.0
      ∙ ap (λ (r : Option Reply). answer_by None r (number_of plan (name_of client client.taken)) (next_id last.message.last)) none.1

  now_there : AnswerAt new client.taken ≡ Some bytes
  now_there =
      ap (λ (own : Option (List (List ℕ))). answer_by own (new.replies (name_of client client.taken)) (number_of plan (name_of client client.taken)) (next_id last.message.last)) none.0
      ∙ ap (λ (r : Option Reply). answer_by None r (number_of plan (name_of client client.taken)) (next_id last.message.last))
      (heard (name_of client client.taken) ∙ put_here is_message old.replies (name_of client client.taken) (Some reply) (name_of client client.taken)
      (same_message (name_of client client.taken)))

  other_message : (ordinal : ℕ) → ordinal < client.taken → is_message (name_of client ordinal) (name_of client client.taken) ≡ false
  other_message ordinal below =
      let apart : nat_eq ordinal client.taken ≡ false = grind arith in
      of_other_ordinal client.number ordinal (name_of client client.taken) apart

  same_reply : (ordinal : ℕ) → ordinal < client.taken → new.replies (name_of client ordinal) ≡ old.replies (name_of client ordinal)
  same_reply ordinal below =
      heard (name_of client ordinal)
      ∙ put_apart is_message old.replies (name_of client client.taken) (Some reply) (name_of client ordinal) (other_message ordinal below)

  pub replied_due : due_so_far y client ≡ due_so_far x client ++ bytes
  replied_due = answers-due x y client last.before last.message bytes (record {
    plan = refl;
    taken = last.taken;
    was_none = ap (AnswerAt old) place ∙ was_none;
    there = ap (AnswerAt new) place ∙ now_there;
    answered = are_told x client 1 last.before (λ ordinal above below.
        told_at ordinal true above (earlier ordinal (omega (arith, place))));
    same = λ ordinal other below.
        let less : ordinal < client.taken = omega (arith, place) in
        ap (λ (r : Option Reply). answer_by (own_at plan moment (name_of client ordinal)) r (number_of plan (name_of client ordinal)) (next_id other.last)) (same_reply ordinal less);
  })
