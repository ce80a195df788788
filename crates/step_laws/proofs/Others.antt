-- What is looked at of a client: where it is the same, its messages are taken up as before.
use Rattle.std.specs.Prelude.{◌≡◌, ◌≤◌, ◌+◌, ◌-◌, ℕ, zero, suc, Bool, true, false, not, is_some, ◌&&◌, ◌||◌, drop, if◌then◌else◌, length, nat_eq, nat_lt, slice_get, slice_index_or, take, unwrap_or}
use Rattle.std.specs.Prelude.{List, [], ◌∷◌, ◌++◌, Option, Some, None}
use Rattle.std.specs.Option.{option_and_then, option_map, option_map_or, option_or}
use Rattle.std.proofs.Common.{refl, sym, ap, ◌∙◌, arith}
use Rattle.std.proofs.lemmas.List.{length-take}
use Rattle.std.proofs.lemmas.Option.{none-some}
use Rattle.mx_base.specs.Fields.{number_at}
use Rattle.packet_frame.specs.Packets.{Framed, next_id}
use Rattle.client_session.specs.Answers.{front}
use Rattle.private_model.specs.Names.{ClientNo, Hostgroup}
use Rattle.private_model.specs.View.{Setup, View, present}
use Rattle.log_story.specs.Clients.{captures_first, is_answered, is_up, next_taken, taken_by, waits_for_capture}
use Rattle.log_story.specs.Executes.{Prepared, Request, args_in, executed_by, prepared_by, prepared_in, requested, run_of, text_asked}
use Rattle.log_story.specs.Owed.{answered_with, due_for, has_room, messages, name_of, number_of, talk_of}
use Rattle.log_story.specs.Plan.{Plan, Route, com_execute, own_at}
use Rattle.log_story.specs.Tale.{Client, Tale, view_of}
use Rattle.step_laws.specs.Like.{IsLike}
use Rattle.step_laws.specs.Taken.{IsAsItWas, IsIdle, SparesOthers}

pub record IsAlike (setup : Setup) (plan : Plan) (client : Client) (old new : Tale) : Type 0 where
  pub own : (ordinal : ℕ) → ordinal ≤ client.taken → own_at plan new.moment (name_of client ordinal) ≡ own_at plan old.moment (name_of client ordinal)
  pub replies : (ordinal : ℕ) → (view_of setup new).replies (name_of client ordinal) ≡ (view_of setup old).replies (name_of client ordinal)
  pub captures : (h : Hostgroup)
      → captures_first ((view_of setup new).held (present (view_of setup new) client.number h))
      ≡ captures_first ((view_of setup old).held (present (view_of setup old) client.number h))
  pub place : (view_of setup new).places client.number ≡ (view_of setup old).places client.number

module _ (setup : Setup) (plan : Plan) (client : Client) (old new : Tale) (alike : IsAlike setup plan client old new) where
  answered_alike : (ordinal : ℕ) → ordinal ≤ client.taken
      → is_answered plan new (view_of setup new) client ordinal ≡ is_answered plan old (view_of setup old) client ordinal
  answered_alike zero below = refl
  answered_alike (suc n) below = λ i. is_some (alike.own (suc n) below i) || is_some (alike.replies (suc n) i)

  due_alike : (last : List ℕ) (ordinal : ℕ) (all : List Framed) → ordinal + length all ≤ suc client.taken
      → due_for (view_of setup new).replies plan new.moment client last ordinal all ≡ due_for (view_of setup old).replies plan old.moment client last ordinal all
  due_alike last ordinal [] below = refl
  due_alike last ordinal (message ∷ others) below =
      let here : ordinal ≤ client.taken = omega arith in
      let rest : suc ordinal + length others ≤ suc client.taken = omega arith in
      λ i. answered_with (alike.own ordinal here i) (alike.replies ordinal i) (number_of plan (name_of client ordinal)) (next_id message.last)
      (due_alike last (suc ordinal) others rest i)

  room_alike : has_room (view_of setup new).replies plan new.moment client ≡ has_room (view_of setup old).replies plan old.moment client
  room_alike =
      ap (λ rest. nat_lt (length (front (talk_of plan client) ++ rest) - client.written) plan.room)
      (due_alike [] 1 (take client.taken (messages plan client)) (omega (arith, length-take client.taken (messages plan client))))

  abbrev waits_by : View → Option Route → Bool
  waits_by view route = option_map_or (λ (r : Route). captures_first (view.held (present view client.number r.hostgroup))) route false

  waits_route : (route : Option Route) → waits_by (view_of setup new) route ≡ waits_by (view_of setup old) route
  waits_route None = refl
  waits_route (Some route) = alike.captures route.hostgroup

  waits_alike : waits_for_capture (view_of setup new) plan client ≡ waits_for_capture (view_of setup old) plan client
  waits_alike = waits_route (plan.routes (name_of client client.taken))

  up_alike : is_up setup plan client new ≡ is_up setup plan client old
  up_alike = λ i. answered_alike client.taken (omega arith) i && (not (waits_alike i) && room_alike i)

  -- What it asks for.

  prepared_alike : (number i : ℕ) (all : List Framed) → prepared_by (view_of setup new) plan client number i all ≡ prepared_by (view_of setup old) plan client number i all
  prepared_alike number i [] = refl
  prepared_alike number i (message ∷ others) =
      λ j. option_or (prepared_in number i message.payload (plan.routes (name_of client i)) (alike.replies i j)) (prepared_alike number (suc i) others j)

  abbrev refused : ℕ → Bool
  refused i = not (is_some (plan.routes (name_of client i)))

  executed_alike : (ordinal : ℕ) (route : Route) (payload : List ℕ) (number : ℕ)
      → executed_by setup (view_of setup new) plan client ordinal route payload number ≡ executed_by setup (view_of setup old) plan client ordinal route payload number
  executed_alike ordinal route payload number =
      λ i. option_map (λ (prepared : Prepared). run_of setup (args_in prepared.params number refused prepared.ordinal (take (ordinal - 1) (messages plan client)) payload)
      (alike.place i).schema route.key prepared.key)
      (prepared_alike number 1 (messages plan client) i)

  number_alike : (ordinal : ℕ) (route : Route) (payload : List ℕ) (at : Option ℕ)
      → option_and_then (executed_by setup (view_of setup new) plan client ordinal route payload) at
      ≡ option_and_then (executed_by setup (view_of setup old) plan client ordinal route payload) at
  number_alike ordinal route payload None = refl
  number_alike ordinal route payload (Some number) = executed_alike ordinal route payload number

  pub asks_alike : (ordinal : ℕ) (route : Route) (payload : List ℕ)
      → requested setup (view_of setup new) plan client ordinal route payload ≡ requested setup (view_of setup old) plan client ordinal route payload
  asks_alike ordinal route payload =
      ap (λ (o : Option Request). if nat_eq (slice_index_or payload 0 0) com_execute then o
      else option_map (λ command. record { command = command; key = route.key }) (text_asked (slice_index_or payload 0 0) (unwrap_or route.text (drop 1 payload))))
      (number_alike ordinal route payload (number_at 4 1 payload))

  pub as_it_was : IsAsItWas setup plan old new client
  as_it_was = record { answered = answered_alike; waits = waits_alike; room = room_alike; up = up_alike; asks = asks_alike }

-- Who takes up nothing goes on so.

module _ (setup : Setup) (plan : Plan) (client : Client) (old new : Tale) (up : is_up setup plan client new ≡ is_up setup plan client old) where
  abbrev taken_in : Framed → Tale → Tale
  taken_in message tale = taken_by setup plan client (suc client.taken) message (plan.routes (name_of client (suc client.taken))) tale

  none_up : (x y : Tale) (b : Bool) → (if b then Some x else None) ≡ None → (if b then Some y else None) ≡ None
  none_up x y true is = absurd (none-some x (sym is))
  none_up x y false is = refl

  idle_message : (message : Option Framed) → next_taken setup plan client message old ≡ None → next_taken setup plan client message new ≡ None
  idle_message None none = refl
  idle_message (Some message) none =
      ap (λ b. if b then Some (taken_in message new) else None) up ∙ none_up (taken_in message old) (taken_in message new) (is_up setup plan client old) none

  pub idle_by : IsIdle setup plan old client → IsIdle setup plan new client
  idle_by none = idle_message (slice_get (messages plan client) client.taken) none

pub idle_alike : (setup : Setup) (plan : Plan) (client : Client) (old new : Tale) → IsAlike setup plan client old new → IsIdle setup plan old client
    → IsIdle setup plan new client
idle_alike setup plan client old new alike = idle_by setup plan client old new (as_it_was setup plan client old new alike).up

-- Others leave it alike, and so does another order.

pub spared_alike : (setup : Setup) (plan : Plan) (whose : ClientNo → Bool) (old new : Tale) → SparesOthers setup whose old new
    → (client : Client) → whose client.number ≡ false → IsAlike setup plan client old new
spared_alike setup plan whose old new spares client other = record {
  own = λ ordinal below. ap (λ m. own_at plan m (name_of client ordinal)) spares.moment;
  replies = λ ordinal. λ i. spares.replies i (name_of client ordinal);
  captures = λ h. λ i. captures_first (spares.held i (record { client = client.number; hostgroup = h; life = spares.life client.number h other i }));
  place = spares.place client.number other;
}

pub like_alike : (setup : Setup) (plan : Plan) (client : Client) (old new : Tale) → IsLike setup old new → IsAlike setup plan client old new
like_alike setup plan client old new like = record {
  own = λ ordinal below. ap (λ m. own_at plan m (name_of client ordinal)) like.moment;
  replies = λ ordinal. λ i. (like.view i).replies (name_of client ordinal);
  captures = λ h. λ i. captures_first ((like.view i).held (present (like.view i) client.number h));
  place = λ i. (like.view i).places client.number;
}
