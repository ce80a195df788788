-- Who rests goes on resting, and takes up nothing; what isn't done stays so.
use Rattle.std.specs.Prelude.{◌≡◌, ◌≤◌, ◌-◌, ◌&&◌, ◌||◌, ℕ, zero, suc, Bool, true, false, not, is_some, List, [], ◌∷◌, ◌++◌, if◌then◌else◌, length, nat_lt}
use Rattle.std.specs.Prelude.{slice_get, take}
use Rattle.std.specs.Prelude.{Option, Some, None}
use Rattle.std.specs.Option.{option_map_or}
use Rattle.std.proofs.Common.{◌∙◌, refl, sym, ap, subst, arith}
use Rattle.std.proofs.lemmas.Bool.Decides.{nat_tests}
use Rattle.std.proofs.lemmas.Option.{none-some}
use Rattle.mx_wire.specs.declared.entry.Entry.{Entry}
use Rattle.packet_frame.specs.Packets.{Framed, next_id}
use Rattle.client_session.specs.Answers.{front}
use Rattle.session_state.specs.Pins.{is_pinned, needs_reset}
use Rattle.session_state.specs.declared.pin.Pin.{Pin}
use Rattle.private_model.specs.Commands.{Reply}
use Rattle.private_model.specs.Names.{ClientNo, Hostgroup, LinkId, MessageName, SessionName}
use Rattle.private_model.specs.Story.{Due, Story, is_name, message_of}
use Rattle.private_model.specs.View.{Carried, Joined, Lent, Link, Nobody, Setup, View, present, view_after}
use Rattle.log_story.specs.Clients.{captures_first, client_goes_on, is_answered, is_event_of, is_up, next_taken, taken_by, taken_up}
use Rattle.log_story.specs.Owed.{answered_with, due_for, has_room, messages, name_of, number_of, talk_of}
use Rattle.log_story.specs.Plan.{Plan, Route, gives_up, is_before, own_at}
use Rattle.log_story.specs.Servers.{is_done, is_done_by, is_given_up, is_quiet}
use Rattle.log_story.specs.Tale.{Client, Tale, Wire, is_reset_step, link_in, view_of, with_client}
use Rattle.log_story.proofs.Frames.{IsResting, Moved, Rests, is_of, no_link_at, nobody}
use Rattle.log_story.proofs.Happens.{same-rests}

-- Links.

-- by what a link is given back
abbrev lent_by : SessionName → (given : Bool) → Pin → (id : Option ℕ) → (life : ℕ) → Bool
lent_by n given pin id life =
    not (needs_reset pin) &&
    (((not (is_pinned pin) && is_some id) && given) || not (is_name n (record { client = n.client; hostgroup = n.hostgroup; life = life })))

abbrev joined_by : SessionName → Pin → (id : Option ℕ) → (life : ℕ) → Bool
joined_by n pin id life =
    not (needs_reset pin) && ((not (is_pinned pin) && is_some id) || not (is_name n (record { client = n.client; hostgroup = n.hostgroup; life = life })))

module _ (touched : LinkId → Bool) (whose : ClientNo → Bool) (old new : View) (rests : Rests touched whose old new) where
  done_by_rests : (plan : Plan) (moment : ℕ) (carried : Carried) → is_of whose carried ≡ false
      → is_done_by plan moment new carried ≡ is_done_by plan moment old carried
  done_by_rests plan moment Nobody other = refl
  done_by_rests plan moment (Lent n) other =
      λ i. lent_by n (is_given_up plan moment n (rests.due n other i)) (rests.pin n other i) (rests.id n other i) (rests.life n.client n.hostgroup other i)
  done_by_rests plan moment (Joined n) other = λ i. joined_by n (rests.pin n other i) (rests.id n other i) (rests.life n.client n.hostgroup other i)

  -- whether a link is given back
  pub done-rests : (plan : Plan) (moment : ℕ) (wire : Wire) (link : LinkId) → touched link ≡ false → is_of whose (old.links link).carries ≡ false
      → is_done plan moment new wire (new.links link) ≡ is_done plan moment old wire (old.links link)
  done-rests plan moment wire link untouched other =
      let known = old.links link in
      ap (is_done plan moment new wire) (rests.link link untouched)
      ∙ ap (λ b. known.usable && (is_quiet known.stage && (not (is_reset_step wire.step) && b))) (done_by_rests plan moment known.carries other)

-- so it is in a tale
pub done-moved : (setup : Setup) (plan : Plan) (touched : LinkId → Bool) (whose : ClientNo → Bool) (old new : Tale) → Moved setup touched whose old new
    → (link : LinkId)
    → touched link ≡ false → is_of whose (link_in setup old link).carries ≡ false
    → is_done plan new.moment (view_of setup new) (new.wires link) (link_in setup new link)
    ≡ is_done plan old.moment (view_of setup old) (old.wires link) (link_in setup old link)
done-moved setup plan touched whose old new moved link untouched other =
    (λ i. is_done plan (moved.moment i) (view_of setup new) (moved.wire link untouched i) (link_in setup new link))
    ∙ done-rests touched whose (view_of setup old) (view_of setup new) moved.view plan old.moment (old.wires link) link untouched other

-- at another moment, at which nothing more is answered for these clients
module _ (plan : Plan) (moment later : ℕ) (whose : ClientNo → Bool)
    (own : (m : MessageName) → whose m.client ≡ false → own_at plan later m ≡ own_at plan moment m) where
  given_up_later : (n : SessionName) (due : Option Due) → whose n.client ≡ false → is_given_up plan later n due ≡ is_given_up plan moment n due
  given_up_later n None other = refl
  given_up_later n (Some due) other = ap (λ answer. is_some answer) (own (message_of n due) other)

  done_by_later : (view : View) (carried : Carried) → is_of whose carried ≡ false → is_done_by plan later view carried ≡ is_done_by plan moment view carried
  done_by_later view Nobody other = refl
  done_by_later view (Lent n) other =
      ap (λ given. lent_by n given (view.held n).pin (view.held n).id (view.lives n.client n.hostgroup)) (given_up_later n (view.dues n) other)
  done_by_later view (Joined n) other = refl

  pub done-later : (view : View) (wire : Wire) (link : Link) → is_of whose link.carries ≡ false
      → is_done plan later view wire link ≡ is_done plan moment view wire link
  done-later view wire link other =
      ap (λ b. link.usable && (is_quiet link.stage && (not (is_reset_step wire.step) && b))) (done_by_later view link.carries other)

-- Clients.

-- what is answered of a client's messages
module _ (plan : Plan) (client : Client) (moment later : ℕ) (old new : MessageName → Option Reply)
    (own : (ordinal : ℕ) → own_at plan later (name_of client ordinal) ≡ own_at plan moment (name_of client ordinal))
    (replies : (ordinal : ℕ) → new (name_of client ordinal) ≡ old (name_of client ordinal)) where
  due_for_alike : (last : List ℕ) (ordinal : ℕ) (all : List Framed)
      → due_for new plan later client last ordinal all ≡ due_for old plan moment client last ordinal all
  due_for_alike last ordinal [] = refl
  due_for_alike last ordinal (message ∷ others) =
      λ i. answered_with (own ordinal i) (replies ordinal i) (number_of plan (name_of client ordinal)) (next_id message.last)
      (due_for_alike last (suc ordinal) others i)

  room_alike : has_room new plan later client ≡ has_room old plan moment client
  room_alike = ap (λ rest. nat_lt (length (front (talk_of plan client) ++ rest) - client.written) plan.room)
      (due_for_alike [] 1 (take client.taken (messages plan client)))

-- two tales of one client: the same of its messages is answered, and captures are due in the same hostgroups
record IsAlike (setup : Setup) (plan : Plan) (client : Client) (old new : Tale) : Type 0 where
  own : (ordinal : ℕ) → own_at plan new.moment (name_of client ordinal) ≡ own_at plan old.moment (name_of client ordinal)
  replies : (ordinal : ℕ) → (view_of setup new).replies (name_of client ordinal) ≡ (view_of setup old).replies (name_of client ordinal)
  captures : (h : Hostgroup)
      → captures_first ((view_of setup new).held (present (view_of setup new) client.number h))
      ≡ captures_first ((view_of setup old).held (present (view_of setup old) client.number h))

module _ (setup : Setup) (plan : Plan) (client : Client) (old new : Tale) (alike : IsAlike setup plan client old new) where
  answered_alike : (ordinal : ℕ) → is_answered plan new (view_of setup new) client ordinal ≡ is_answered plan old (view_of setup old) client ordinal
  answered_alike zero = refl
  answered_alike (suc n) = λ i. is_some (alike.own (suc n) i) || is_some (alike.replies (suc n) i)

  abbrev may : Tale → Bool
  may tale = is_up setup plan client tale

  may_alike : may new ≡ may old
  may_alike = λ i. answered_alike client.taken i && (not (waits_alike (plan.routes (name_of client client.taken)) i)
      && room_alike plan client old.moment new.moment (view_of setup old).replies (view_of setup new).replies alike.own alike.replies i)
    where
      by_route : View → Option Route → Bool
      by_route view route = option_map_or (λ (r : Route). captures_first (view.held (present view client.number r.hostgroup))) route false

      waits_alike : (route : Option Route) → by_route (view_of setup new) route ≡ by_route (view_of setup old) route
      waits_alike None = refl
      waits_alike (Some route) = alike.captures route.hostgroup

  next_alike : (message : Option Framed) → next_taken setup plan client message old ≡ None → next_taken setup plan client message new ≡ None
  next_alike None none = refl
  next_alike (Some message) none = ap (λ b. if b then Some (taken new) else None) may_alike ∙ by (may old) none
    where
      taken : Tale → Tale
      taken tale = taken_by setup plan client (suc client.taken) message (plan.routes (name_of client (suc client.taken))) tale

      by : (b : Bool) → (if b then Some (taken old) else None) ≡ None → (if b then Some (taken new) else None) ≡ None
      by true is = absurd (none-some (taken old) (sym is))
      by false is = refl

-- Who has no message that is whole, or was ended, rests.

module _ (setup : Setup) (plan : Plan) (client : Client) (tale : Tale) where
  pub idle-rests : slice_get (messages plan client) client.taken ≡ None → IsResting setup plan client tale
  idle-rests none isnt = ap (λ message. next_taken setup plan client message tale) none

  pub ended-rests : is_before tale.moment (plan.ends client.number) ≡ true → IsResting setup plan client tale
  ended-rests is isnt = absurd (cc)

-- A tale goes on with others.

module _ (setup : Setup) (plan : Plan) (touched : LinkId → Bool) (whose : ClientNo → Bool) (old new : Tale) (moment : new.moment ≡ old.moment)
    (rests : Rests touched whose (view_of setup old) (view_of setup new)) (client : Client) (other : whose client.number ≡ false) where
  pub captures-rests : (h : Hostgroup)
      → captures_first ((view_of setup new).held (present (view_of setup new) client.number h))
      ≡ captures_first ((view_of setup old).held (present (view_of setup old) client.number h))
  captures-rests h =
      let n = present (view_of setup old) client.number h in
      ap (λ life. captures_first ((view_of setup new).held (record { client = client.number; hostgroup = h; life = life }))) (rests.life client.number h other)
      ∙ (λ i. not (is_pinned (rests.pin n other i)) && not (is_some (rests.id n other i)))

  alike_seen : IsAlike setup plan client old new
  alike_seen = record {
    own = λ ordinal. ap (λ m. own_at plan m (name_of client ordinal)) moment;
    replies = λ ordinal. rests.reply (name_of client ordinal) other;
    captures = captures-rests;
  }

  pub next-seen : (message : Option Framed) → next_taken setup plan client message old ≡ None → next_taken setup plan client message new ≡ None
  next-seen = next_alike setup plan client old new alike_seen

  pub resting-seen : IsResting setup plan client old → IsResting setup plan client new
  resting-seen idles isnt =
      next-seen (slice_get (messages plan client) client.taken) (idles (ap (λ m. is_before m (plan.ends client.number)) (sym moment) ∙ isnt))

module _ (setup : Setup) (plan : Plan) (touched : LinkId → Bool) (whose : ClientNo → Bool) (old new : Tale) (moved : Moved setup touched whose old new)
    (client : Client) (other : whose client.number ≡ false) where
  pub resting-goes-on : IsResting setup plan client old → IsResting setup plan client new
  resting-goes-on = resting-seen setup plan touched whose old new moved.moment moved.view client other

-- by the same story, whatever became of clients, links and wires
pub resting-told : (setup : Setup) (plan : Plan) (client : Client) (old new : Tale) → new.moment ≡ old.moment → new.story ≡ old.story
    → IsResting setup plan client old → IsResting setup plan client new
resting-told setup plan client old new moment story = resting-seen setup plan no_link_at nobody old new moment
    (subst (λ (s : Story). Rests no_link_at nobody (view_of setup old) (view_after setup s)) (sym story) (same-rests no_link_at nobody (view_of setup old)))
    client refl

-- The moment goes on, at which nothing more is answered for the client.

ended_still : (moment later : ℕ) (ends : Option ℕ) → moment ≤ later → is_before later ends ≡ false → is_before moment ends ≡ false
ended_still moment later None past isnt = refl
ended_still moment later (Some n) past isnt = grind (arith, nat_tests, past, isnt)

module _ (setup : Setup) (plan : Plan) (client : Client) (tale : Tale) (later : ℕ)
    (own : (ordinal : ℕ) → own_at plan later (name_of client ordinal) ≡ own_at plan tale.moment (name_of client ordinal)) where
  pub next-later : (message : Option Framed) → next_taken setup plan client message tale ≡ None
      → next_taken setup plan client message (record tale { moment = later }) ≡ None
  next-later = next_alike setup plan client tale (record tale { moment = later }) (record { own = own; replies = λ ordinal. refl; captures = λ h. refl })

  pub resting-later : tale.moment ≤ later → IsResting setup plan client tale → IsResting setup plan client (record tale { moment = later })
  resting-later past rests isnt =
      next-later (slice_get (messages plan client) client.taken) (rests (ended_still tale.moment later (plan.ends client.number) past isnt))

-- Who rests takes up nothing.

module _ (setup : Setup) (plan : Plan) (client : Client) (tale : Tale) where
  none_taken : (most : ℕ) → next_taken setup plan client (slice_get (messages plan client) client.taken) tale ≡ None
      → taken_up most setup plan client tale ≡ tale
  none_taken zero none = refl
  none_taken (suc most) none =
      let next = record client { taken = suc client.taken } in
      ap (λ o. option_map_or (λ other. taken_up most setup plan next (with_client next other)) o tale) none

  pub resting-is-left : (view : View) (e : Entry) → IsResting setup plan client tale → client_goes_on setup plan view e tale client ≡ tale
  resting-is-left view e rests =
      by (is_event_of view client e || gives_up plan tale.moment (name_of client client.taken)) (is_before tale.moment (plan.ends client.number)) refl
    where
      by : (event ended : Bool) → is_before tale.moment (plan.ends client.number) ≡ ended
          → (if event && not ended then taken_up (length (messages plan client)) setup plan client tale else tale) ≡ tale
      by false ended is = refl
      by true true is = refl
      by true false is = none_taken (length (messages plan client)) (rests is)
