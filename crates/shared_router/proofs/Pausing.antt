-- Where the loop waits, no session that was left is to be ended on a link on which a question may begin, and no insert id is to be asked for.
use Rattle.std.specs.Prelude.{◌≡◌, ℕ, Bool, true, false, not, ◌&&◌, ◌||◌, find, is_none, is_some, if◌then◌else◌, List, Option, Some, None}
use Rattle.std.specs.Option.{option_and_then, option_map, option_map_or}
use Rattle.std.proofs.Common.{refl, sym, ap, ◌∙◌}
use Rattle.std.proofs.lemmas.Bool.{and_from, and_parts}
use Rattle.std.proofs.lemmas.Slice.Eq.{bytes_eq-Decides}
use Rattle.mx_base.specs.declared.names.LinkId.{LinkId}
use Rattle.mx_wire.specs.Log.{is_open}
use Rattle.packet_frame.specs.Packets.{spelling}
use Rattle.private_model.proofs.Maps.{same_name}
use Rattle.reply_track.specs.declared.reply.ReplyKind.TheVariants as kind
use Rattle.server_rule.specs.Servers.{is_some_of}
use Rattle.ready_loop.specs.Drained.{write_dry}
use Rattle.session_state.specs.Pins.{is_pinned, needs_reset}
use Rattle.private_model.specs.Names.{SessionName}
use Rattle.private_model.specs.Story.{Capture, End, Question, is_link_id, is_name}
use Rattle.private_model.specs.View.{Answered, Asked, Carried, Joined, Lent, Link, Nobody, Quiet, Setup, Stage, View, present}
use Rattle.log_story.specs.Honest.{IsStep}
use Rattle.log_story.specs.Plan.{Asks, Closes, Resets, StepText, step_payload}
use Rattle.log_story.specs.Servers.{is_quiet, may_begin, read_as, written_in}
use Rattle.log_story.specs.Tale.{Client, Wire, is_reset_step, is_to_server}
use Rattle.tale_world.specs.Policy.{for_session, next_question}
use Rattle.tale_world.specs.Tests.{fits, is_joined, may_begin_question}
use Rattle.tale_world.specs.Wishes.{Wish, wish_for}
use Rattle.router_promises.specs.Closes.{has_bad_bytes, has_bytes, is_bad, is_bad_at, is_past_reset, is_past_reset_by, is_spoilt, was_amiss}
use Rattle.router_promises.specs.Now.{Now, link_now, was_lost, wire_now}
use Rattle.router_promises.specs.Rest.{owes_capture, owes_reset}
use Rattle.router_promises.specs.Running.{is_failed, opening_on}
use Rattle.router_promises.specs.Terms.{Terms, setup_in}
use Rattle.shared_router.specs.Known.{Known, link_by, setup_by, view_by}
use Rattle.shared_router.specs.Lends.{readied_now}
use Rattle.shared_router.specs.Ours.{MayWait}
use Rattle.shared_router.specs.Owed.{Owed, close_by, farewell, is_let_go, is_refused, is_to_close, is_whole_step, nothing_owed, owed_next, owed_on, owed_on_client, owed_on_server, owed_there}
use Rattle.shared_router.specs.Waited.{OwesNoStep}
use Rattle.shared_router.specs.Wishes.{asked_on, if_may, is_present, kept_due, may_go, standing_on, texts, wish_on}
use Rattle.shared_router.proofs.Calming.{left_false, nothing_closes, right_false, stays_open, then_false}

isnt : {A : Type 0} → true ≡ false → A
isnt is = absurd (cc)

whole_is : (step : Option StepText) (written : List ℕ) → IsStep step written → is_whole_step step written ≡ true
whole_is None written is = refl
whole_is (Some (Asks command)) written is = refl
whole_is (Some (Closes number)) written is = (bytes_eq-Decides written (spelling 0 (step_payload (Closes number)))).1 is
whole_is (Some (Resets number)) written is = (bytes_eq-Decides written (spelling 0 (step_payload (Resets number)))).1 is

-- A question may begin on a link: what stood there is whole, it wasn't told QUIT, and the story has it as one of use.
pub record MayAsk (terms : Terms) (now : Now) (link : LinkId) : Type 0 where
  pub begins : may_begin (setup_in terms) link (wire_now now link) now.tale ≡ true
  pub whole : IsStep (wire_now now link).step (wire_now now link).written
  pub stays : (wire_now now link).quits ≡ false
  pub usable : (link_now (setup_in terms) now link).usable ≡ true

-- nothing unread lies where nothing stands and no bytes are bad
unread_none : (wire : Wire) (stage : Stage) (resets other : Bool) → is_quiet stage ≡ true → not resets ≡ true → (if resets then other else is_bad_at wire stage) ≡ false
    → has_bytes wire.unread ≡ false
unread_none wire Quiet false other quiet plain is = is
unread_none wire Quiet true other quiet plain is = isnt (sym plain)
unread_none wire (Asked question) resets other quiet plain is = isnt (sym quiet)
unread_none wire (Answered question) resets other quiet plain is = isnt (sym quiet)

unknown : (id : Option ℕ) → is_none id ≡ true → not (is_some id) ≡ true
unknown None is = refl
unknown (Some id) is = isnt (sym is)

module _ (k : Known) (link : LinkId) where
  abbrev there : Link
  there = link_by k link

  abbrev view : View
  view = kept_due k

  abbrev setup : Setup
  setup = setup_by k

  module _ (calm : close_by k ≡ None) (to_server : is_to_server k.now.tale link ≡ true) (may : MayAsk k.terms k.now link)
      (sound : is_spoilt k.terms k.log k.now link ≡ false) where
    abbrev begins_now : Bool
    begins_now = may_begin setup link (wire_now k.now link) k.now.tale

    entered : (wire_now k.now link).entered ≡ true
    entered = (and_parts (wire_now k.now link).entered _ may.begins).0

    quiet : is_quiet there.stage ≡ true
    quiet = (and_parts (is_quiet there.stage) _ (and_parts (wire_now k.now link).entered _ may.begins).1).0

    -- what is owed there is what is wished
    pub owed_is : owed_on k link ≡ owed_next k link (wish_on k link)
    owed_is =
        ap by_server to_server
        ∙ ap (λ o. if option_map_or (is_link_id link) o false then farewell k link else owed_there k link (wire_now k.now link).entered begins_now) calm
        ∙ ap (λ b. owed_there k link b begins_now) entered
        ∙ ap (λ b. owed_there k link true b) may.begins
        ∙ ap (λ b. if b then owed_next k link (wish_on k link) else nothing_owed) (whole_is (wire_now k.now link).step (wire_now k.now link).written may.whole)
      where
        by_server : Bool → Owed
        by_server b = if b then owed_on_server k link else owed_on_client k (find (λ (client : Client). is_link_id client.link link) k.now.tale.clients)

    abbrev with_carries : Carried → Link
    with_carries c = record there { carries = c }

    abbrev asks_of : SessionName → Option Question
    asks_of n = for_session texts k.fixed.ids setup view (with_carries (Joined n)) n

    read : has_bytes (wire_now k.now link).unread ≡ false
    read =
        let wire : Wire = wire_now k.now link in
        let rest = (and_parts (is_quiet there.stage) _ (and_parts wire.entered _ may.begins).1).1 in
        let bad : Bool = has_bad_bytes setup k.now link in
        let none : bad ≡ false = left_false bad _ (right_false (not wire.entered && is_failed (opening_on k.terms k.now.tale link)) _ (right_false (was_lost k.log link) _ sound)) in
        unread_none wire there.stage (is_reset_step wire.step) (is_bad (read_as kind.Command wire)) quiet (and_parts (not (is_some_of (written_in wire.written).rest)) _ rest).1
        (then_false wire.entered _ none entered)

    -- what is wished is what its session asks

    abbrev as_wish : Option Question → Option Wish
    as_wish = option_map (wish_for there (standing_on k link))

    wish_is : (n : SessionName) (q : Question) → there.carries ≡ Joined n → asks_of n ≡ Some q → may_go k link q ≡ true
        → wish_on k link ≡ Some (wish_for there (standing_on k link) q)
    wish_is n q carried asks goes =
        ap (λ b. if b || has_bytes (wire_now k.now link).unread then None else as_wish (asked_on k link)) may.stays
        ∙ ap (λ b. if b then None else as_wish (asked_on k link)) read
        ∙ ap (λ c. as_wish (option_and_then (if_may k link) (next_question texts k.fixed.ids setup view (with_carries c) (readied_now k link)))) carried
        ∙ ap (λ b. as_wish (option_and_then (if_may k link) (if not b then None else asks_of n))) (and_from (is_quiet there.stage) there.usable quiet may.usable)
        ∙ ap (λ o. as_wish (option_and_then (if_may k link) o)) asks
        ∙ ap (λ b. as_wish (if b then Some q else None)) goes

    go_on : (q : Question) → fits setup (view_by k) there q ≡ true → is_present k q ≡ true → may_go k link q ≡ true
    go_on q fit present =
        and_from (may_begin_question setup (view_by k) there q) (is_present k q)
        (and_from there.usable _ may.usable (and_from (is_quiet there.stage) (fits setup (view_by k) there q) quiet fit)) present

    -- so where it asks for one, bytes are owed
    owes_end : (n : SessionName) → there.carries ≡ Joined n → asks_of n ≡ Some (End n) → fits setup (view_by k) there (End n) ≡ true → has_bytes (owed_on k link).bytes ≡ true
    unfolding spelling
    owes_end n carried asks fit = ap (λ o. has_bytes o.bytes) (owed_is ∙ ap (owed_next k link) (wish_is n (End n) carried asks (go_on (End n) fit refl)))

    owes_id : (n : SessionName) → there.carries ≡ Joined n → asks_of n ≡ Some (Capture n) → fits setup (view_by k) there (Capture n) ≡ true → has_bytes (owed_on k link).bytes ≡ true
    unfolding spelling
    owes_id n carried asks fit = ap (λ o. has_bytes o.bytes) (owed_is ∙ ap (owed_next k link) (wish_is n (Capture n) carried asks (go_on (Capture n) fit refl)))

  abbrev is_there : SessionName → Bool
  is_there n = is_name n (present view n.client n.hostgroup)

  abbrev asks_by : SessionName → (now pinned known resets lasts : Bool) → (other : Option Question) → Option Question
  asks_by n now pinned known resets lasts other =
      if now then if pinned then other else if known then None else Some (Capture n)
      else if resets && not lasts then Some (End n) else None

  ends_so : (n : SessionName) (now pinned known resets lasts : Bool) (other : Option Question) → (not now && resets) ≡ true → lasts ≡ false
      → asks_by n now pinned known resets lasts other ≡ Some (End n)
  ends_so n false pinned known true false other is none = refl
  ends_so n false pinned known true true other is none = isnt none
  ends_so n false pinned known false lasts other is none = isnt (sym is)
  ends_so n true pinned known resets lasts other is none = isnt (sym is)

  captures_so : (n : SessionName) (now pinned : Bool) (id : Option ℕ) (resets lasts : Bool) (other : Option Question) → (now && (not pinned && is_none id)) ≡ true
      → asks_by n now pinned (is_some id) resets lasts other ≡ Some (Capture n)
  captures_so n true false None resets lasts other is = refl
  captures_so n true false (Some id) resets lasts other is = isnt (sym is)
  captures_so n true true id resets lasts other is = isnt (sym is)
  captures_so n false pinned id resets lasts other is = isnt (sym is)

  -- one that no reset cleans would be closed
  not_lasting : is_past_reset setup k.now link ≡ false → (n : SessionName) → there.carries ≡ Joined n → not (is_there n) ≡ true → view.lasting n ≡ false
  not_lasting past n carried left = then_false (not (is_there n)) (view.lasting n) (ap (is_past_reset_by setup k.now link) (sym carried) ∙ past) left

  pub kept_sound : is_to_close k link ≡ false → is_open link k.log ≡ true → is_spoilt k.terms k.log k.now link ≡ false
  kept_sound stays opened =
      let spoilt : Bool = is_spoilt k.terms k.log k.now link in
      let rest : Bool = was_amiss setup link k.now.tale.story || (is_refused k link || (is_past_reset setup k.now link || is_let_go k link)) in
      left_false spoilt rest (right_false (wire_now k.now link).quits (spoilt || rest)
      (then_false (is_open link k.log) ((wire_now k.now link).quits || (spoilt || rest)) stays opened))

  kept_clean : is_to_close k link ≡ false → is_open link k.log ≡ true → is_past_reset setup k.now link ≡ false
  kept_clean stays opened =
      let spoilt : Bool = is_spoilt k.terms k.log k.now link in
      let amiss : Bool = was_amiss setup link k.now.tale.story in
      let past : Bool = is_past_reset setup k.now link in
      let rest : Bool = past || is_let_go k link in
      left_false past (is_let_go k link)
      (right_false (is_refused k link) rest
      (right_false amiss (is_refused k link || rest)
      (right_false spoilt (amiss || (is_refused k link || rest))
      (right_false (wire_now k.now link).quits (spoilt || (amiss || (is_refused k link || rest)))
      (then_false (is_open link k.log) ((wire_now k.now link).quits || (spoilt || (amiss || (is_refused k link || rest)))) stays opened)))))

  module _ (may : MayWait k) (to_server : is_to_server k.now.tale link ≡ true) (opened : is_open link k.log ≡ true) (goes : write_dry link k.log ≡ false)
      (ask : MayAsk k.terms k.now link) where
    calm_now : close_by k ≡ None
    calm_now = nothing_closes k may.acted

    never : {A : Type 0} → has_bytes (owed_on k link).bytes ≡ true → A
    never has = isnt (sym (may.written link opened has) ∙ goes)

    sound : is_spoilt k.terms k.log k.now link ≡ false
    sound = kept_sound (stays_open k may.acted link to_server) opened

    past : is_past_reset setup k.now link ≡ false
    past = kept_clean (stays_open k may.acted link to_server) opened

    end_asked : (n : SessionName) → there.carries ≡ Joined n → (not (is_there n) && needs_reset (view.held n).pin) ≡ true
        → asks_of calm_now to_server ask sound n ≡ Some (End n)
    end_asked n carried is =
        ends_so n (is_there n) (is_pinned (view.held n).pin) (is_some (view.held n).id) (needs_reset (view.held n).pin) (view.lasting n) _ is
        (not_lasting past n carried (and_parts (not (is_there n)) (needs_reset (view.held n).pin) is).0)

    id_asked : (n : SessionName) → (is_there n && (not (is_pinned (view.held n).pin) && is_none (view.held n).id)) ≡ true
        → asks_of calm_now to_server ask sound n ≡ Some (Capture n)
    id_asked n is = captures_so n (is_there n) (is_pinned (view.held n).pin) (view.held n).id (needs_reset (view.held n).pin) (view.lasting n) _ is

    joined : (n : SessionName) → there.carries ≡ Joined n → is_joined n there.carries ≡ true
    joined n is = ap (is_joined n) is ∙ same_name n

    end_fits : (n : SessionName) → there.carries ≡ Joined n → (not (is_there n) && needs_reset (view.held n).pin) ≡ true → fits setup (view_by k) there (End n) ≡ true
    end_fits n is owes =
        let parts = and_parts (not (is_there n)) (needs_reset (view.held n).pin) owes in
        and_from (is_joined n there.carries) _ (joined n is) (and_from (not (is_there n)) _ parts.0
        (and_from (needs_reset (view.held n).pin) _ parts.1 (ap not (not_lasting past n is parts.0))))

    id_fits : (n : SessionName) → there.carries ≡ Joined n → (is_there n && (not (is_pinned (view.held n).pin) && is_none (view.held n).id)) ≡ true
        → fits setup (view_by k) there (Capture n) ≡ true
    id_fits n is owes =
        let parts = and_parts (not (is_pinned (view.held n).pin)) (is_none (view.held n).id) (and_parts (is_there n) _ owes).1 in
        and_from (is_joined n there.carries) _ (joined n is) (and_from (not (is_pinned (view.held n).pin)) _ parts.0 (unknown (view.held n).id parts.1))

    false_if : (b : Bool) → (b ≡ true → true ≡ false) → b ≡ false
    false_if true so = isnt (so refl)
    false_if false so = refl

    no_end : (c : Carried) → there.carries ≡ c → owes_reset setup k.now c ≡ false
    no_end Nobody is = refl
    no_end (Lent n) is = refl
    no_end (Joined n) is = false_if (not (is_there n) && needs_reset (view.held n).pin)
        (λ owes. never (owes_end calm_now to_server ask sound n is (end_asked n is owes) (end_fits n is owes)))

    no_capture : (c : Carried) → there.carries ≡ c → owes_capture setup k.now c ≡ false
    no_capture Nobody is = refl
    no_capture (Lent n) is = refl
    no_capture (Joined n) is = false_if (is_there n && (not (is_pinned (view.held n).pin) && is_none (view.held n).id))
        (λ owes. never (owes_id calm_now to_server ask sound n is (id_asked n owes) (id_fits n is owes)))

    pub owes_none : OwesNoStep k.terms k.now link
    owes_none = record { reset = no_end there.carries refl; capture = no_capture there.carries refl }
