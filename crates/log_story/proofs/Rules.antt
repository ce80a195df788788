-- What the tale keeps to: messages wait, and links are given back as the rules of sending let them.
use Rattle.std.specs.Prelude.{◌≡◌, ◌≢◌, ◌⊎◌, ◌≤◌, ℕ, suc, Bool, true, false, not, ◌&&◌, ◌||◌, is_some, if◌then◌else◌, Option, Some, None}
use Rattle.std.proofs.Common.{refl, sym, ap, ◌∙◌, inl, inr}
use Rattle.std.proofs.lemmas.Bool.{and_parts, and_right, le-ltb, not-true, or_cases}
use Rattle.packet_frame.specs.Packets.{Framed}
use Rattle.session_state.specs.Pins.{is_pinned, needs_reset}
use Rattle.session_state.specs.declared.names.SessionName.{SessionName}
use Rattle.private_model.proofs.Maps.{same_name}
use Rattle.private_model.specs.Lawful.{IsSettled, MayFree}
use Rattle.private_model.specs.Story.{is_name}
use Rattle.private_model.specs.View.{Carried, Held, Joined, Lent, Link, Nobody, Quiet, Setup, Stage, View, present}
use Rattle.log_story.specs.Clients.{is_answered, next_taken, taken_by, waits_for_capture}
use Rattle.log_story.specs.Owed.{has_room, name_of, unwritten}
use Rattle.log_story.specs.Plan.{Plan}
use Rattle.log_story.specs.Servers.{is_done, is_done_by, is_given_up, is_left, is_quiet, is_settled}
use Rattle.log_story.specs.Tale.{Client, Tale, Wire, view_of}

-- while there is no room, no message is taken up
pub none_taken : (setup : Setup) (plan : Plan) (client : Client) (message : Option Framed) (tale : Tale)
    → plan.room ≤ unwritten (view_of setup tale).replies plan tale.moment client → next_taken setup plan client message tale ≡ None
none_taken setup plan client None tale full = refl
none_taken setup plan client (Some message) tale full =
    ap (λ b. if b then Some (taken_by setup plan client (suc client.taken) message (plan.routes (name_of client (suc client.taken))) tale) else None)
    (and_right (is_answered plan tale (view_of setup tale) client client.taken) _
    (and_right (not (waits_for_capture (view_of setup tale) plan client)) _
    (le-ltb (unwritten (view_of setup tale).replies plan tale.moment client) plan.room full)))

-- while a capture is due, none is
pub none_before : (setup : Setup) (plan : Plan) (client : Client) (message : Option Framed) (tale : Tale)
    → waits_for_capture (view_of setup tale) plan client ≡ true → next_taken setup plan client message tale ≡ None
none_before setup plan client None tale waits = refl
none_before setup plan client (Some message) tale waits =
    ap (λ b. if b then Some (taken_by setup plan client (suc client.taken) message (plan.routes (name_of client (suc client.taken))) tale) else None)
    (and_right (is_answered plan tale (view_of setup tale) client client.taken) _
    (ap (λ b. not b && has_room (view_of setup tale).replies plan tale.moment client) waits))

isnt : {A : Type 0} → false ≡ true → A
isnt is = absurd (cc)

quiet_so : (stage : Stage) → is_quiet stage ≡ true → stage ≡ Quiet
quiet_so Quiet is = refl
quiet_so _ is = isnt is

settled_so : (held : Held) → is_settled held ≡ true → IsSettled held
settled_so held is = known held.id refl (and_parts _ _ is).1 where
  known : (id : Option ℕ) → held.id ≡ id → is_some id ≡ true → IsSettled held
  known None same some = isnt some
  known (Some n) same some = record { unpinned = not-true (is_pinned held.pin) (and_parts _ _ is).0; known = n; is_known = same }

left_so : (view : View) (n : SessionName) → is_left view n ≡ true → n ≢ present view n.client n.hostgroup
left_so view n is same =
    isnt (sym (not-true (is_name n (present view n.client n.hostgroup)) is) ∙ ap (is_name n) (sym same) ∙ same_name n)

-- what the rules ask of the session that a link carries
record MayLeave (view : View) (carried : Carried) : Type 0 where
  pub who : SessionName
  pub carries : (carried ≡ Joined who) ⊎ (carried ≡ Lent who)
  pub harmless : needs_reset (view.held who).pin ≡ false
  pub settled : IsSettled (view.held who) ⊎ (who ≢ present view who.client who.hostgroup)

how_so : (view : View) (n : SessionName) (settled : Bool) → (settled ≡ true → is_settled (view.held n) ≡ true) → (settled || is_left view n) ≡ true
    → IsSettled (view.held n) ⊎ (n ≢ present view n.client n.hostgroup)
how_so view n settled so is = elim (or_cases settled (is_left view n) is) [
  | inl yes_settled ↦ inl (settled_so (view.held n) (so yes_settled))
  | inr left ↦ inr (left_so view n left)
]

may_leave : (plan : Plan) (moment : ℕ) (view : View) (carried : Carried) → is_done_by plan moment view carried ≡ true → MayLeave view carried
may_leave plan moment view Nobody is = isnt is
may_leave plan moment view (Lent n) is =
    let both = and_parts _ _ is in
    record {
      who = n;
      carries = inr refl;
      harmless = not-true (needs_reset (view.held n).pin) both.0;
      settled = how_so view n (is_settled (view.held n) && is_given_up plan moment n (view.dues n)) (λ it. (and_parts _ _ it).0) both.1;
    }
may_leave plan moment view (Joined n) is =
    let both = and_parts _ _ is in
    record {
      who = n;
      carries = inl refl;
      harmless = not-true (needs_reset (view.held n).pin) both.0;
      settled = how_so view n (is_settled (view.held n)) (λ it. it) both.1;
    }

pub may_free : (plan : Plan) (moment : ℕ) (view : View) (wire : Wire) (link : Link) → is_done plan moment view wire link ≡ true → MayFree view link
may_free plan moment view wire link is =
    let rest = and_parts _ _ (and_parts _ _ is).1 in
    let leaves = may_leave plan moment view link.carries (and_parts _ _ rest.1).1 in
    record {
      who = leaves.who;
      carries = leaves.carries;
      quiet = quiet_so link.stage rest.0;
      harmless = leaves.harmless;
      settled = leaves.settled;
    }
