-- What stays as the loop wakes: links that carry nobody, and who waits then waited before, unless it came up just now.
use Rattle.std.specs.Prelude.{◌≡◌, ◌⊎◌, ◌≤◌, ℕ, suc, Bool, true, false, not, ◌&&◌, ◌||◌, is_some, if◌then◌else◌, List, [], ◌∷◌, Option, Some, None}
use Rattle.std.specs.Option.{option_map_or}
use Rattle.std.proofs.Common.{refl, sym, ap, ◌∙◌, subst, inl, inr, arith}
use Rattle.std.proofs.lemmas.Bool.{and_from, and_parts}
use Rattle.mx_base.specs.declared.names.LinkId.{LinkId}
use Rattle.packet_frame.specs.Packets.{Framed as Packet}
use Rattle.session_state.specs.Pins.{is_pinned, needs_reset}
use Rattle.session_state.specs.declared.pin.Pin.{Pin}
use Rattle.private_model.proofs.Maps.{link_of, name_of, same_name}
use Rattle.private_model.specs.Names.{ClientNo, Hostgroup, MessageName, SessionName}
use Rattle.private_model.specs.Story.{BecameDue, Due, Freed, Happening, Left, Story, is_client, is_link_id, is_name, message_of, put}
use Rattle.private_model.specs.View.{Carried, Held, Joined, Lent, Link, Nobody, Setup, View, due_of, freed, present, session_in, view_after, view_step}
use Rattle.log_story.specs.Executes.{Request}
use Rattle.log_story.specs.Plan.{Plan, Route, own_at}
use Rattle.log_story.specs.Servers.{is_done, is_done_by, is_given_up, is_left, is_quiet, is_settled}
use Rattle.log_story.specs.Tale.{Client, Tale, Wire, is_reset_step, link_in, view_of}
use Rattle.log_story.specs.Telling.{tale_step}
use Rattle.mx_wire.specs.declared.entry.Entry.TheVariants.{Woke}
use Rattle.router_promises.specs.Takings.{Taking, message_in, takings_at}
use Rattle.shared_router.proofs.Followed.{Follows, step_so}
use Rattle.shared_router.proofs.Looked.{Each}
use Rattle.shared_router.proofs.Numbered.{AreNumbered}
use Rattle.shared_router.proofs.Plain.{IsPlain}
use Rattle.shared_router.proofs.Tied.{IsKept, Tied}

isnt : {A : Type 0} → false ≡ true → A
isnt is = absurd (cc)

no_some : {A B : Type 0} (a : A) → None ≡ Some a → B
no_some a is = absurd (cc)

some_of : {A : Type 0} (a b : A) → Some a ≡ Some b → a ≡ b
some_of a b is = cc

up_if : (b : Bool) (x : ℕ) → x ≤ (if b then suc x else x)
up_if true x = omega arith
up_if false x = omega arith

module _ (setup : Setup) (plan : Plan) (tale : Tale) (n : SessionName) (due : Due) (since : MessageName → ℕ) (now_ms : ℕ)
    (unanswered : own_at plan (suc tale.moment) (message_of n due) ≡ None)
    (rests : (l : LinkId) → is_done plan tale.moment (view_of setup tale) (tale.wires l) (link_in setup tale l) ≡ false) (tied : Tied (view_of setup tale)) where
  abbrev was : View
  was = view_of setup tale

  -- a link is as it was, or was given back
  abbrev pub IsSameLink : View → LinkId → Type 0
  IsSameLink view l = (view.links l ≡ was.links l) ⊎ (((view.links l).carries ≡ Nobody) × ((k : SessionName) × (session_in (was.links l).carries ≡ Some k)))

  -- the same is due in the session, which has the same home; or what is due there came up just now
  pub data IsSameDue (view : View) : Type 0 where
    IsSame : view.dues n ≡ was.dues n → (IsKept view.lives n → was.dues n ≡ Some due → (view.held n).home ≡ (was.held n).home) → IsSameDue view
    IsNew : (d : Due) → view.dues n ≡ Some d → since (message_of n d) ≡ now_ms → IsSameDue view

  pub record IsWoken (m : ℕ) (story : Story) (wires : LinkId → Wire) : Type 0 where
    pub at : m ≡ suc tale.moment
    pub grows : (c : ClientNo) (h : Hostgroup) → was.lives c h ≤ (view_after setup story).lives c h
    pub pins : (k : SessionName) → ((view_after setup story).held k).pin ≡ (was.held k).pin
    pub ids : (k : SessionName) → ((view_after setup story).held k).id ≡ (was.held k).id
    pub links : (l : LinkId) → IsSameLink (view_after setup story) l
    pub wires_same : wires ≡ tale.wires
    pub due_same : IsSameDue (view_after setup story)

  -- A link is given back.

  module _ (t : Tale) (link : LinkId) (done : is_done plan t.moment (view_of setup t) (t.wires link) (link_in setup t link) ≡ true) (is : IsWoken t.moment t.story t.wires) where
    abbrev view : View
    view = view_of setup t

    done_carries : is_done_by plan t.moment view (view.links link).carries ≡ true
    done_carries =
        let carries : Bool = is_done_by plan t.moment view (view.links link).carries in
        let steps : Bool = not (is_reset_step (t.wires link).step) in
        (and_parts steps carries
        (and_parts (is_quiet (view.links link).stage) (steps && carries) (and_parts (view.links link).usable (is_quiet (view.links link).stage && (steps && carries)) done).1).1).1

    -- it carried someone
    carried : (c : Carried) → is_done_by plan t.moment view c ≡ true → (k : SessionName) × (session_in c ≡ Some k)
    carried Nobody none = isnt none
    carried (Lent k) so = (k, refl)
    carried (Joined k) so = (k, refl)

    -- so it is as it was
    same_link_there : view.links link ≡ was.links link
    same_link_there = elim (is.links link) [
      | inl same ↦ same
      | inr free ↦ (let who = carried (view.links link).carries done_carries in no_some who.0 (sym (ap session_in free.0) ∙ who.1))
    ]

    -- where the statement is due and goes on, its session isn't the one
    not_its : session_in (view.links link).carries ≡ Some n → IsKept view.lives n → view.dues n ≡ Some due → ⊥
    not_its carries kept here = by_carries (view.links link).carries refl carries done_carries where
      born : n.life ≤ was.lives n.client n.hostgroup
      born = tied.born link n (ap (λ (x : Link). session_in x.carries) (sym same_link_there) ∙ carries)

      life : view.lives n.client n.hostgroup ≡ n.life
      life = (let more = is.grows n.client n.hostgroup in omega (arith, more, born, kept))

      not_left : is_left view n ≡ false
      not_left =
          ap (λ i. not (is_name n (record { client = n.client; hostgroup = n.hostgroup; life = i }))) life ∙ ap (λ b. not b) (same_name n)

      not_given : is_given_up plan t.moment n (view.dues n) ≡ false
      not_given =
          ap (λ o. is_given_up plan t.moment n o) here
          ∙ ap (λ i. is_some (own_at plan i (message_of n due))) is.at ∙ ap (λ o. is_some o) unanswered

      none_of : (a b : Bool) → (a && (b && false)) ≡ true → false ≡ true
      none_of true true so = so
      none_of true false so = so
      none_of false b so = so

      by_carries : (c : Carried) → (view.links link).carries ≡ c → session_in c ≡ Some n → is_done_by plan t.moment view c ≡ true → ⊥
      by_carries Nobody at carries so = isnt so
      by_carries (Lent k) at carries so = lent (some_of k n carries) so where
        lent : k ≡ n → is_done_by plan t.moment view (Lent k) ≡ true → ⊥
        lent same so =
            let parts = and_parts (not (needs_reset (view.held n).pin)) ((is_settled (view.held n) && is_given_up plan t.moment n (view.dues n)) || is_left view n)
            (subst (λ (x : SessionName). is_done_by plan t.moment view (Lent x) ≡ true) same so) in
            isnt (sym (ap (λ b. (is_settled (view.held n) && b) || is_left view n) not_given ∙ ap (λ b. (is_settled (view.held n) && false) || b) not_left ∙ none (is_settled (view.held n))) ∙ parts.1)
          where
            none : (a : Bool) → ((a && false) || false) ≡ false
            none true = refl
            none false = refl
      by_carries (Joined k) at carries so = joined (some_of k n carries) at where
        joined : k ≡ n → (view.links link).carries ≡ Joined k → ⊥
        joined same at = isnt (sym (rests link) ∙ done_before) where
          joined_there : (was.links link).carries ≡ Joined n
          joined_there = ap (λ (x : Link). x.carries) (sym same_link_there) ∙ at ∙ ap Joined same

          now_joined : (view.links link).carries ≡ Joined n
          now_joined = at ∙ ap Joined same

          -- by what it was given back, it was to be before
          by_held : Held → Bool → Bool
          by_held h left = not (needs_reset h.pin) && (is_settled h || left)

          settled_now : by_held (view.held n) (is_left view n) ≡ true
          settled_now = subst (λ (c : Carried). is_done_by plan t.moment view c ≡ true) now_joined done_carries

          settled_then : is_done_by plan tale.moment was (Joined n) ≡ true
          settled_then =
              let parts = and_parts (not (needs_reset (view.held n).pin)) (is_settled (view.held n) || is_left view n) settled_now in
              let settled : is_settled (view.held n) ≡ true = or_settled (is_settled (view.held n)) (is_left view n) not_left parts.1 in
              and_from (not (needs_reset (was.held n).pin)) (is_settled (was.held n) || is_left was n)
              (ap (λ (p : Pin). not (needs_reset p)) (sym (is.pins n)) ∙ parts.0)
              (or_first (is_settled (was.held n)) (is_left was n)
              (ap (λ (p : Pin). not (is_pinned p) && is_some (was.held n).id) (sym (is.pins n)) ∙ ap (λ (i : Option ℕ). not (is_pinned (view.held n).pin) && is_some i) (sym (is.ids n)) ∙ settled))
            where
              or_settled : (a b : Bool) → b ≡ false → (a || b) ≡ true → a ≡ true
              or_settled true b none so = refl
              or_settled false b none so = isnt (sym none ∙ so)

              or_first : (a b : Bool) → a ≡ true → (a || b) ≡ true
              or_first true b so = refl
              or_first false b so = isnt so

          done_before : is_done plan tale.moment was (tale.wires link) (was.links link) ≡ true
          done_before =
              let carries : Bool = is_done_by plan t.moment view (view.links link).carries in
              let steps : Bool = not (is_reset_step (t.wires link).step) in
              let parts = and_parts (view.links link).usable (is_quiet (view.links link).stage && (steps && carries)) done in
              let more = and_parts (is_quiet (view.links link).stage) (steps && carries) parts.1 in
              let last = and_parts steps carries more.1 in
              let carries_then : Bool = is_done_by plan tale.moment was (was.links link).carries in
              let steps_then : Bool = not (is_reset_step (tale.wires link).step) in
              and_from (was.links link).usable (is_quiet (was.links link).stage && (steps_then && carries_then)) (ap (λ (x : Link). x.usable) (sym same_link_there) ∙ parts.0)
              (and_from (is_quiet (was.links link).stage) (steps_then && carries_then) (ap (λ (x : Link). is_quiet x.stage) (sym same_link_there) ∙ more.0)
              (and_from steps_then carries_then (ap (λ (f : LinkId → Wire). not (is_reset_step (f link).step)) (sym is.wires_same) ∙ last.0)
              (subst (λ (c : Carried). is_done_by plan tale.moment was c ≡ true) (sym joined_there) settled_then)))

    put_held : {A : Type 0} (of : Held → A) → ((h : Held) → of (record h { home = None }) ≡ of h) → (o : Option SessionName) (k : SessionName)
        → of (option_map_or (λ s. put is_name view.held s (record (view.held s) { home = None })) o view.held k) ≡ of (view.held k)
    put_held of leaves None k = refl
    put_held of leaves (Some s) k = by_test (is_name k s) refl where
      by_test : (b : Bool) → is_name k s ≡ b → of (if b then record (view.held s) { home = None } else view.held k) ≡ of (view.held k)
      by_test true same = leaves (view.held s) ∙ ap (λ x. of (view.held x)) (sym (name_of k s same))
      by_test false other = refl

    freed_links : (l : LinkId) → IsSameLink (view_step setup view (Freed link)) l
    freed_links l = by_test (is_link_id l link) refl where
      by_test : (b : Bool) → is_link_id l link ≡ b
          → ((if b then freed (view.links link) else view.links l) ≡ was.links l)
          ⊎ (((if b then freed (view.links link) else view.links l).carries ≡ Nobody) × ((k : SessionName) × (session_in (was.links l).carries ≡ Some k)))
      by_test true here =
          let who = carried (view.links link).carries done_carries in
          inr (refl, (who.0, ap (λ (x : LinkId). session_in (was.links x).carries) (link_of l link here) ∙ ap (λ (x : Link). session_in x.carries) (sym same_link_there) ∙ who.1))
      by_test false other = is.links l

    freed_due : IsSameDue view → IsSameDue (view_step setup view (Freed link))
    freed_due (IsNew d here new) = IsNew d here new
    freed_due (IsSame dues home) = IsSame dues (λ kept there. by_session (session_in (view.links link).carries) refl kept there ∙ home kept there) where
      by_session : (o : Option SessionName) → session_in (view.links link).carries ≡ o → IsKept view.lives n → was.dues n ≡ Some due
          → (option_map_or (λ s. put is_name view.held s (record (view.held s) { home = None })) o view.held n).home ≡ (view.held n).home
      by_session None at kept there = refl
      by_session (Some s) at kept there = by_test (is_name n s) refl where
        by_test : (b : Bool) → is_name n s ≡ b → (if b then record (view.held s) { home = None } else view.held n).home ≡ (view.held n).home
        by_test true same = absurd (not_its (at ∙ ap (λ x. Some x) (sym (name_of n s same))) kept (dues ∙ there))
        by_test false other = refl

    freed_woken : IsWoken t.moment (Freed link ∷ t.story) t.wires
    freed_woken = record {
      at = is.at;
      grows = is.grows;
      pins = λ k. put_held (λ (h : Held). h.pin) (λ h. refl) (session_in (view.links link).carries) k ∙ is.pins k;
      ids = λ k. put_held (λ (h : Held). h.id) (λ h. refl) (session_in (view.links link).carries) k ∙ is.ids k;
      links = freed_links;
      wires_same = is.wires_same;
      due_same = freed_due is.due_same;
    }

  left_woken : (m : ℕ) (past : Story) (wires : LinkId → Wire) (x : ClientNo) → IsWoken m past wires → IsWoken m (Left x ∷ past) wires
  left_woken m past wires x is = record {
    at = is.at;
    grows = λ c h. (let more = is.grows c h in let up = up_if (is_client c x) ((view_after setup past).lives c h) in omega (arith, more, up));
    pins = is.pins;
    ids = is.ids;
    links = is.links;
    wires_same = is.wires_same;
    due_same = due_left is.due_same;
  } where
    due_left : IsSameDue (view_after setup past) → IsSameDue (view_after setup (Left x ∷ past))
    due_left (IsNew d here new) = IsNew d here new
    due_left (IsSame dues home) = IsSame dues (λ kept there. home (let up = up_if (is_client n.client x) ((view_after setup past).lives n.client n.hostgroup) in omega (arith, kept, up)) there)

  came_woken : (t : Tale) (client : Client) (text : Packet) (r : Route) (request : Request) → since (message_in (record { client = client; message = text; tale = t })) ≡ now_ms
      → IsWoken t.moment t.story t.wires
      → IsWoken t.moment (BecameDue client.number r.hostgroup (suc client.taken) request.key request.command r.multiplex ∷ t.story) t.wires
  came_woken t client text r request new is = record {
    at = is.at;
    grows = is.grows;
    pins = is.pins;
    ids = is.ids;
    links = is.links;
    wires_same = is.wires_same;
    due_same = by_test (is_name n (present view client.number r.hostgroup)) refl;
  } where
    view : View
    view = view_of setup t

    comes : Happening
    comes = BecameDue client.number r.hostgroup (suc client.taken) request.key request.command r.multiplex

    one : Due
    one = due_of view (present view client.number r.hostgroup) (suc client.taken) request.key request.command r.multiplex

    by_test : (b : Bool) → is_name n (present view client.number r.hostgroup) ≡ b → IsSameDue (view_after setup (comes ∷ t.story))
    by_test true same =
        IsNew one (ap (λ b. if b then Some one else view.dues n) same)
        (ap (λ (c : ClientNo). since (record { client = c; ordinal = suc client.taken })) (ap (λ (k : SessionName). k.client) (name_of n (present view client.number r.hostgroup) same)) ∙ new)
    by_test false other = still is.due_same where
      still : IsSameDue view → IsSameDue (view_after setup (comes ∷ t.story))
      still (IsNew d here fresh) = IsNew d (ap (λ b. if b then Some one else view.dues n) other ∙ here) fresh
      still (IsSame dues home) = IsSame (ap (λ b. if b then Some one else view.dues n) other ∙ dues) home

  abbrev woken : Follows setup plan
  woken = record {
    P = λ m story c t. Unit {0};
    G = λ m story wires count. IsWoken m story wires;
    Q = λ taking. since (message_in taking) ≡ now_ms;
    freed = λ t link c i done is. tt;
    left = λ m past x c t other is. tt;
    ended = λ m past x c t now same is. tt;
    broke = λ m past c t is. tt;
    other = λ m past x c t h r request i apart is. tt;
    unrouted = λ t client text new up none is. tt;
    resets = λ t client text new up none is. tt;
    comes = λ t client text r request new asked up at is. tt;
    breaks = λ t client text new up is. tt;
    all_freed = λ t link count done is. freed_woken t link done is;
    all_left = λ m past wires x count is. left_woken m past wires x is;
    all_broke = λ m past wires count is. record {
      at = is.at;
      grows = is.grows;
      pins = is.pins;
      ids = is.ids;
      links = is.links;
      wires_same = is.wires_same;
      due_same = is.due_same;
    };
    all_come = λ t count client text r request new few so is. came_woken t client text r request new is;
  }

  unit_each : (xs : List Client) → Each (λ (x : Client). Unit {0}) xs
  unit_each [] = tt
  unit_each (x ∷ xs) = (tt, unit_each xs)

  pub woken_step : (until_ms : ℕ) (lone : (m : MessageName) → IsPlain (plan.routes m)) → AreNumbered 1 tale.clients
      → Each (λ (taking : Taking). since (message_in taking) ≡ now_ms) (takings_at setup plan tale (Woke until_ms now_ms))
      → IsWoken (tale_step setup plan tale (Woke until_ms now_ms)).moment (tale_step setup plan tale (Woke until_ms now_ms)).story (tale_step setup plan tale (Woke until_ms now_ms)).wires
  woken_step until_ms lone numbers takings =
      let last : Tale = tale_step setup plan tale (Woke until_ms now_ms) in
      let went = step_so setup plan woken lone tale (Woke until_ms now_ms) numbers (record { each = unit_each tale.clients; all = first }) takings in
      subst (λ m. IsWoken m last.story last.wires) (sym went.0) went.1.all
    where
      first : IsWoken (suc tale.moment) tale.story tale.wires
      first = record {
        at = refl;
        grows = λ c h. omega arith;
        pins = λ k. refl;
        ids = λ k. refl;
        links = λ l. inl refl;
        wires_same = refl;
        due_same = IsSame refl (λ kept there. refl);
      }
