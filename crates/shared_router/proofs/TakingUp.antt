-- A message is taken up, of which nothing was decided before.
use Rattle.std.specs.Prelude.{◌≡◌, ◌⊎◌, ◌+◌, ◌≤◌, ◌<◌, ℕ, suc, Bool, true, false, ◌||◌, is_some, nat_eq, if◌then◌else◌, length, map, slice_get}
use Rattle.std.specs.Prelude.{slice_index_or, unwrap_or, List, Option, Some, None}
use Rattle.std.proofs.Common.{refl, sym, ap, ◌∙◌, subst, arith, inl, inr}
use Rattle.std.proofs.lemmas.Bool.{and_parts}
use Rattle.std.proofs.lemmas.List.{length-map}
use Rattle.client_session.specs.Setups.{Setup as Service}
use Rattle.packet_frame.specs.Packets.{Framed}
use Rattle.private_model.proofs.Maps.{message_is, same_message}
use Rattle.private_model.specs.Names.{Hostgroup, LinkId, MessageName, SessionName}
use Rattle.private_model.specs.Story.{BecameDue, Left, is_client, is_message}
use Rattle.private_model.specs.View.{Setup}
use Rattle.log_story.specs.Clients as clients
use Rattle.log_story.specs.Clients.{copied, due_by, next_taken, taken_by}
use Rattle.log_story.specs.Executes.{Request, requested}
use Rattle.log_story.specs.Owed.{messages, name_of}
use Rattle.log_story.specs.Plan.{OwnAnswer, Route, com_reset}
use Rattle.log_story.specs.Tale.{Client, Tale, tell, view_of}
use Rattle.tale_world.specs.Decided.{Decided, plan_of}
use Rattle.tale_world.specs.Deciding.{Deciding, World}
use Rattle.tale_world.specs.World.{decided_looked, decided_next, has_reply}
use Rattle.tale_world.specs.World.{is_looked_up, is_taken_of, is_up, next_message, next_of, taken_once, with_route, with_taken}
use Rattle.tale_world.proofs.Agreeing.{agrees-itself, agrees-less, filled-there, more-refl}
use Rattle.tale_world.proofs.Following.{looked_same, next-more, since-looked}
use Rattle.tale_world.proofs.Looking.{same_requested, same_up}
use Rattle.shared_router.specs.Fixed.{Fixed, setup_of}
use Rattle.shared_router.specs.Judged.{IsFresh}
use Rattle.shared_router.specs.More.{More}
use Rattle.shared_router.specs.Shared.{shared}
use Rattle.shared_router.proofs.Decidedly.{GoesTo, are_more, became_due, was_decided}
use Rattle.shared_router.proofs.Lone.{route_lone}
use Rattle.shared_router.proofs.Numbered.{IsOld, IsReady, lower_old, next_new, number_within, numbered_taken, old_taken}
use Rattle.shared_router.proofs.Numbered.{ready_apart, ready_next, replaced, taken_old}
use Rattle.shared_router.proofs.Parting.{next}
use Rattle.shared_router.proofs.Walks.{if_either}
use Rattle.shared_router.proofs.Asking.{route_asks}
use Rattle.shared_router.proofs.Judging.{same_later}
use Rattle.shared_router.proofs.Fitly.{comes_fit, requested_statement}
use Rattle.shared_router.proofs.Lonely.{IsDueIn, StandsOn, comes_lone}
use Rattle.shared_router.proofs.Holding.{IsHeld, IsJob, IsTabled, filled_by, isnt, more_held, no_some, some_of}

module _ (fixed : Fixed) where
  abbrev setup : Setup
  setup = setup_of fixed

  abbrev by : Deciding More
  by = shared fixed

  abbrev Held : ℕ → World More → Type 0
  Held n w = IsHeld setup n w.decided w.tale.clients w.tale.story

  -- A message is taken up.

  pub up_same : (w : World More) (client : Client)
      → clients.is_up setup (plan_of (decided_looked setup by w client)) client w.tale ≡ clients.is_up setup (plan_of (decided_next setup by w client)) client w.tale
  up_same w client =
      let m = w.tale.moment in
      let first : Decided = decided_looked setup by w client in
      let last : Decided = decided_next setup by w client in
      same_up client (view_of setup w.tale) m (plan_of first) (plan_of last)
      (looked_same setup by w client first (plan_of last) (more-refl first) (agrees-less first last m (plan_of last) (since-looked setup by w client) (agrees-itself last m)))
      setup w.tale refl refl

  module _ (n : ℕ) (w : World More) (client : Client) (held : Held n w) (ready : IsReady client w.tale.clients) where
    abbrev pub looked : Decided
    looked = decided_looked setup by w client

    abbrev pub d : Decided
    d = decided_next setup by w client

    abbrev pub name : MessageName
    name = name_of client (suc client.taken)

    abbrev pub up : Bool
    up = is_up setup looked w.tale client

    abbrev pub found : Option Framed
    found = next_message looked client

    abbrev pub next_clients : List Client
    next_clients = map (replaced (next_of client)) w.tale.clients

    pub was_taken : (m : MessageName) → is_taken_of client m ≡ true → IsOld w.tale.clients m
    was_taken m is = let parts = and_parts (is_client m.client client.number) _ is in lower_old client m w.tale.clients parts.0 parts.1 ready.there

    pub decided_old : (m : MessageName) (o : Option (Option Route)) → w.decided.routes m ≡ o → is_some o ≡ true → IsOld w.tale.clients m
    decided_old m None at is = isnt is
    decided_old m (Some x) at is = held.tabled.routes m x at

    pub looked_up_old : (m : MessageName) (reply taken : Bool) → has_reply (view_of setup w.tale) m ≡ reply → is_taken_of client m ≡ taken → (reply || taken) ≡ true → IsOld w.tale.clients m
    looked_up_old m true taken replied was is = decided_old m (w.decided.routes m) refl (was_decided w.decided m (held.decided.answered m replied))
    looked_up_old m false true replied was is = was_taken m was
    looked_up_old m false false replied was is = isnt is

    pub looked_routes : (m : MessageName) (x : Option Route) → looked.routes m ≡ Some x → IsOld w.tale.clients m
    looked_routes m x is = elim (filled_by (is_looked_up (view_of setup w.tale) client) (by.routed w) w.decided.routes m x is) [
      | inl was ↦ held.tabled.routes m x was
      | inr now ↦ looked_up_old m (has_reply (view_of setup w.tale) m) (is_taken_of client m) refl refl now.0
    ]

    pub looked_own : (m : MessageName) (x : Option OwnAnswer) → looked.own m ≡ Some x → IsOld w.tale.clients m ⊎ IsJob m
    looked_own m x is = elim (filled_by (is_taken_of client) (by.given w) w.decided.own m x is) [
      | inl was ↦ held.tabled.own m x was
      | inr now ↦ inl (was_taken m now.0)
    ]

    pub looked_gone : (m : MessageName) (r : Route) → looked.routes m ≡ Some (Some r) → w.decided.routes m ≡ Some (Some r)
    looked_gone m r is = elim (filled_by (is_looked_up (view_of setup w.tale) client) (by.routed w) w.decided.routes m (Some r) is) [
      | inl was ↦ was
      | inr now ↦ no_some r now.1
    ]

    -- it is fresh

    pub none_of : {A : Type 0} (o : Option A) → ((x : A) → o ≡ Some x → ⊥) → o ≡ None
    none_of None never = refl
    none_of (Some x) never = absurd (never x refl)

    pub fresh : (message : Framed) → n < 18446744073709551616 → up ≡ true → found ≡ Some message → IsFresh fixed w client message
    fresh message small is_up next = record {
      up = is_up;
      next = next;
      route = none_of (looked.routes name) (λ x is. next_new client w.tale.clients ready.latest (looked_routes name x is));
      own = none_of (looked.own name) (λ x is. elim (looked_own name x is) [
        | inl old ↦ next_new client w.tale.clients ready.latest old
        | inr job ↦ absurd (let within : client.number.0 < 1 + length w.tale.clients = number_within 1 client w.tale.clients held.numbered ready.there in omega (arith, job, within, held.few, small))
      ]);
    }

    -- what is decided then

    pub behind_routes : (b : Bool) (o : Option Framed) (m : MessageName) (x : Option Route) → (if b then with_route by w client looked o else looked).routes m ≡ Some x
        → (looked.routes m ≡ Some x) ⊎ ((message : Framed) × (b ≡ true) × (o ≡ Some message) × (is_message m name ≡ true) × (by.route w client (suc client.taken) message ≡ x))
    behind_routes false o m x is = inl is
    behind_routes true None m x is = inl is
    behind_routes true (Some message) m x is = elim (filled_by (λ k. is_message k name) (λ k. by.route w client (suc client.taken) message) looked.routes m x is) [
      | inl was ↦ inl was
      | inr now ↦ inr (message, refl, refl, now.0, now.1)
    ]

    pub behind_own : (b : Bool) (o : Option Framed) (m : MessageName) (x : Option OwnAnswer) → (if b then with_route by w client looked o else looked).own m ≡ Some x
        → (looked.own m ≡ Some x) ⊎ ((message : Framed) × (b ≡ true) × (o ≡ Some message) × (is_message m name ≡ true))
    behind_own false o m x is = inl is
    behind_own true None m x is = inl is
    behind_own true (Some message) m x is = elim (filled_by (λ k. is_message k name) (λ k. by.answer w client (suc client.taken) message) looked.own m x is) [
      | inl was ↦ inl was
      | inr now ↦ inr (message, refl, refl, now.0)
    ]

    -- where the next message is taken up, or none is
    pub tabled_then : (clients : List Client) → ((m : MessageName) → IsOld w.tale.clients m → IsOld clients m)
        → ((message : Framed) → up ≡ true → found ≡ Some message → IsOld clients name) → IsTabled d clients
    tabled_then clients keeps comes = record {
      routes = λ m x is. elim (behind_routes up found m x is) [
        | inl was ↦ keeps m (looked_routes m x was)
        | inr now ↦ subst (IsOld clients) (sym (message_is m name now.3)) (comes now.0 now.1 now.2)
      ];
      own = λ m x is. elim (behind_own up found m x is) [
        | inl was ↦ elim (looked_own m x was) [
          | inl old ↦ inl (keeps m old)
          | inr job ↦ inr job
        ]
        | inr now ↦ inl (subst (IsOld clients) (sym (message_is m name now.3)) (comes now.0 now.1 now.2))
      ];
      lone = λ m r is. elim (behind_routes up found m (Some r) is) [
        | inl was ↦ held.tabled.lone m r (looked_gone m r was)
        | inr now ↦ route_lone fixed w client now.0 r now.4
      ];
      counted = λ m r is. elim (behind_routes up found m (Some r) is) [
        | inl was ↦ held.tabled.counted m r (looked_gone m r was)
        | inr now ↦ subst (λ (k : MessageName). 1 ≤ k.ordinal) (sym (message_is m name now.3)) (omega arith)
      ];
    }

    abbrev pub taken_then : Framed → Option Route → Tale
    taken_then message route = taken_by setup (plan_of d) client (suc client.taken) message route w.tale

    pub record IsUp (o : Option Framed) (tale : Tale) : Type 0 where
      pub message : Framed
      pub there : o ≡ Some message
      pub up : clients.is_up setup (plan_of d) client w.tale ≡ true
      pub same : taken_then message ((plan_of d).routes name) ≡ tale

    pub up_of : (o : Option Framed) (tale : Tale) → next_taken setup (plan_of d) client o w.tale ≡ Some tale → IsUp o tale
    up_of None tale is = no_some tale is
    up_of (Some message) tale is = by_test (clients.is_up setup (plan_of d) client w.tale) refl is where
      by_test : (b : Bool) → clients.is_up setup (plan_of d) client w.tale ≡ b → (if b then Some (taken_then message ((plan_of d).routes name)) else None) ≡ Some tale → IsUp (Some message) tale
      by_test true at is = record { message = message; there = refl; up = at; same = some_of _ tale is }
      by_test false at is = no_some tale is

    abbrev pub found_by : Service → Option Framed
    found_by service = slice_get (messages (record (plan_of d) { service = service }) client) client.taken

    pub is_up_then : (tale : Tale) → taken_once setup by w client ≡ Some tale → IsUp (found_by d.service) tale
    is_up_then tale is = up_of (found_by d.service) tale is

    pub found_then : (tale : Tale) (is : taken_once setup by w client ≡ Some tale) → found ≡ Some (is_up_then tale is).message
    found_then tale is = ap found_by (sym (since-looked setup by w client).service) ∙ (is_up_then tale is).there

    pub up_then : (tale : Tale) → taken_once setup by w client ≡ Some tale → up ≡ true
    up_then tale is = up_same w client ∙ (is_up_then tale is).up

    -- so nothing is known of it

    unrouted : w.decided.routes name ≡ None
    unrouted = none_of (w.decided.routes name) (λ x is. next_new client w.tale.clients ready.latest (held.tabled.routes name x is))

    undecided : is_some (w.decided.routes name) ≡ false
    undecided = ap (λ x. is_some x) unrouted

    none_due : (k : SessionName) → IsDueIn (view_of setup w.tale).dues k name → ⊥
    none_due k is = let goes = held.decided.due k is.0 is.1.0 in no_some (Some goes.route) (sym unrouted ∙ ap w.decided.routes (sym is.1.1) ∙ goes.routed)

    none_there : (l : LinkId) → StandsOn (view_of setup w.tale).links l name → ⊥
    none_there l on = isnt (sym undecided ∙ was_decided w.decided name (held.decided.stands l name on))

    none_replied : (view_of setup w.tale).replies name ≡ None
    none_replied = none_of ((view_of setup w.tale).replies name) (λ reply is. isnt (sym undecided ∙ was_decided w.decided name (held.decided.answered name (ap (λ x. is_some x) is))))

    none_carried : (view_of setup w.tale).carriers name ≡ None
    none_carried = none_of ((view_of setup w.tale).carriers name) (λ link is. isnt (sym undecided ∙ was_decided w.decided name (held.decided.carried name (ap (λ x. is_some x) is))))

    -- where it is up, it is taken up
    pub taken_some : (message : Framed) → up ≡ true → found ≡ Some message → taken_once setup by w client ≡ Some (taken_then message ((plan_of d).routes name))
    taken_some message is_up next =
        ap (λ o. next_taken setup (plan_of d) client o w.tale) (ap found_by (since-looked setup by w client).service ∙ next)
        ∙ ap (λ b. if b then Some (taken_then message ((plan_of d).routes name)) else None) (sym (up_same w client) ∙ is_up)

    pub taken_clients : (message : Framed) (route : Option Route) → (taken_then message route).clients ≡ w.tale.clients
    taken_clients message None =
        if_either (λ (t : Tale). t.clients ≡ w.tale.clients) (nat_eq (slice_index_or message.payload 0 0) com_reset) (tell (Left client.number) w.tale) w.tale refl refl
    taken_clients message (Some route) = due_clients (requested setup (view_of setup w.tale) (plan_of d) client (suc client.taken) route message.payload) where
      due_clients : (request : Option Request) → (due_by client (suc client.taken) route request w.tale).clients ≡ w.tale.clients
      due_clients None = refl
      due_clients (Some request) = copied_clients route.mirror where
        copied_clients : (mirror : Option Hostgroup)
            → (copied name request.command mirror (tell (BecameDue client.number route.hostgroup (suc client.taken) request.key request.command route.multiplex) w.tale)).clients ≡ w.tale.clients
        copied_clients None = refl
        copied_clients (Some hostgroup) = refl

    pub clients_then : (tale : Tale) → taken_once setup by w client ≡ Some tale → tale.clients ≡ w.tale.clients
    clients_then tale is =
        let at = is_up_then tale is in ap (λ (t : Tale). t.clients) (sym at.same) ∙ taken_clients at.message ((plan_of d).routes name)

    pub start_then : IsHeld setup n d next_clients w.tale.story
    start_then = record {
      tabled = tabled_then next_clients (λ m was. old_taken m client w.tale.clients ready.latest was) (λ message is_up next. taken_old client w.tale.clients ready.there);
      decided = are_more w.decided d (view_of setup w.tale) (next-more setup by w client) held.decided;
      numbered = numbered_taken (next_of client) 1 w.tale.clients held.numbered;
      few = let same : length next_clients ≡ length w.tale.clients = length-map w.tale.clients (replaced (next_of client)) in omega (arith, same, held.few);
      lone = held.lone;
      fit = held.fit;
      unbroken = held.unbroken;
    }

    pub route_is : (o : Option (Option Route)) (r : Route) → unwrap_or o None ≡ Some r → o ≡ Some (Some r)
    route_is None r is = no_some r is
    route_is (Some x) r is = ap (λ (y : Option Route). Some y) is

    -- it is known where it goes
    pub goes_then : (message : Framed) (r : Route) → up ≡ true → found ≡ Some message → (plan_of d).routes name ≡ Some r → GoesTo d name r.hostgroup
    goes_then message r is_up next routed = record {
      route = r;
      routed = route_is (d.routes name) r routed;
      there = refl;
      lone = (tabled_then next_clients (λ m was. old_taken m client w.tale.clients ready.latest was) (λ message is_up next. taken_old client w.tale.clients ready.there)).lone name r
          (route_is (d.routes name) r routed);
      own = _;
      looked = ap (λ b. (if b then with_route by w client looked found else looked).own name) is_up
          ∙ ap (λ o. (with_route by w client looked o).own name) next
          ∙ filled-there (λ k. is_message k name) (λ k. by.answer w client (suc client.taken) message) looked.own name (same_message name);
    }

    -- and it asks for something
    pub asked_then : (message : Framed) (r : Route) → up ≡ true → found ≡ Some message → (plan_of d).routes name ≡ Some r
        → is_some (requested setup (view_of setup w.tale) (plan_of d) client (suc client.taken) r message.payload) ≡ true
    asked_then message r is_up next routed = elim (behind_routes up found name (Some r) (route_is (d.routes name) r routed)) [
      | inl was ↦ next_new client w.tale.clients ready.latest (looked_routes name (Some r) was)
      | inr now ↦
          let same : now.0 ≡ message = some_of now.0 message (sym now.2 ∙ next) in
          ap (λ o. is_some o)
          (sym (same_requested client (view_of setup w.tale) w.tale.moment (plan_of w.decided) (plan_of d)
          (same_later fixed w client message w.more.bare w.more.tried (plan_of d) (agrees-itself d w.tale.moment)) setup r message.payload))
          ∙ subst (λ (x : Framed). is_some (requested setup (view_of setup w.tale) (plan_of w.decided) client (suc client.taken) r x.payload) ≡ true) same
          (route_asks fixed w client now.0 r now.4)
    ]

    pub taken_is : (message : Framed) (route : Option Route) → up ≡ true → found ≡ Some message → (plan_of d).routes name ≡ route
        → IsHeld setup n d next_clients (taken_then message route).story
    taken_is message None is_up next routed =
        if_either (λ (t : Tale). IsHeld setup n d next_clients t.story) (nat_eq (slice_index_or message.payload 0 0) com_reset) (tell (Left client.number) w.tale) w.tale
        (more_held setup n d next_clients w.tale.story (Left client.number) tt start_then) start_then
    taken_is message (Some r) is_up next routed =
        due_is (requested setup (view_of setup w.tale) (plan_of d) client (suc client.taken) r message.payload) refl (asked_then message r is_up next routed)
      where
        goes : GoesTo d name r.hostgroup
        goes = goes_then message r is_up next routed

        tabled_lone : r.mirror ≡ None
        tabled_lone = start_then.tabled.lone name r (route_is (d.routes name) r routed)

        due_is : (request : Option Request) → requested setup (view_of setup w.tale) (plan_of d) client (suc client.taken) r message.payload ≡ request → is_some request ≡ true → IsHeld setup n d next_clients (due_by client (suc client.taken) r request w.tale).story
        due_is None at asked = isnt asked
        due_is (Some request) at asked =
            subst (λ mirror. IsHeld setup n d next_clients
            (copied name request.command mirror (tell (BecameDue client.number r.hostgroup (suc client.taken) request.key request.command r.multiplex) w.tale)).story)
            (sym tabled_lone)
            (record {
              tabled = start_then.tabled;
              decided = became_due d setup w.tale.story client.number r.hostgroup (suc client.taken) request.key request.command r.multiplex goes start_then.decided;
              numbered = start_then.numbered;
              few = start_then.few;
              lone = comes_lone setup w.tale.story client.number r.hostgroup (suc client.taken) request.key request.command r.multiplex none_due none_there none_replied held.lone;
              fit = comes_fit setup w.tale.story client.number r.hostgroup (suc client.taken) request.key request.command r.multiplex (requested_statement setup (view_of setup w.tale) (plan_of d) client (suc client.taken) r message.payload request at) none_carried held.fit;
              unbroken = start_then.unbroken;
            })

    pub taken_held : (tale : Tale) → taken_once setup by w client ≡ Some tale → Held n (with_taken setup by w client tale)
    taken_held tale is =
        let at = is_up_then tale is in
        subst (λ cs. IsHeld setup n d (map (replaced (next_of client)) cs) tale.story) (sym (clients_then tale is))
        (subst (λ (t : Tale). IsHeld setup n d next_clients t.story) at.same
        (taken_is at.message ((plan_of d).routes name) (up_then tale is) (found_then tale is) refl))

    pub none_held : taken_once setup by w client ≡ None → Held n (record w { decided = d })
    none_held none = record {
      tabled = tabled_then w.tale.clients (λ m was. was) (λ message is_up next. no_some _ (sym none ∙ taken_some message is_up next));
      decided = are_more w.decided d (view_of setup w.tale) (next-more setup by w client) held.decided;
      numbered = held.numbered;
      few = held.few;
      lone = held.lone;
      fit = held.fit;
      unbroken = held.unbroken;
    }

    pub fresh_then : n < 18446744073709551616 → (tale : Tale) → taken_once setup by w client ≡ Some tale → (message : Framed) → found ≡ Some message → IsFresh fixed w client message
    fresh_then small tale is message next = fresh message small (up_then tale is) next

    pub ready_then : (tale : Tale) → taken_once setup by w client ≡ Some tale → IsReady (next_of client) (with_taken setup by w client tale).tale.clients
    ready_then tale is = subst (λ cs. IsReady (next_of client) (map (replaced (next_of client)) cs)) (sym (clients_then tale is)) (ready_next client w.tale.clients ready)

    pub apart_then : (tale : Tale) → taken_once setup by w client ≡ Some tale → (other : Client) → is_client client.number other.number ≡ false
        → IsReady other w.tale.clients → IsReady other (with_taken setup by w client tale).tale.clients
    apart_then tale is other apart was =
        subst (λ cs. IsReady other (map (replaced (next_of client)) cs)) (sym (clients_then tale is)) (ready_apart other (next_of client) apart w.tale.clients was)
