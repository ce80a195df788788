-- What is decided as a plan says agrees with it.
use Rattle.std.specs.Prelude.{◌≡◌, ◌<◌, ◌⊎◌, ℕ, zero, suc, Bool, true, false, ◌&&◌, nat_eq, nat_le, fold, length, slice_get, if◌then◌else◌}
use Rattle.std.specs.Prelude.{unwrap_or, List, [], ◌∷◌, Option, Some, None}
use Rattle.std.specs.Option.{option_map_or}
use Rattle.std.proofs.Common.{refl, sym, ap, ◌∙◌, subst, inl, inr, arith}
use Rattle.std.proofs.lemmas.Bool.{and_parts, leb-false}
use Rattle.mx_base.specs.declared.names.LinkId.{LinkId}
use Rattle.mx_base.specs.declared.tag.Tag.{Tag}
use Rattle.mx_wire.specs.Log.{Log}
use Rattle.mx_wire.specs.declared.entry.Entry.{Entry}
use Rattle.mx_wire.specs.declared.entry.Entry.TheVariants as entry
use Rattle.packet_frame.specs.Packets.{Framed}
use Rattle.private_model.proofs.Maps.{link_of, message_is, number_of}
use Rattle.private_model.specs.Names.{ClientNo, MessageName}
use Rattle.private_model.specs.Story.{is_link_id, is_message}
use Rattle.private_model.specs.View.{Setup, View}
use Rattle.log_story.specs.Owed.{messages, name_of}
use Rattle.log_story.specs.Plan.{OwnAnswer, Plan, Route, is_now}
use Rattle.log_story.specs.Servers.{may_begin}
use Rattle.log_story.specs.Tale.{Client, Tale, is_to_server, link_in, view_of}
use Rattle.tale_world.specs.ByPlan.{AgreesUntil, by_now, by_plan, just_now}
use Rattle.tale_world.specs.Decided.{Agrees, Decided, filled, plan_of}
use Rattle.tale_world.specs.Deciding.{Deciding, World}
use Rattle.tale_world.specs.World.{are_freed, are_taken, decided_by_now, decided_ends, decided_freed, decided_looked, decided_next, decided_told, ended_now, first_world, freed_there, given_up, go_on, goes_on}
use Rattle.tale_world.specs.World.{decided_last, is_asked, is_called, is_counted, is_looked_up, is_ended, is_tagged, is_taken_of, is_told, is_up, looked_for, next_message, next_of, tagged, taken_once, with_login, with_route}
use Rattle.tale_world.specs.World.{with_step, with_taken, world_step}
use Rattle.tale_world.proofs.Following.{IsEven, freed_follows, going_even, step_even}
use Rattle.tale_world.proofs.Looking.{next_moment}
use Rattle.tale_world.proofs.Telling.{ends_moment, told_moment}

some-of : {A : Type 0} (a b : A) → Some a ≡ Some b → a ≡ b
some-of a b is = cc

-- what is there was there, or is what was put
filled-of : {A : Type 0} (b : Bool) (value : A) (old : Option A) (v : A) → (if b then Some (unwrap_or old value) else old) ≡ Some v
    → (old ≡ Some v) ⊎ ((b ≡ true) × (value ≡ v))
filled-of true value (Some x) v is = inl is
filled-of true value None v is = inr (refl, some-of value v is)
filled-of false value old v is = inl is

by_now-some : (moment : ℕ) (own : Option OwnAnswer) (answer : OwnAnswer) → by_now moment own ≡ Some answer → own ≡ Some answer
by_now-some moment None answer is = is
by_now-some moment (Some other) answer is = by_test (nat_le other.from moment) is where
  by_test : (b : Bool) → (if b then Some other else None) ≡ Some answer → Some other ≡ Some answer
  by_test true same = same
  by_test false same = absurd (cc)

by_now-none : (moment : ℕ) (own : Option OwnAnswer) (answer : OwnAnswer) → by_now moment own ≡ None → own ≡ Some answer → moment < answer.from
by_now-none moment own answer none has = by_test (nat_le answer.from moment) refl (sym (ap (by_now moment) has) ∙ none) where
  by_test : (b : Bool) → nat_le answer.from moment ≡ b → (if b then Some answer else None) ≡ None → moment < answer.from
  by_test true is same = absurd (cc)
  by_test false is same = leb-false answer.from moment is

module _ (setup : Setup) (plan : Plan) where
  abbrev By : Deciding (Unit {0})
  By = by_plan plan

  own_agrees : (d : Decided) (moment : ℕ) (which : MessageName → Bool) (value : MessageName → Option OwnAnswer)
      → ((m : MessageName) → which m ≡ true → value m ≡ by_now moment (plan.own m)) → Agrees d moment plan
      → Agrees (record d { own = filled which value d.own }) moment plan
  own_agrees d moment which value by_plan agrees = record {
    service = agrees.service;
    room = agrees.room;
    logins = agrees.logins;
    routes = agrees.routes;
    answered = λ m answer is. elim (filled-of (which m) (value m) (d.own m) (Some answer) is) [
      | inl was ↦ agrees.answered m answer was
      | inr now ↦ by_now-some moment (plan.own m) answer (sym (by_plan m now.0) ∙ now.1)
    ];
    unanswered = λ m answer is has. elim (filled-of (which m) (value m) (d.own m) None is) [
      | inl was ↦ agrees.unanswered m answer was has
      | inr now ↦ by_now-none moment (plan.own m) answer (sym (by_plan m now.0) ∙ now.1) has
    ];
    ended = agrees.ended;
    going = agrees.going;
    steps = agrees.steps;
  }

  routes_agree : (d : Decided) (moment : ℕ) (which : MessageName → Bool) (value : MessageName → Option Route)
      → ((m : MessageName) → which m ≡ true → value m ≡ plan.routes m) → Agrees d moment plan
      → Agrees (record d { routes = filled which value d.routes }) moment plan
  routes_agree d moment which value by_plan agrees = record {
    service = agrees.service;
    room = agrees.room;
    logins = agrees.logins;
    routes = λ m route is. elim (filled-of (which m) (value m) (d.routes m) route is) [
      | inl was ↦ agrees.routes m route was
      | inr now ↦ sym (by_plan m now.0) ∙ now.1
    ];
    answered = agrees.answered;
    unanswered = agrees.unanswered;
    ended = agrees.ended;
    going = agrees.going;
    steps = agrees.steps;
  }

  abbrev Agreed : World (Unit {0}) → Type 0
  Agreed w = Agrees w.decided w.tale.moment plan

  -- Links are given back.

  freed_agrees : (w : World (Unit {0})) (link : LinkId) → Agreed w → Agreed (freed_there setup By w link)
  freed_agrees w link agrees =
      subst (λ k. Agrees (decided_freed setup By w link) k plan) (sym (freed_follows setup By w.tale.moment w link refl).now)
      (own_agrees w.decided w.tale.moment (looked_for (view_of setup w.tale).dues (link_in setup w.tale link).carries) (λ m. by_now w.tale.moment (plan.own m)) (λ m is. refl) agrees)

  freeing_agrees : (xs : List LinkId) (w : World (Unit {0})) → Agreed w → Agreed (fold (freed_there setup By) w xs)
  freeing_agrees [] w agrees = agrees
  freeing_agrees (x ∷ xs) w agrees = freeing_agrees xs (freed_there setup By w x) (freed_agrees w x agrees)

  -- Messages are taken up.

  route_agrees : (w : World (Unit {0})) (client : Client) (d : Decided) (message : Option Framed) → Agrees d w.tale.moment plan
      → Agrees (with_route By w client d message) w.tale.moment plan
  route_agrees w client d None agrees = agrees
  route_agrees w client d (Some message) agrees =
      let which = λ (m : MessageName). is_message m (name_of client (suc client.taken)) in
      let value = λ (m : MessageName). plan.routes (name_of client (suc client.taken)) in
      let routed : Decided = record d { routes = filled which value d.routes } in
      own_agrees routed w.tale.moment which (λ m. by_now w.tale.moment (plan.own (name_of client (suc client.taken))))
      (λ m is. ap (λ k. by_now w.tale.moment (plan.own k)) (sym (message_is m (name_of client (suc client.taken)) is)))
      (routes_agree d w.tale.moment which value
      (λ m is. ap plan.routes (sym (message_is m (name_of client (suc client.taken)) is))) agrees)

  looked_agrees : (w : World (Unit {0})) (client : Client) → Agreed w → Agrees (decided_looked setup By w client) w.tale.moment plan
  looked_agrees w client agrees =
      routes_agree (record w.decided { own = filled (is_taken_of client) (λ m. by_now w.tale.moment (plan.own m)) w.decided.own }) w.tale.moment
      (is_looked_up (view_of setup w.tale) client) (λ m. plan.routes m) (λ m is. refl)
      (own_agrees w.decided w.tale.moment (is_taken_of client) (λ m. by_now w.tale.moment (plan.own m)) (λ m is. refl) agrees)

  if_agrees : (b : Bool) (x y : Decided) (moment : ℕ) → Agrees x moment plan → Agrees y moment plan → Agrees (if b then x else y) moment plan
  if_agrees true x y moment first second = first
  if_agrees false x y moment first second = second

  next_agrees : (w : World (Unit {0})) (client : Client) → Agreed w → Agrees (decided_next setup By w client) w.tale.moment plan
  next_agrees w client agrees =
      let looked = looked_agrees w client agrees in
      if_agrees (is_up setup (decided_looked setup By w client) w.tale client) _ _ w.tale.moment
      (route_agrees w client (decided_looked setup By w client) (next_message (decided_looked setup By w client) client) looked) looked

  are_taken_agree : (most : ℕ) (client : Client) (w : World (Unit {0})) → Agreed w → Agreed (are_taken most setup By client w)
  are_taken_agree zero client w agrees = agrees
  are_taken_agree (suc most) client w agrees = by_found (taken_once setup By w client) refl (are_taken_agree most (next_of client)) where
    next : Agrees (decided_next setup By w client) w.tale.moment plan
    next = next_agrees w client agrees

    by_found : (found : Option Tale) → taken_once setup By w client ≡ found
        → ((v : World (Unit {0})) → Agreed v → Agreed (are_taken most setup By (next_of client) v))
        → Agreed (option_map_or (λ tale. are_taken most setup By (next_of client) (with_taken setup By w client tale)) found (record w { decided = decided_next setup By w client }))
    by_found None is others = next
    by_found (Some tale) is others =
        let d : Decided = decided_next setup By w client in
        let kept : tale.moment ≡ w.tale.moment = next_moment setup (plan_of d) client (slice_get (messages (plan_of d) client) client.taken) w.tale tale is in
        others (with_taken setup By w client tale)
        (subst (λ k. Agrees d k plan) (sym kept) next)

  goes_on_agrees : (view : View) (e : Entry) (w : World (Unit {0})) (client : Client) → Agreed w → Agreed (goes_on setup By view e w client)
  goes_on_agrees view e w client agrees = by_test (is_called v.decided w.tale.moment view e client) where
    v : World (Unit {0})
    v = record w { decided = decided_last By w client }

    looked : Agreed v
    looked = own_agrees w.decided w.tale.moment (λ m. is_message m (name_of client client.taken)) (λ m. by_now w.tale.moment (plan.own m)) (λ m is. refl) agrees

    by_test : (b : Bool) → Agreed (if b then are_taken (length (messages (plan_of v.decided) client)) setup By client v else v)
    by_test true = are_taken_agree (length (messages (plan_of v.decided) client)) client v looked
    by_test false = looked

  going_agrees : (view : View) (e : Entry) (xs : List Client) (w : World (Unit {0})) → Agreed w → Agreed (fold (goes_on setup By view e) w xs)
  going_agrees view e [] w agrees = agrees
  going_agrees view e (x ∷ xs) w agrees = going_agrees view e xs (goes_on setup By view e w x) (goes_on_agrees view e w x agrees)

  -- An entry is told.

  login_agrees : (w : World (Unit {0})) (link : LinkId) (moment : ℕ) → Agrees w.decided moment plan → Agrees (with_login By w link) moment plan
  login_agrees w link moment agrees = record {
    service = agrees.service;
    room = agrees.room;
    logins = λ l login is. elim (filled-of (is_link_id l link) (plan.logins link) (w.decided.logins l) login is) [
      | inl was ↦ agrees.logins l login was
      | inr now ↦ ap plan.logins (link_of l link now.0) ∙ now.1
    ];
    routes = agrees.routes;
    answered = agrees.answered;
    unanswered = agrees.unanswered;
    ended = agrees.ended;
    going = agrees.going;
    steps = agrees.steps;
  }

  step_agrees : (w : World (Unit {0})) (link : LinkId) (for : Tag) (bytes : List ℕ) → Agreed w → Agrees (with_step By w link for bytes) w.tale.moment plan
  step_agrees w link for bytes agrees =
      let first = routes_agree w.decided w.tale.moment (is_tagged (tagged for)) (λ m. plan.routes m) (λ m is. refl) agrees in
      let second = own_agrees w.decided w.tale.moment (is_asked (tagged for)) (λ m. by_now w.tale.moment (plan.own m)) (λ m is. refl) agrees in
      record {
        service = agrees.service;
        room = agrees.room;
        logins = agrees.logins;
        routes = first.routes;
        answered = second.answered;
        unanswered = second.unanswered;
        ended = agrees.ended;
        going = agrees.going;
        steps = λ l n step is. elim (filled-of (is_link_id l link && nat_eq n (w.tale.wires link).begun) (plan.steps link (w.tale.wires link).begun) (w.decided.steps l n) step is) [
          | inl was ↦ agrees.steps l n step was
          | inr now ↦ (let both = and_parts (is_link_id l link) (nat_eq n (w.tale.wires link).begun) now.0 in
              ap (λ k. plan.steps k n) (link_of l link both.0) ∙ ap (plan.steps link) (number_of n (w.tale.wires link).begun both.1) ∙ now.1)
        ];
      }

  told_agrees : (w : World (Unit {0})) (e : Entry) → Agreed w → Agrees (decided_told setup By w e) w.tale.moment plan
  told_agrees w (entry.Opened server address link) agrees = login_agrees w link w.tale.moment agrees
  told_agrees w (entry.Got link bytes) agrees = login_agrees w link w.tale.moment agrees
  told_agrees w (entry.Wrote link for bytes) agrees =
      if_agrees (is_to_server w.tale link && may_begin setup link (w.tale.wires link) w.tale) _ _ w.tale.moment (step_agrees w link for bytes agrees) agrees
  told_agrees w _ agrees = agrees

  -- Messages are given up, and clients are ended.

  given_answered : (moment : ℕ) (planned : Option OwnAnswer) (old : Option (Option OwnAnswer)) (answer : OwnAnswer)
      → (old ≡ Some (Some answer) → planned ≡ Some answer) → given_up moment (just_now moment planned) old ≡ Some (Some answer) → planned ≡ Some answer
  given_answered moment None old answer was is = was is
  given_answered moment (Some plans) None answer was is = by_test (nat_eq plans.from moment) refl is where
    by_test : (b : Bool) → nat_eq plans.from moment ≡ b → given_up moment (if b then Some plans.payloads else None) None ≡ Some (Some answer) → Some plans ≡ Some answer
    by_test true at same =
        let from : moment ≡ plans.from = sym (number_of plans.from moment at) in
        ap (λ k. Some (record { from = k; payloads = plans.payloads })) (sym from) ∙ some-of _ _ same
    by_test false at same = absurd (cc)
  given_answered moment (Some plans) (Some (Some other)) answer was is = by_test (nat_eq plans.from moment) is where
    by_test : (b : Bool) → given_up moment (if b then Some plans.payloads else None) (Some (Some other)) ≡ Some (Some answer) → Some plans ≡ Some answer
    by_test true same = was same
    by_test false same = was same
  given_answered moment (Some plans) (Some None) answer was is = by_test (nat_eq plans.from moment) refl is where
    by_test : (b : Bool) → nat_eq plans.from moment ≡ b → given_up moment (if b then Some plans.payloads else None) (Some None) ≡ Some (Some answer) → Some plans ≡ Some answer
    by_test true at same =
        let from : moment ≡ plans.from = sym (number_of plans.from moment at) in
        ap (λ k. Some (record { from = k; payloads = plans.payloads })) (sym from) ∙ some-of _ _ same
    by_test false at same = absurd (cc)

  given_unanswered : (moment : ℕ) (planned : Option OwnAnswer) (old : Option (Option OwnAnswer)) (answer : OwnAnswer)
      → (old ≡ Some None → moment < answer.from) → given_up (suc moment) (just_now (suc moment) planned) old ≡ Some None → planned ≡ Some answer
      → suc moment < answer.from
  given_unanswered moment planned old answer was is has =
      by_test (nat_eq answer.from (suc moment)) refl old was (sym (ap (λ p. given_up (suc moment) (just_now (suc moment) p) old) has) ∙ is)
    where
      by_test : (b : Bool) → nat_eq answer.from (suc moment) ≡ b → (o : Option (Option OwnAnswer)) → (o ≡ Some None → moment < answer.from)
          → given_up (suc moment) (if b then Some answer.payloads else None) o ≡ Some None → suc moment < answer.from
      by_test true at (Some None) late same = absurd (cc)
      by_test true at (Some (Some other)) late same = absurd (cc)
      by_test true at None late same = absurd (cc)
      by_test false at o late same = let after : moment < answer.from = late same in let apart : nat_eq answer.from (suc moment) ≡ false = at in grind arith

  ended_now-some : (moment : ℕ) (planned old : Option ℕ) (at : ℕ) → (old ≡ Some at → planned ≡ Some at) → ended_now moment (is_now moment planned) old ≡ Some at
      → planned ≡ Some at
  ended_now-some moment planned (Some n) at was is = by_test (is_now moment planned) is where
    by_test : (b : Bool) → ended_now moment b (Some n) ≡ Some at → planned ≡ Some at
    by_test true same = was same
    by_test false same = was same
  ended_now-some moment None None at was is = absurd (cc)
  ended_now-some moment (Some n) None at was is = by_test (nat_eq n moment) refl is where
    by_test : (b : Bool) → nat_eq n moment ≡ b → ended_now moment b None ≡ Some at → Some n ≡ Some at
    by_test true here same = ap (λ k. Some k) (number_of n moment here) ∙ same
    by_test false here same = absurd (cc)

  ended_now-none : (moment : ℕ) (planned old : Option ℕ) (at : ℕ) → (old ≡ None → moment < at) → ended_now (suc moment) (is_now (suc moment) planned) old ≡ None
      → planned ≡ Some at → suc moment < at
  ended_now-none moment planned old at was is has =
      by_test (nat_eq at (suc moment)) refl old was (sym (ap (λ p. ended_now (suc moment) (is_now (suc moment) p) old) has) ∙ is)
    where
      by_test : (b : Bool) → nat_eq at (suc moment) ≡ b → (o : Option ℕ) → (o ≡ None → moment < at) → ended_now (suc moment) b o ≡ None → suc moment < at
      by_test true here (Some n) late same = absurd (cc)
      by_test true here None late same = absurd (cc)
      by_test false here o late same = let after : moment < at = late same in let apart : nat_eq at (suc moment) ≡ false = here in grind arith

  counted_agrees : (w : World (Unit {0})) (e : Entry) → Agreed w → Agrees (decided_by_now By w e) (suc w.tale.moment) plan
  counted_agrees w e agrees = record {
    service = agrees.service;
    room = agrees.room;
    logins = agrees.logins;
    routes = agrees.routes;
    answered = λ m answer is. given_answered (suc w.tale.moment) (plan.own m) (w.decided.own m) answer (agrees.answered m answer) is;
    unanswered = λ m answer is has.
        given_unanswered w.tale.moment (plan.own m) (w.decided.own m) answer (λ none. agrees.unanswered m answer none has) is has;
    ended = agrees.ended;
    going = agrees.going;
    steps = agrees.steps;
  }

  ends_agree : (w : World (Unit {0})) (e : Entry) → suc w.decided.until ≡ w.tale.moment → Agreed w → Agrees (decided_ends By w e) w.tale.moment plan
  ends_agree w e even agrees = record {
    service = agrees.service;
    room = agrees.room;
    logins = agrees.logins;
    routes = agrees.routes;
    answered = agrees.answered;
    unanswered = agrees.unanswered;
    ended = λ c at is. ended_now-some w.tale.moment (plan.ends c) (w.decided.ends c) at (agrees.ended c at) is;
    going = λ c at is has. subst (λ k. k < at) even (ended_now-none w.decided.until (plan.ends c) (w.decided.ends c) at (λ none. agrees.going c at none has)
        (subst (λ k. ended_now k (is_now k (plan.ends c)) (w.decided.ends c) ≡ None) (sym even) is) has);
    steps = agrees.steps;
  }

  -- Each entry, and each log.

  stepped_agrees : (w : World (Unit {0})) (e : Entry) → IsEven setup By w → Agreed w → Agreed (world_step setup By w e)
  stepped_agrees w e even agrees =
      let a : World (Unit {0}) = is_told setup By w e in
      let b : World (Unit {0}) = is_counted By a e in
      let c : World (Unit {0}) = are_freed setup By b in
      let d : World (Unit {0}) = go_on setup By (view_of setup w.tale) e c in
      let f : World (Unit {0}) = is_ended By d e in
      let kept : a.tale.moment ≡ w.tale.moment = told_moment setup (plan_of a.decided) w.tale e in
      let on_a : Agreed a = subst (λ k. Agrees a.decided k plan) (sym kept) (told_agrees w e agrees) in
      let on_b : Agreed b = counted_agrees a e on_a in
      let on_c : Agreed c = freeing_agrees b.tale.links b on_b in
      let on_d : Agreed d = going_agrees (view_of setup w.tale) e c.tale.clients c on_c in
      let on_f : Agreed f = subst (λ k. Agrees f.decided k plan) (sym (ends_moment (plan_of f.decided) d.tale.clients d.tale)) (ends_agree d e (going_even setup By w e even) on_d) in
      freeing_agrees f.tale.links f on_f

  log_agrees : (log : Log) (w : World (Unit {0})) → IsEven setup By w → Agreed w → Agreed (fold (world_step setup By) w log)
  log_agrees [] w even agrees = agrees
  log_agrees (e ∷ log) w even agrees = log_agrees log (world_step setup By w e) (step_even setup By w e) (stepped_agrees w e even agrees)

  pub agrees_until : (log : Log) → ((c : ClientNo) (at : ℕ) → plan.ends c ≡ Some at → 0 < at) → AgreesUntil setup plan log plan
  agrees_until log later = log_agrees log (first_world plan.service plan.room tt) refl (record {
    service = refl;
    room = refl;
    logins = λ l login is. absurd (cc);
    routes = λ m route is. absurd (cc);
    answered = λ m answer is. absurd (cc);
    unanswered = λ m answer is has. absurd (cc);
    ended = λ c at is. absurd (cc);
    going = λ c at is has. later c at has;
    steps = λ l n step is. absurd (cc);
  })
