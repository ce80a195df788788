-- At a wake, of the statements that waited too long no more are left than links are on their way to be lent: where each readied link is asked for
-- something, as the loop waits.
use Rattle.std.specs.Prelude.{◌≡◌, ◌≢◌, ◌⊎◌, ◌+◌, ◌<◌, ◌≤◌, ℕ, zero, suc, Bool, true, false, not, ◌&&◌, ◌||◌, filter, fold, is_some, if◌then◌else◌, length, nat_eq, nat_le, List, [], ◌∷◌, ◌++◌, Option, Some, None}
use Rattle.std.specs.List.{list_any}
use Rattle.std.specs.Option.{option_map, option_map_or}
use Rattle.std.proofs.Common.{refl, sym, ap, ◌∙◌, subst, append_assoc, append-nil, inl, inr, arith}
use Rattle.std.proofs.lemmas.Bool.{and_from, and_parts, eqb-true, leb-false, leb-true, or_left, or_right}
use Rattle.mx_base.specs.declared.names.LinkId.{LinkId}
use Rattle.mx_wire.specs.Log.{Log}
use Rattle.mx_wire.specs.Moments.{AllLawful, AtEachMoment}
use Rattle.mx_wire.specs.declared.entry.Entry.{Entry}
use Rattle.mx_wire.specs.declared.entry.Entry.TheVariants as entry
use Rattle.mx_wire.specs.declared.entry.Entry.TheVariants.{Woke}
use Rattle.private_model.proofs.Maps as maps
use Rattle.private_model.proofs.Maps.{client_of, same_message}
use Rattle.ready_loop.specs.Drained.{write_dry}
use Rattle.private_model.specs.Commands.{Reply}
use Rattle.private_model.specs.Names.{ClientNo, Hostgroup, MessageName, SessionName}
use Rattle.private_model.specs.Story.{BecameDue, Broke, Dropped, Due, Freed, Gone, Heard, Left, LoggedIn, Mirrored, Ran, Sent, Story, Unprepared, is_client, is_link_id, is_message, message_of}
use Rattle.private_model.specs.View.{Carried, Link, Setup, View, present, session_in}
use Rattle.log_story.specs.Owed.{name_of as named}
use Rattle.log_story.specs.Plan.{Plan, own_at}
use Rattle.log_story.specs.Servers.{is_done, is_quiet}
use Rattle.log_story.specs.Tale.{Client, Tale, Wire, first_tale, is_reset_step, is_to_server, link_in, view_of}
use Rattle.log_story.specs.Telling.{tale_step}
use Rattle.tale_world.proofs.Agreeing.{same_own}
use Rattle.tale_world.proofs.Following.{told-more}
use Rattle.tale_world.proofs.Links.{log_links}
use Rattle.tale_world.proofs.Rested.{step_rests}
use Rattle.tale_world.proofs.Unborn.{unborn_so}
use Rattle.tale_world.specs.Unborn.{AreUnborn}
use Rattle.tale_world.specs.Decided.{Agrees, plan_of}
use Rattle.tale_world.specs.Deciding.{World}
use Rattle.tale_world.specs.World.{is_told}
use Rattle.router_promises.specs.GivenUp.{LeavesFew, has_waited, is_in_work, left_waiting}
use Rattle.router_promises.specs.Headline.{IsLawfulSo}
use Rattle.router_promises.specs.Keys.{LinkKey, has_no_schema, how_many, is_at_work, is_idle, is_key, is_nobodys, is_of_key, is_stepping, is_vacant, is_waiting, key_for, waiters_in}
use Rattle.router_promises.specs.Now as now
use Rattle.router_promises.specs.Now.{Now, is_here, taken_since}
use Rattle.router_promises.specs.Running.{hostgroup_of}
use Rattle.router_promises.specs.Routed.{RoutesSo}
use Rattle.router_promises.specs.Takings.{Taking, message_in, takings_at}
use Rattle.router_promises.specs.Terms.{Terms, login_as}
use Rattle.router_promises.specs.Wants.{is_text}
use Rattle.shared_router.specs.Causes.{given_by, known_before}
use Rattle.shared_router.specs.Fixed.{Fixed, IsNumbered, setup_of}
use Rattle.shared_router.specs.Given.{IsOverdue}
use Rattle.shared_router.specs.Judged.{EndsFor}
use Rattle.shared_router.specs.Kept.{LeavesFewSo}
use Rattle.shared_router.specs.Known.{Known, known}
use Rattle.shared_router.specs.Lends.{is_readied_for, readied_now}
use Rattle.shared_router.specs.More.{More, now_of}
use Rattle.shared_router.specs.Ours.{IsOurLog, IsOurs}
use Rattle.shared_router.specs.Shared.{final_terms, shared, world_at}
use Rattle.shared_router.specs.Waited.{AsksForWhom, AsksSo, WorksOn, WorksSo}
use Rattle.shared_router.proofs.Along.{IsAt, along, lawful_there, now_there}
use Rattle.shared_router.proofs.Counted.{AreApart, IsServed, served_fewer}
use Rattle.shared_router.proofs.Growing.{numbered_at}
use Rattle.shared_router.proofs.Holding.{IsHeld}
use Rattle.shared_router.proofs.Idling.{alike, lasts_at, rising_at}
use Rattle.shared_router.proofs.Decidedly.{GoesTo}
use Rattle.shared_router.proofs.Lapsing.{given_own, in_work, lone, moment_next, moment_told, own_later, routed_told, stepping_so, tale_is, tale_next, tidy_at}
use Rattle.shared_router.proofs.Lastly.{AreRising, IsLast, has_answer}
use Rattle.shared_router.proofs.Later.{adds, of_key_same}
use Rattle.shared_router.proofs.Looked.{Each}
use Rattle.shared_router.proofs.Numbered.{IsIn, IsOld, has_taken}
use Rattle.shared_router.proofs.Overdue.{has_link}
use Rattle.shared_router.proofs.Parting.{agrees_then}
use Rattle.shared_router.proofs.Serving.{served_by, serves, serves_one, stepping, waiters_apart}
use Rattle.shared_router.proofs.Shutting.{outside_none}
use Rattle.shared_router.proofs.Staying.{log_at}
use Rattle.shared_router.proofs.Waking.{held_then}
use Rattle.shared_router.proofs.Woken.{IsNew, IsSame, IsSameDue, IsWoken, woken_step}

isnt : {A : Type 0} → false ≡ true → A
isnt is = absurd (cc)

no_some : {A B : Type 0} (a : A) → None ≡ Some a → B
no_some a is = absurd (cc)

some_of : {A : Type 0} (a b : A) → Some a ≡ Some b → a ≡ b
some_of a b is = cc

not_some : {A : Type 0} (o : Option A) → not (is_some o) ≡ true → o ≡ None
not_some None is = refl
not_some (Some a) is = isnt is

of_each : (P : Client → Type 0) (xs : List Client) (x : Client) → Each P xs → IsIn x xs → P x
of_each P [] x each there = absurd there
of_each P (y ∷ xs) x each (inl same) = subst P (sym same) each.0
of_each P (y ∷ xs) x each (inr there) = of_each P xs x each.1 there

-- Lists.

filter_on : (p : MessageName → Bool) (xs ys : List MessageName) → filter p (xs ++ ys) ≡ filter p xs ++ filter p ys
filter_on p [] ys = refl
filter_on p (x ∷ xs) ys = by_test (p x) (filter_on p xs ys) where
  by_test : (b : Bool) → filter p (xs ++ ys) ≡ filter p xs ++ filter p ys
      → (if b then x ∷ filter p (xs ++ ys) else filter p (xs ++ ys)) ≡ (if b then x ∷ filter p xs else filter p xs) ++ filter p ys
  by_test true rest = ap (λ (zs : List MessageName). x ∷ zs) rest
  by_test false rest = rest

each_filter : (P : MessageName → Type 0) (p : MessageName → Bool) (xs : List MessageName) → Each P xs → Each P (filter p xs)
each_filter P p [] all = tt
each_filter P p (x ∷ xs) all = by_test (p x) (each_filter P p xs all.1) where
  by_test : (b : Bool) → Each P (filter p xs) → Each P (if b then x ∷ filter p xs else filter p xs)
  by_test true rest = (all.0, rest)
  by_test false rest = rest

apart_filter : (p : MessageName → Bool) (xs : List MessageName) → AreApart xs → AreApart (filter p xs)
apart_filter p [] apart = tt
apart_filter p (x ∷ xs) apart = by_test (p x) (apart_filter p xs apart.1) where
  by_test : (b : Bool) → AreApart (filter p xs) → AreApart (if b then x ∷ filter p xs else filter p xs)
  by_test true rest = (each_filter (λ other. other ≢ x) p xs apart.0, rest)
  by_test false rest = rest

each_on : {A : Type 0} (P : A → Type 0) (xs ys : List A) → Each P xs → Each P ys → Each P (xs ++ ys)
each_on P [] ys first second = second
each_on P (x ∷ xs) ys first second = (first.0, each_on P xs ys first.1 second)

any_more : (f g : LinkId → Bool) (xs : List LinkId) → ((x : LinkId) → list_any (is_link_id x) xs ≡ true → f x ≡ true → g x ≡ true) → list_any f xs ≡ true → list_any g xs ≡ true
any_more f g [] more is = isnt is
any_more f g (x ∷ xs) more is = by_test (f x) refl is (any_more f g xs (λ y there. more y (or_right (is_link_id y x) _ there))) where
  by_test : (b : Bool) → f x ≡ b → (b || list_any f xs) ≡ true → (list_any f xs ≡ true → list_any g xs ≡ true) → list_any g (x ∷ xs) ≡ true
  by_test true at is later = or_left (g x) _ (more x (or_left (is_link_id x x) _ (maps.same_link x)) at)
  by_test false at is later = or_right (g x) _ (later is)

-- the client of an old message
found_old : (m : MessageName) (xs : List Client) → IsOld xs m → (x : Client) × (IsIn x xs × ((x.number ≡ m.client) × (m.ordinal ≤ x.taken)))
found_old m [] old = isnt old
found_old m (x ∷ xs) old = by_test (has_taken m x) refl old (found_old m xs) where
  by_test : (b : Bool) → has_taken m x ≡ b → (b || list_any (has_taken m) xs) ≡ true
      → (IsOld xs m → (y : Client) × (IsIn y xs × ((y.number ≡ m.client) × (m.ordinal ≤ y.taken))))
      → (y : Client) × (IsIn y (x ∷ xs) × ((y.number ≡ m.client) × (m.ordinal ≤ y.taken)))
  by_test true at is later =
      let parts = and_parts (is_client x.number m.client) (nat_le m.ordinal x.taken) at in
      (x, (inl refl, (client_of x.number m.client parts.0, leb-true m.ordinal x.taken parts.1)))
  by_test false at is later = (let rest = later is in (rest.0, (inr rest.1.0, rest.1.1)))

-- Since when messages are taken up.

module _ (now_ms : ℕ) where
  fold_new : (xs : List Taking) (f : MessageName → ℕ) (m : MessageName) → f m ≡ now_ms → fold (taken_since now_ms) f xs m ≡ now_ms
  fold_new [] f m is = is
  fold_new (x ∷ xs) f m is = fold_new xs (taken_since now_ms f x) m (by_test (is_message m (message_in x))) where
    by_test : (b : Bool) → (if b then now_ms else f m) ≡ now_ms
    by_test true = refl
    by_test false = is

  each_new : (xs : List Taking) (f : MessageName → ℕ) → Each (λ (taking : Taking). fold (taken_since now_ms) f xs (message_in taking) ≡ now_ms) xs
  each_new [] f = tt
  each_new (x ∷ xs) f = (
    fold_new xs (taken_since now_ms f x) (message_in x) (ap (λ b. if b then now_ms else f (message_in x)) (same_message (message_in x))),
    each_new xs (taken_since now_ms f x),
  )

  old_or_new : (xs : List Taking) (f : MessageName → ℕ) (m : MessageName) → (fold (taken_since now_ms) f xs m ≡ now_ms) ⊎ (fold (taken_since now_ms) f xs m ≡ f m)
  old_or_new [] f m = inr refl
  old_or_new (x ∷ xs) f m = elim (old_or_new xs (taken_since now_ms f x) m) [
    | inl new ↦ inl new
    | inr old ↦ by_test (is_message m (message_in x)) refl old
  ] where
    by_test : (b : Bool) → is_message m (message_in x) ≡ b → fold (taken_since now_ms) (taken_since now_ms f x) xs m ≡ (if b then now_ms else f m)
        → (fold (taken_since now_ms) (taken_since now_ms f x) xs m ≡ now_ms) ⊎ (fold (taken_since now_ms) (taken_since now_ms f x) xs m ≡ f m)
    by_test true same old = inl old
    by_test false other old = inr old

-- At the end of each entry no link is to be given back.
module _ (setup : Setup) (plan : Plan) where
  abbrev AllRest : Tale → Type 0
  AllRest tale = (l : LinkId) → is_to_server tale l ≡ true → is_done plan tale.moment (view_of setup tale) (tale.wires l) (link_in setup tale l) ≡ false

  rest_along : (log : Log) (tale : Tale) → AllRest tale → AllRest (fold (tale_step setup plan) tale log)
  rest_along [] tale all = all
  rest_along (e ∷ log) tale all = rest_along log (tale_step setup plan tale e) (λ l there. step_rests setup plan tale e l there)

module _ (fixed : Fixed) (numbered : IsNumbered fixed) (log : Log) (our : IsOurLog fixed log) (lawful : AtEachMoment (IsLawfulSo (final_terms fixed log)) log)
    (ends : AllLawful (EndsFor (final_terms fixed log)) log) (routes : AllLawful (RoutesSo (final_terms fixed log)) log) where
  abbrev setup : Setup
  setup = setup_of fixed

  abbrev t : Terms
  t = final_terms fixed log

  abbrev plan : Plan
  plan = plan_of (world_at fixed log).decided

  module _ (before later : Log) (until_ms now_ms : ℕ) (at : IsAt log before (Woke until_ms now_ms) later) (works : WorksOn (known fixed (world_at fixed before)))
      (asks : AsksForWhom (known fixed (world_at fixed before))) (patient : 1 ≤ fixed.router.proxy.wait_ms) where
    abbrev e : Entry
    e = Woke until_ms now_ms

    abbrev w : World More
    w = world_at fixed before

    abbrev k : Known
    k = known fixed w

    abbrev v : World More
    v = is_told setup (shared fixed) w e

    abbrev told : Known
    told = known_before fixed v

    abbrev here : Now
    here = now_of fixed w

    abbrev behind : Now
    behind = now.next t here e

    abbrev last : Tale
    last = tale_step setup plan w.tale e

    abbrev view : View
    view = view_of setup w.tale

    abbrev view_then : View
    view_then = view_of setup last

    rests : (l : LinkId) → is_done plan w.tale.moment view (w.tale.wires l) (link_in setup w.tale l) ≡ false
    rests l = by_server (is_to_server w.tale l) refl where
      by_server : (b : Bool) → is_to_server w.tale l ≡ b → is_done plan w.tale.moment view (w.tale.wires l) (link_in setup w.tale l) ≡ false
      by_server true there =
          subst (λ (x : Tale). AllRest setup plan x) (tale_is fixed numbered log lawful ends routes before (e ∷ later) at.is)
          (rest_along setup plan before first_tale (λ x none. isnt none)) l there
      by_server false none = ap (is_done plan w.tale.moment view (w.tale.wires l)) (outside_none fixed numbered log our lawful ends routes before (e ∷ later) at.is l none)

    module _ (c : ClientNo) (h : Hostgroup) (o : ℕ) (turn : is_waiting t behind c h o ≡ true) (long : has_waited t behind now_ms (record { client = c; ordinal = o }) ≡ true) where
      abbrev n : SessionName
      n = present view_then c h

      abbrev m : MessageName
      m = record { client = c; ordinal = o }

      record IsWaiter : Type 0 where
        due : Due
        there : view_then.dues n ≡ Some due
        ordinal : due.ordinal ≡ o
        unanswered : own_at plan last.moment (message_of n due) ≡ None
        home : (view_then.held n).home ≡ None

      waiter : IsWaiter
      waiter = by_due (view_then.dues n) refl turn where
        by_due : (d : Option Due) → view_then.dues n ≡ d
            → ((option_map_or (λ (x : Due). not (is_some (own_at plan last.moment (message_of n x)))) d false && not (is_some (view_then.held n).home))
            && option_map_or (λ (x : Due). nat_eq x.ordinal o) d false) ≡ true → IsWaiter
        by_due None none so = isnt so
        by_due (Some due) there so =
            let parts = and_parts (not (is_some (own_at plan last.moment (message_of n due))) && not (is_some (view_then.held n).home)) (nat_eq due.ordinal o) so in
            let first = and_parts (not (is_some (own_at plan last.moment (message_of n due)))) (not (is_some (view_then.held n).home)) parts.0 in
            record {
              due = due;
              there = there;
              ordinal = eqb-true due.ordinal o parts.1;
              unanswered = not_some (own_at plan last.moment (message_of n due)) first.0;
              home = not_some (view_then.held n).home first.1;
            }

      abbrev due : Due
      due = waiter.due

      named_so : message_of n due ≡ m
      named_so = ap (λ i. record { client = c; ordinal = i }) waiter.ordinal

      moment_so : last.moment ≡ suc w.tale.moment
      moment_so = moment_next fixed numbered log lawful ends routes before later e at.is

      none_then : own_at plan (suc w.tale.moment) (message_of n due) ≡ None
      none_then = ap (λ i. own_at plan i (message_of n due)) (sym moment_so) ∙ waiter.unanswered

      woken : IsWoken setup plan w.tale n due behind.since now_ms none_then rests (tidy_at fixed numbered log lawful ends routes before (e ∷ later) at.is).tied last.moment last.story last.wires
      woken =
          woken_step setup plan w.tale n due behind.since now_ms none_then rests (tidy_at fixed numbered log lawful ends routes before (e ∷ later) at.is).tied until_ms
          (lone fixed numbered log lawful ends routes) (numbered_at fixed before) (each_new now_ms (takings_at setup plan w.tale e) here.since)

      late : behind.since m + fixed.router.proxy.wait_ms ≤ now_ms
      late = leb-true (behind.since m + fixed.router.proxy.wait_ms) now_ms long

      not_new : {A : Type 0} → behind.since m ≡ now_ms → A
      not_new new = absurd (let over = late in omega (arith, new, over, patient))

      -- it waited before
      record WasThere : Type 0 where
        there : view.dues n ≡ Some due
        home : (view.held n).home ≡ None

      was_there : WasThere
      was_there = by_same woken.due_same where
        by_same : IsSameDue setup plan w.tale n due behind.since now_ms none_then rests (tidy_at fixed numbered log lawful ends routes before (e ∷ later) at.is).tied view_then → WasThere
        by_same (IsSame dues home) =
            let there : view.dues n ≡ Some due = sym dues ∙ waiter.there in
            record { there = there; home = sym (home (omega arith) there) ∙ waiter.home }
        by_same (IsNew d is new) =
            let one : d ≡ due = some_of d due (sym is ∙ waiter.there) in
            not_new (ap behind.since (sym named_so) ∙ ap (λ (x : Due). behind.since (message_of n x)) (sym one) ∙ new)

      life : view.lives c h ≡ n.life
      life = by_born (nat_le n.life (view.lives c h)) refl where
        grows : view.lives c h ≤ view_then.lives c h
        grows = woken.grows c h

        by_born : (b : Bool) → nat_le n.life (view.lives c h) ≡ b → view.lives c h ≡ n.life
        by_born true born = (let less : n.life ≤ view.lives c h = leb-true n.life (view.lives c h) born in omega (arith, less, grows))
        by_born false unborn =
            let none = subst (λ (x : Tale). AreUnborn (view_of setup x)) (tale_is fixed numbered log lawful ends routes before (e ∷ later) at.is) (unborn_so setup plan before) in
            no_some due (sym (none.dues n (leb-false n.life (view.lives c h) unborn)) ∙ was_there.there)

      present_so : present view c h ≡ n
      present_so = ap (λ i. record { client = c; hostgroup = h; life = i }) life

      -- what was decided of it

      held : IsHeld setup (held_then fixed before (e ∷ later) log at.is our).0 w.decided w.tale.clients w.tale.story
      held = (held_then fixed before (e ∷ later) log at.is our).1

      goes : GoesTo w.decided (message_of n due) n.hostgroup
      goes = held.decided.due n due was_there.there

      routed_at : w.decided.routes m ≡ Some (Some goes.route)
      routed_at = ap w.decided.routes (sym named_so) ∙ goes.routed

      agrees : Agrees w.decided w.tale.moment plan
      agrees = subst (λ (l : Log). Agrees w.decided w.tale.moment (plan_of (world_at fixed l).decided)) at.is (agrees_then fixed before (e ∷ later))

      own_final : own_at plan w.tale.moment m ≡ None
      own_final = by_own (own_at plan w.tale.moment m) refl where
        by_own : (x : Option (List (List ℕ))) → own_at plan w.tale.moment m ≡ x → own_at plan w.tale.moment m ≡ None
        by_own None is = is
        by_own (Some payloads) is =
            let stays : is_some (own_at plan last.moment m) ≡ true =
            own_later w.tale.moment last.moment (plan.own m) (omega (arith, moment_so)) (ap (λ (x : Option (List (List ℕ))). is_some x) is) in
            isnt (sym (ap (λ (x : Option (List (List ℕ))). is_some x) (ap (own_at plan last.moment) (sym named_so) ∙ waiter.unanswered)) ∙ stays)

      own_known : own_at (plan_of w.decided) w.tale.moment m ≡ None
      own_known = same_own w.decided w.tale.moment plan agrees m goes.own (ap w.decided.own (sym named_so) ∙ goes.looked) ∙ own_final

      own_told : own_at (plan_of v.decided) w.tale.moment m ≡ None
      own_told =
          subst (λ i. own_at (plan_of v.decided) i m ≡ own_at plan i m) (moment_told fixed numbered log lawful ends routes before later e at.is)
          (same_own v.decided v.tale.moment plan (stepping_so fixed numbered log lawful ends routes before later e at.is) m goes.own
          ((told-more setup (shared fixed) w e).own m goes.own (ap w.decided.own (sym named_so) ∙ goes.looked))) ∙ own_final

      unreplied : view.replies m ≡ None
      unreplied = held.lone.due m n (due, (was_there.there, named_so))

      client_of_it : (x : Client) × (IsIn x w.tale.clients × ((x.number ≡ c) × (o ≤ x.taken)))
      client_of_it = found_old m w.tale.clients (held.tabled.routes m (Some goes.route) routed_at)

      abbrev x : Client
      x = client_of_it.0

      counted : 1 ≤ o
      counted = held.tabled.counted m goes.route routed_at

      no_answer : has_answer setup plan w.tale.moment w.tale.story m ≡ false
      no_answer =
          ap (λ (y : Option (List (List ℕ))). is_some y || is_some (view.replies m)) own_final ∙ ap (λ (y : Option Reply). is_some y) unreplied

      -- it is the last that was taken up
      taken_so : x.taken ≡ o
      taken_so = by_less (nat_le x.taken o) refl where
        last_is : IsLast setup plan w.tale.moment w.tale.story x.number x.taken
        last_is = of_each (λ (y : Client). IsLast setup plan w.tale.moment w.tale.story y.number y.taken) w.tale.clients x
            (lasts_at fixed numbered log our lawful ends routes before (e ∷ later) at.is).each client_of_it.1.0

        most : o ≤ x.taken
        most = client_of_it.1.1.1

        by_ordinal : (i : ℕ) → o ≡ i → o < x.taken → ⊥
        by_ordinal zero is less = (let some = counted in omega (arith, some, is))
        by_ordinal (suc i) is less =
            isnt (sym no_answer ∙ ap (λ (y : MessageName). has_answer setup plan w.tale.moment w.tale.story y)
            (ap (λ y. record { client = c; ordinal = y }) is ∙ ap (λ (y : ClientNo). record { client = y; ordinal = suc i }) (sym client_of_it.1.1.0))
            ∙ last_is.before i (omega (arith, is, less)))

        by_less : (b : Bool) → nat_le x.taken o ≡ b → x.taken ≡ o
        by_less true is = (let less : x.taken ≤ o = leb-true x.taken o is in omega (arith, less, most))
        by_less false is = absurd (by_ordinal o refl (leb-false x.taken o is))

      name_so : named x x.taken ≡ m
      name_so = ap (λ y. record { client = y; ordinal = x.taken }) client_of_it.1.1.0 ∙ ap (λ i. record { client = c; ordinal = i }) taken_so

      routed_final : plan.routes (named x x.taken) ≡ Some goes.route
      routed_final = ap plan.routes name_so ∙ agrees.routes m (Some goes.route) routed_at

      some_taken : 1 ≤ x.taken
      some_taken = (let some = counted in let is = taken_so in omega (arith, some, is))

      works_now : is_in_work told.terms told.now m ≡ true
      works_now =
          subst (λ (y : MessageName). is_in_work told.terms told.now y ≡ true) name_so
          (elim (in_work fixed numbered log lawful ends routes before later e at.is x client_of_it.1.0 some_taken goes.route routed_final) [
            | inl is ↦ is
            | inr was ↦ isnt (sym no_answer ∙ ap (λ (y : MessageName). has_answer setup plan w.tale.moment w.tale.story y) (sym name_so) ∙ was)
          ])

      -- by each plan that doesn't answer it, it waits
      waits_by : (p : Plan) → own_at p w.tale.moment m ≡ None → (g : Hostgroup) → present view c g ≡ n
          → ((option_map_or (λ (d : Due). not (is_some (own_at p w.tale.moment (message_of (present view c g) d)))) (view.dues (present view c g)) false
          && not (is_some (view.held (present view c g)).home)) && option_map_or (λ (d : Due). nat_eq d.ordinal o) (view.dues (present view c g)) false) ≡ true
      waits_by p none g same =
          subst (λ (s : SessionName). ((option_map_or (λ (d : Due). not (is_some (own_at p w.tale.moment (message_of s d)))) (view.dues s) false && not (is_some (view.held s).home))
          && option_map_or (λ (d : Due). nat_eq d.ordinal o) (view.dues s) false) ≡ true) (sym same)
          (and_from (dues_so && unsent_so) (option_map_or (λ (d : Due). nat_eq d.ordinal o) (view.dues n) false)
          (and_from dues_so unsent_so due_so (ap (λ (y : Option LinkId). not (is_some y)) was_there.home)) ordinal_so)
        where
          dues_so : Bool
          dues_so = option_map_or (λ (d : Due). not (is_some (own_at p w.tale.moment (message_of n d)))) (view.dues n) false

          unsent_so : Bool
          unsent_so = not (is_some (view.held n).home)

          due_so : option_map_or (λ (d : Due). not (is_some (own_at p w.tale.moment (message_of n d)))) (view.dues n) false ≡ true
          due_so =
              ap (λ (y : Option Due). option_map_or (λ (d : Due). not (is_some (own_at p w.tale.moment (message_of n d)))) y false) was_there.there
              ∙ ap (λ (y : MessageName). not (is_some (own_at p w.tale.moment y))) named_so ∙ ap (λ (y : Option (List (List ℕ))). not (is_some y)) none

          ordinal_so : option_map_or (λ (d : Due). nat_eq d.ordinal o) (view.dues n) false ≡ true
          ordinal_so =
              ap (λ (y : Option Due). option_map_or (λ (d : Due). nat_eq d.ordinal o) y false) was_there.there
              ∙ ap (λ i. nat_eq i o) waiter.ordinal ∙ maps.same_number o

      there_so : present view c goes.route.hostgroup ≡ n
      there_so = ap (λ g. present view c g) goes.there ∙ present_so

      overdue : IsOverdue told now_ms m goes.route
      overdue = record {
        in_work = works_now;
        goes = ap (plan_of v.decided).routes (sym name_so) ∙ routed_told fixed numbered log lawful ends routes before later e at.is x client_of_it.1.0 some_taken goes.route routed_final;
        waits = waits_by (plan_of v.decided) own_told goes.route.hostgroup there_so;
        long = elim (old_or_new now_ms (takings_at setup plan w.tale e) here.since m) [
          | inl new ↦ not_new new
          | inr old ↦ (let over = late in omega (arith, old, over))
        ];
      }

      not_given : given_by told v.more.servers e m ≡ None
      not_given = by_given (given_by told v.more.servers e m) refl where
        by_given : (g : Option (List (List ℕ))) → given_by told v.more.servers e m ≡ g → given_by told v.more.servers e m ≡ None
        by_given None is = is
        by_given (Some payloads) is =
            let gives : is_some (given_by told v.more.servers e (named x x.taken)) ≡ true =
            ap (λ (y : MessageName). is_some (given_by told v.more.servers e y)) name_so ∙ ap (λ (y : Option (List (List ℕ))). is_some y) is in
            isnt (sym (ap (λ (y : Option (List (List ℕ))). is_some y) (ap (own_at plan last.moment) (name_so ∙ sym named_so) ∙ waiter.unanswered))
            ∙ given_own fixed numbered log lawful ends routes before later e at.is x client_of_it.1.0 some_taken goes.route routed_final gives)

      readied : is_readied_for w.tale.links (readied_now k) (present view c h) ≡ true
      readied =
          subst (λ (s : SessionName). is_readied_for w.tale.links (readied_now k) s ≡ true) (there_so ∙ sym present_so)
          (has_link told v.more.servers until_ms now_ms m goes.route overdue not_given)

      -- and its key was the same
      key_same : key_for setup behind c h ≡ key_for setup here c h
      key_same =
          ap (λ (d : Option Due). record { hostgroup = h; account = setup.accounts c; bare = has_no_schema d })
          (waiter.there ∙ sym was_there.there ∙ ap view.dues (sym present_so))

      module _ (key : LinkKey) (keyed : is_key (key_for setup behind c h) key ≡ true) where
        served_then : IsServed (serves k) (serves_one k) (stepping k works asks key) w.tale.links m
        served_then =
            served_by k works asks key c h o (waits_by (plan_of w.decided) own_known h present_so) (ap (λ x. is_key x key) (sym key_same) ∙ keyed) readied

        abbrev stepping_then : LinkId → Bool
        stepping_then link = is_of_key t behind key link && is_stepping t before behind link

        -- a link that carries nobody is as it was
        same_link : (link : LinkId) → is_vacant k.terms w.more.log here link ≡ true → link_in setup last link ≡ link_in setup w.tale link
        same_link link vacant = elim (woken.links link) [
          | inl same ↦ same
          | inr free ↦ no_some free.1.0 (sym (nobody (link_in setup w.tale link).carries nobodys) ∙ free.1.1)
        ] where
          nobodys : is_nobodys (link_in setup w.tale link).carries ≡ true
          nobodys =
              let carries : Bool = is_nobodys (link_in setup w.tale link).carries in
              let quits : Bool = not (w.tale.wires link).quits in
              (and_parts quits carries (and_parts (is_here w.more.log link && (w.tale.wires link).entered) (quits && carries) vacant).1).1

          nobody : (s : Carried) → not (is_some (session_in s)) ≡ true → session_in s ≡ None
          nobody s is = not_some (session_in s) is

        steps_then : (link : LinkId) → list_any (is_link_id link) w.tale.links ≡ true → stepping k works asks key link ≡ true → stepping_then link ≡ true
        steps_then link there is =
            and_from (is_of_key t behind key link) (is_stepping t before behind link) (of_key_so ∙ parts.0) (steps_so ∙ parts.1)
          where
            parts : (is_of_key k.terms here key link ≡ true) × (is_stepping k.terms w.more.log here link ≡ true)
            parts = and_parts (is_of_key k.terms here key link) (is_stepping k.terms w.more.log here link) is

            same : link_in setup last link ≡ link_in setup w.tale link
            same = same_link link (and_parts (is_vacant k.terms w.more.log here link) (is_at_work k.terms w.more.log here link) parts.1).0

            wire_so : last.wires link ≡ w.tale.wires link
            wire_so = ap (λ (f : LinkId → Wire). f link) woken.wires_same

            key_by : Wire → Link → Bool
            key_by wire x = option_map_or (λ other. is_key other key)
                (option_map (λ hostgroup. record {
                  hostgroup = hostgroup;
                  account = login_as (plan.logins link);
                  bare = t.decided.bare link && (not wire.entered || is_text [] x.told.schema);
                }) (hostgroup_of fixed.router wire.server)) false

            of_key_so : is_of_key t behind key link ≡ is_of_key k.terms here key link
            of_key_so =
                ap (λ (wi : Wire). key_by wi (link_in setup last link)) wire_so ∙ ap (key_by (w.tale.wires link)) same
                ∙ of_key_same fixed before here w (world_at fixed log) (alike fixed numbered log our lawful ends routes before later e at works asks) key link there

            steps_by : Log → Wire → Link → Bool
            steps_by l wire x =
                ((is_here l link && wire.entered) && (not wire.quits && is_nobodys x.carries)) && (not (is_quiet x.stage) || (is_reset_step wire.step || write_dry link l))

            steps_so : is_stepping t before behind link ≡ is_stepping k.terms w.more.log here link
            steps_so =
                ap (λ (wi : Wire). steps_by before wi (link_in setup last link)) wire_so ∙ ap (steps_by before (w.tale.wires link)) same
                ∙ ap (λ (l : Log). steps_by l (w.tale.wires link) (link_in setup w.tale link)) (sym (log_at fixed before))

        served_behind : IsServed (serves k) (serves_one k) stepping_then w.tale.links m
        served_behind =
            any_more (λ link. stepping k works asks key link && serves k m link) (λ link. stepping_then link && serves k m link) w.tale.links
            (λ link there is. let parts = and_parts (stepping k works asks key link) (serves k m link) is in
            and_from (stepping_then link) (serves k m link) (steps_then link there parts.0) parts.1) served_then

    -- All that are left.

    module _ (key : LinkKey) where
      abbrev steps : LinkId → Bool
      steps link = is_of_key t behind key link && is_stepping t before behind link

      abbrev Served : MessageName → Type 0
      Served m = IsServed (serves k) (serves_one k) steps w.tale.links m

      each_served : (story : Story) → Each Served (filter (has_waited t behind now_ms) (waiters_in t behind key story))
      each_served [] = tt
      each_served (BecameDue client hostgroup ordinal at_key command multiplex ∷ past) =
          subst (Each Served) (sym (filter_on (has_waited t behind now_ms) (waiters_in t behind key past) one))
          (each_on Served (filter (has_waited t behind now_ms) (waiters_in t behind key past)) (filter (has_waited t behind now_ms) one) (each_served past) one_served)
        where
          m : MessageName
          m = record { client = client; ordinal = ordinal }

          one : List MessageName
          one = if is_waiting t behind client hostgroup ordinal && is_key (key_for setup behind client hostgroup) key then m ∷ [] else []

          one_served : Each Served (filter (has_waited t behind now_ms) (if is_waiting t behind client hostgroup ordinal && is_key (key_for setup behind client hostgroup) key then m ∷ [] else []))
          one_served = by_tests (is_waiting t behind client hostgroup ordinal) (is_key (key_for setup behind client hostgroup) key) refl refl where
            by_long : (b : Bool) → has_waited t behind now_ms m ≡ b → is_waiting t behind client hostgroup ordinal ≡ true → is_key (key_for setup behind client hostgroup) key ≡ true
                → Each Served (if b then m ∷ [] else [])
            by_long false long turn keyed = tt
            by_long true long turn keyed = (served_behind client hostgroup ordinal turn long key keyed, tt)

            by_tests : (turn keyed : Bool) → is_waiting t behind client hostgroup ordinal ≡ turn → is_key (key_for setup behind client hostgroup) key ≡ keyed
                → Each Served (filter (has_waited t behind now_ms) (if turn && keyed then m ∷ [] else []))
            by_tests false keyed turn_is keyed_is = tt
            by_tests true false turn_is keyed_is = tt
            by_tests true true turn_is keyed_is = by_long (has_waited t behind now_ms m) refl turn_is keyed_is
      each_served (LoggedIn link server account ∷ past) = each_served past
      each_served (Sent link question ∷ past) = each_served past
      each_served (Ran link ∷ past) = each_served past
      each_served (Heard link reply ∷ past) = each_served past
      each_served (Freed link ∷ past) = each_served past
      each_served (Unprepared link number ∷ past) = each_served past
      each_served (Dropped link ∷ past) = each_served past
      each_served (Gone link ∷ past) = each_served past
      each_served (Left client ∷ past) = each_served past
      each_served (Broke ∷ past) = each_served past
      each_served (Mirrored client job ∷ past) = each_served past

      links_so : last.links ≡ w.tale.links
      links_so = log_links setup plan (e ∷ []) w.tale ∙ append-nil w.tale.links

      rising : AreRising last.story
      rising =
          subst (λ (x : Tale). AreRising x.story) (tale_next fixed numbered log lawful ends routes before later e at.is)
          (rising_at fixed numbered log our lawful ends routes (before ++ e ∷ []) later (append_assoc before (e ∷ []) later ∙ at.is))

      few : length (left_waiting t behind now_ms key) ≤ how_many is_idle t before behind key + how_many is_stepping t before behind key
      few =
          let all = served_fewer (serves k) (serves_one k) steps w.tale.links (filter (has_waited t behind now_ms) (waiters_in t behind key last.story))
          (apart_filter (has_waited t behind now_ms) (waiters_in t behind key last.story) (waiters_apart t behind key last.story rising)) (each_served last.story) in
          let same : how_many is_stepping t before behind key ≡ fold (adds steps) 0 w.tale.links = ap (fold (adds steps) 0) links_so in
          omega (arith, all, same)

    few_left : LeavesFewSo t before e
    few_left = subst (λ (x : Now). LeavesFew t before (now.next t x e) e) (sym (now_there fixed numbered log before (e ∷ later) at.is)) few

  module _ (works : AllLawful (WorksSo fixed) log) (asks : AllLawful (AsksSo fixed) log) (patient : 1 ≤ fixed.router.proxy.wait_ms) where
    few_by : (before later : Log) (e : Entry) → IsAt log before e later → IsOurs fixed before e → LeavesFewSo t before e
    few_by before later (entry.Woke until_ms now_ms) at ours =
        few_left before later until_ms now_ms at (lawful_there (WorksSo fixed) before later log (entry.Woke until_ms now_ms) at.is works)
        (lawful_there (AsksSo fixed) before later log (entry.Woke until_ms now_ms) at.is asks) patient
    few_by before later _ at ours = tt

    pub few_along : AllLawful (LeavesFewSo t) log
    few_along = along fixed log (LeavesFewSo t) few_by our
