-- Where the loop waits, the last message of a client that was taken up is answered or in work: where something is asked for what is due on each link
-- that carries its session.
use Rattle.std.specs.Prelude.{◌≡◌, ◌⊎◌, ◌≤◌, ◌<◌, ℕ, zero, suc, Bool, true, false, not, ◌||◌, is_some, length, List, [], ◌∷◌, Option, Some, None}
use Rattle.std.specs.Option.{option_map_or}
use Rattle.std.proofs.Common.{refl, sym, ap, ◌∙◌, subst, inl, inr, arith}
use Rattle.std.proofs.lemmas.Bool.{and_from, and_parts, or_parts, or_right}
use Rattle.mx_base.specs.declared.names.LinkId.{LinkId}
use Rattle.mx_wire.specs.Log.{Log, is_open}
use Rattle.mx_wire.specs.Moments.{AllLawful, AtEachMoment}
use Rattle.mx_wire.specs.declared.entry.Entry.{Entry}
use Rattle.mx_wire.specs.declared.entry.Entry.TheVariants as entry
use Rattle.ready_loop.specs.Drained.{write_dry}
use Rattle.private_model.specs.Names.{MessageName, SessionName}
use Rattle.private_model.specs.Story.{Due, Statement, message_of}
use Rattle.private_model.specs.View.{Answered, Asked, Carried, Quiet, Setup, Stage, View, present, session_in}
use Rattle.log_story.specs.Clients.{is_answered}
use Rattle.log_story.specs.Owed.{name_of}
use Rattle.log_story.specs.Plan.{Plan, Route, own_at}
use Rattle.log_story.specs.Servers.{is_quiet}
use Rattle.log_story.specs.Tale.{Client, Tale, first_tale, is_reset_step, link_in, view_of}
use Rattle.tale_world.proofs.Agreeing.{same_own}
use Rattle.tale_world.specs.Decided.{Agrees, plan_of}
use Rattle.tale_world.specs.Deciding.{World}
use Rattle.tale_world.specs.Tested.{has_broken}
use Rattle.router_promises.specs.Closes.{is_spoilt}
use Rattle.router_promises.specs.Dues.{is_due, is_unsent}
use Rattle.router_promises.specs.Ends.{was_answered}
use Rattle.router_promises.specs.Headline.{IsLawfulSo}
use Rattle.router_promises.specs.Keys.{is_at_work}
use Rattle.router_promises.specs.Now.{Now, is_here, now_at, was_lost}
use Rattle.router_promises.specs.Rest.{IsBegunWhole, IsInWork, IsUnderWay, IsWholeOn}
use Rattle.router_promises.specs.Routed.{RoutesSo}
use Rattle.router_promises.specs.Terms.{Terms}
use Rattle.router_promises.specs.Wakes.{has_ended}
use Rattle.shared_router.specs.Fixed.{Fixed, IsNumbered, setup_of}
use Rattle.shared_router.specs.Judged.{EndsFor}
use Rattle.shared_router.specs.Known.{Known, known}
use Rattle.shared_router.specs.More.{More, now_of}
use Rattle.shared_router.specs.Ours.{IsOurLog, IsOurs, MayWait}
use Rattle.shared_router.specs.Rests.{CalmSo, IsCalm, IsKept}
use Rattle.shared_router.specs.Shared.{final_terms, world_at}
use Rattle.shared_router.specs.Waited.{AreWhole, AreWorked, AsItWaits, AsksForWhom, AsksSo, IsWorked}
use Rattle.shared_router.specs.Wishes.{wish_on}
use Rattle.shared_router.proofs.Along.{IsAt, along, lawful_there, moment_at, now_there}
use Rattle.shared_router.proofs.Inhand.{InHand, IsInHand, IsStated, IsTidy, Stands, Waits, lost_since}
use Rattle.shared_router.proofs.Lapses.{HasBroken, HasEnded, IsAnswered, IsLapse, IsOver}
use Rattle.shared_router.proofs.Lapsing.{LapsesAt, lapses_at, lone, tale_is, tidy_at}
use Rattle.shared_router.proofs.Lastly.{AreLast, IsLast, Last, first_last, has_answer, last_due, log_last}
use Rattle.shared_router.proofs.Looked.{Each, Has, IsLooked, each-all, looks_at}
use Rattle.shared_router.proofs.Numbered.{IsIn}
use Rattle.shared_router.proofs.Parting.{agrees_then}
use Rattle.shared_router.proofs.Prompting.{unbroken_at}
use Rattle.shared_router.proofs.Shutting.{IsOpenThere, cut, open_there}
use Rattle.shared_router.proofs.Staying.{log_at}
use Rattle.shared_router.proofs.Tied.{StandsBy}
use Rattle.shared_router.proofs.Working.{works_there}

isnt : {A : Type 0} → false ≡ true → A
isnt is = absurd (cc)

no_some : {A B : Type 0} (a : A) → None ≡ Some a → B
no_some a is = absurd (cc)

not_so : (b : Bool) → not b ≡ true → b ≡ false
not_so true is = isnt is
not_so false is = refl

some_of : {A : Type 0} (a b : A) → Some a ≡ Some b → a ≡ b
some_of a b is = cc

of_each : (P : Client → Type 0) (xs : List Client) (x : Client) → Each P xs → IsIn x xs → P x
of_each P [] x each there = absurd there
of_each P (y ∷ xs) x each (inl same) = subst P (sym same) each.0
of_each P (y ∷ xs) x each (inr there) = of_each P xs x each.1 there

each_in : (P : Client → Type 0) (xs : List Client) → ((x : Client) → IsIn x xs → P x) → Each P xs
each_in P [] each = tt
each_in P (x ∷ xs) each = (each x (inl refl), each_in P xs (λ y there. each y (inr there)))

module _ (fixed : Fixed) (numbered : IsNumbered fixed) (log : Log) (our : IsOurLog fixed log) (lawful : AtEachMoment (IsLawfulSo (final_terms fixed log)) log)
    (ends : AllLawful (EndsFor (final_terms fixed log)) log) (routes : AllLawful (RoutesSo (final_terms fixed log)) log) where
  abbrev setup : Setup
  setup = setup_of fixed

  abbrev t : Terms
  t = final_terms fixed log

  abbrev plan : Plan
  plan = plan_of (world_at fixed log).decided

  module _ (before later : Log) (e : Entry) (at : IsAt log before e later) (may : MayWait (known fixed (world_at fixed before)))
      (whole : AreWhole t before (now_of fixed (world_at fixed before))) (asks : AsksForWhom (known fixed (world_at fixed before)))
      (kept : IsCalm t before (now_of fixed (world_at fixed before))) where
    abbrev w : World More
    w = world_at fixed before

    abbrev k : Known
    k = known fixed w

    abbrev now : Now
    now = now_of fixed w

    abbrev view : View
    view = view_of setup w.tale

    tidy : IsTidy setup w.tale.story
    tidy = tidy_at fixed numbered log lawful ends routes before (e ∷ later) at.is

    lasts_there : AreLast setup plan (lone fixed numbered log lawful ends routes) w.tale.moment w.tale.story w.tale.clients
    lasts_there =
        subst (λ (x : Tale). AreLast setup plan (lone fixed numbered log lawful ends routes) x.moment x.story x.clients)
        (tale_is fixed numbered log lawful ends routes before (e ∷ later) at.is)
        (log_last setup plan (lone fixed numbered log lawful ends routes) before first_tale tt (first_last setup plan (lone fixed numbered log lawful ends routes)))

    unbroken : has_broken w.tale.story ≡ false
    unbroken =
        subst (λ (l : Log). has_broken (world_at fixed l).tale.story ≡ false) (cut fixed numbered log our lawful ends routes before (e ∷ later) at.is)
        (unbroken_at fixed log (length before) (let few : length log < 281474976710656 = our.bounded in omega (arith, few)) our.ours our.fits)

    lapse : LapsesAt fixed numbered log lawful ends routes before
    lapse = moment_at (LapsesAt fixed numbered log lawful ends routes) before (e ∷ later) log at.is (lapses_at fixed numbered log lawful ends routes)

    -- What is under way is whole, or its link takes no more.

    module _ (n : SessionName) (l : LinkId) (carries : session_in (link_in setup w.tale l).carries ≡ Some n) (present_n : present view n.client n.hostgroup ≡ n) where
      life : view.lives n.client n.hostgroup ≡ n.life
      life = ap (λ (x : SessionName). x.life) present_n

      there : IsOpenThere fixed numbered log our lawful ends routes before l
      there = open_there fixed numbered log our lawful ends routes before (e ∷ later) at.is l n carries (omega (arith, life))

      kept_there : IsKept t before now l
      kept_there = kept.kept l there.to_server there.opened

      here : is_here before l ≡ true
      here =
          let spoilt : is_spoilt t before now l ≡ false = not_so (is_spoilt t before now l) (and_parts (not (is_spoilt t before now l)) _ kept_there.sound).0 in
          and_from (is_open l before) (not (was_lost before l)) there.opened (ap not (or_parts (was_lost before l) _ spoilt).0)

      quiet_goes : is_due k.terms k.now.tale n ≡ true → (link_in setup w.tale l).stage ≡ Quiet → write_dry l before ≡ false → is_reset_step (w.tale.wires l).step ≡ true
      quiet_goes due quiet goes = by_step (is_reset_step (w.tale.wires l).step) refl where
        by_step : (b : Bool) → is_reset_step (w.tale.wires l).step ≡ b → is_reset_step (w.tale.wires l).step ≡ true
        by_step true is = is
        by_step false is =
            let rests : is_at_work k.terms k.log k.now l ≡ false =
            ap (λ s. not (is_quiet s) || (is_reset_step (w.tale.wires l).step || write_dry l w.more.log)) quiet
            ∙ ap (λ b. b || write_dry l w.more.log) is ∙ ap (write_dry l) (log_at fixed before) ∙ goes in
            let opened : is_open l w.more.log ≡ true = ap (is_open l) (log_at fixed before) ∙ there.opened in
            let some : is_some (wish_on k l) ≡ true = asks l n there.to_server opened (inr carries) present_n due rests in
            isnt (sym rests ∙ works_there fixed numbered log our before later e at may l there.to_server opened there.entered some)

      goes_on : is_due k.terms k.now.tale n ≡ true ⊎ ((due : Due) × IsStated (link_in setup w.tale l).stage n due)
          → (write_dry l before ≡ true) ⊎ IsWholeOn setup now l (link_in setup w.tale l).stage
      goes_on how = by_dry (write_dry l before) refl where
        by_stage : (s : Stage) → (link_in setup w.tale l).stage ≡ s → write_dry l before ≡ false → IsWholeOn setup now l s
        by_stage Quiet is goes = elim how [
          | inl due ↦ quiet_goes due is goes
          | inr stated ↦ absurd (unstated (link_in setup w.tale l).stage stated.0 is stated.1)
        ] where
          unstated : (s : Stage) (due : Due) → s ≡ Quiet → IsStated s n due → ⊥
          unstated s due quiet (inl one) = (let same : Quiet ≡ Asked (Statement n due) = sym quiet ∙ one in cc)
          unstated s due quiet (inr one) = (let same : Quiet ≡ Answered (Statement n due) = sym quiet ∙ one in cc)
        by_stage (Asked question) is goes =
            let begun = (whole l there.to_server there.opened goes).begun in
            subst (λ s. IsBegunWhole setup now l s) is begun
        by_stage (Answered question) is goes = tt

        by_dry : (b : Bool) → write_dry l before ≡ b → (write_dry l before ≡ true) ⊎ IsWholeOn setup now l (link_in setup w.tale l).stage
        by_dry true is = inl is
        by_dry false is = inr (by_stage (link_in setup w.tale l).stage refl is)

      under_way : is_due k.terms k.now.tale n ≡ true ⊎ ((due : Due) × IsStated (link_in setup w.tale l).stage n due) → IsUnderWay t before now n
      under_way how = record { link = l; home = tidy.tied.carried l n carries; here = here; goes = goes_on how }

    -- One client.

    module _ (x : Client) (within : IsIn x w.tale.clients) (goes : has_ended t now x ≡ false) (open_question : was_answered t now x ≡ false) where
      abbrev m : MessageName
      m = name_of x x.taken

      record IsAsked : Type 0 where
        some : 1 ≤ x.taken
        none : has_answer setup plan w.tale.moment w.tale.story m ≡ false

      asked : IsAsked
      asked = by_taken x.taken refl open_question where
        by_taken : (n : ℕ) → x.taken ≡ n → is_answered plan w.tale view x n ≡ false → IsAsked
        by_taken zero is none = absurd (cc)
        by_taken (suc n) is none = record {
          some = omega (arith, is);
          none = ap (λ i. has_answer setup plan w.tale.moment w.tale.story (name_of x i)) is ∙ none;
        }

      never : {A : Type 0} → IsOver setup plan w.tale.moment w.tale.story x.number x.taken → A
      never (HasEnded is) = isnt (sym goes ∙ is)
      never (IsAnswered is) = isnt (sym asked.none ∙ is)
      never (HasBroken is) = isnt (sym unbroken ∙ is)

      last_is : IsLast setup plan w.tale.moment w.tale.story x.number x.taken
      last_is = of_each (λ (y : Client). IsLast setup plan w.tale.moment w.tale.story y.number y.taken) w.tale.clients x lasts_there.each within

      lapse_is : IsLapse setup plan w.tale.moment w.tale.story x
      lapse_is = of_each (IsLapse setup plan w.tale.moment w.tale.story) w.tale.clients x lapse within

      -- by what was decided so far it isn't answered either
      own_none : own_at (plan_of w.decided) w.tale.moment m ≡ None
      own_none = own_so (own_at plan w.tale.moment m) refl where
        agrees : Agrees w.decided w.tale.moment plan
        agrees = subst (λ (l : Log). Agrees w.decided w.tale.moment (plan_of (world_at fixed l).decided)) at.is (agrees_then fixed before (e ∷ later))

        looked : IsLooked w.decided x
        looked = of_each (IsLooked w.decided) w.tale.clients x (looks_at fixed before) within

        has : (n : ℕ) → x.taken ≡ n → Has (w.decided.own (name_of x n))
        has zero is = absurd (let some = asked.some in omega (arith, some, is))
        has (suc i) is = looked.own i (omega (arith, is))

        own_so : (o : Option (List (List ℕ))) → own_at plan w.tale.moment m ≡ o → own_at (plan_of w.decided) w.tale.moment m ≡ None
        own_so None is = (let found = has x.taken refl in same_own w.decided w.tale.moment plan agrees m found.0 found.1 ∙ is)
        own_so (Some payloads) is =
            isnt (sym (or_parts (is_some (own_at plan w.tale.moment m)) _ asked.none).0 ∙ ap (λ (o : Option (List (List ℕ))). is_some o) is)

      final_none : own_at plan w.tale.moment m ≡ None
      final_none = none_so (own_at plan w.tale.moment m) (or_parts (is_some (own_at plan w.tale.moment m)) _ asked.none).0 where
        none_so : (o : Option (List (List ℕ))) → is_some o ≡ false → o ≡ None
        none_so None is = refl
        none_so (Some payloads) is = absurd (cc)

      by_route : (o : Option Route) → plan.routes m ≡ o → IsInWork t before now x o
      by_route None routed = never (lapse_is.left routed asked.some)
      by_route (Some r) routed = by_due (last_is.due r routed asked.some) where
        last : Last
        last = record { hostgroup = r.hostgroup; ordinal = x.taken }

        in_session : (n : SessionName) → n.client ≡ x.number → present view x.number r.hostgroup ≡ n → IsInHand view n x.taken → IsInWork t before now x (Some r)
        in_session n its same (Stands l due is ordinal) =
            let carries : session_in (link_in setup w.tale l).carries ≡ Some n = carried_by (link_in setup w.tale l).stage (link_in setup w.tale l).carries is (tidy.tied.stands l) in
            inr (subst (IsUnderWay t before now) (sym same) (under_way n l carries (again n its same) (inr (due, is))))
          where
            carried_by : (s : Stage) (c : Carried) → IsStated s n due → StandsBy s c → session_in c ≡ Some n
            carried_by s c (inl one) stands = subst (λ y. StandsBy y c) one stands
            carried_by s c (inr one) stands = ap session_in (subst (λ y. StandsBy y c) one stands)

            again : (n : SessionName) → n.client ≡ x.number → present view x.number r.hostgroup ≡ n → present view n.client n.hostgroup ≡ n
            again n its same = ap (λ (k : SessionName). present view k.client k.hostgroup) (sym same) ∙ same
        in_session n its same (Waits due is ordinal) = by_home (view.held n).home refl where
          named : message_of n due ≡ m
          named = ap (λ c. record { client = c; ordinal = due.ordinal }) its ∙ ap (λ i. name_of x i) ordinal

          again : present view n.client n.hostgroup ≡ n
          again = ap (λ (k : SessionName). present view k.client k.hostgroup) (sym same) ∙ same

          due_by : (p : Plan) → own_at p w.tale.moment m ≡ None → option_map_or (λ (d : Due). not (is_some (own_at p w.tale.moment (message_of n d)))) (view.dues n) false ≡ true
          due_by p none =
              ap (λ (o : Option Due). option_map_or (λ (d : Due). not (is_some (own_at p w.tale.moment (message_of n d)))) o false) is
              ∙ ap (λ (k : MessageName). not (is_some (own_at p w.tale.moment k))) named ∙ ap (λ (o : Option (List (List ℕ))). not (is_some o)) none

          by_home : (o : Option LinkId) → (view.held n).home ≡ o → IsInWork t before now x (Some r)
          by_home None none =
              inl (subst (λ (k : SessionName). is_unsent t w.tale k ≡ true) (sym same)
              (and_from (is_due t w.tale n) (not (is_some (view.held n).home)) (due_by plan final_none) (ap (λ (o : Option LinkId). not (is_some o)) none)))
          by_home (Some l) home =
              inr (subst (IsUnderWay t before now) (sym same) (under_way n l (tidy.tied.home n l home) again (inl (due_by (plan_of w.decided) own_none))))

        in_hand : InHand setup view (lost_since setup w.tale.story x.number r.hostgroup) x.number last → IsInWork t before now x (Some r)
        in_hand hand = by_lost (lost_since setup w.tale.story x.number r.hostgroup) refl where
          by_lost : (b : Bool) → lost_since setup w.tale.story x.number r.hostgroup ≡ b → IsInWork t before now x (Some r)
          by_lost true lost = never (lapse_is.lapsed r routed asked.some lost)
          by_lost false lost =
              in_session (record { client = x.number; hostgroup = r.hostgroup; life = hand.life }) refl
              (ap (λ n. record { client = x.number; hostgroup = r.hostgroup; life = n }) (hand.present lost)) hand.how

        by_due : (last_due w.tale.story x.number ≡ Some last) ⊎ (has_broken w.tale.story ≡ true) → IsInWork t before now x (Some r)
        by_due (inr broken) = isnt (sym unbroken ∙ broken)
        by_due (inl is) = elim (tidy.in_hand x.number last is) [
          | inl hand ↦ in_hand hand
          | inr replied ↦ isnt (sym asked.none ∙ or_right (is_some (own_at plan w.tale.moment m)) _ replied)
        ]

      works_on_it : IsInWork t before now x (plan.routes m)
      works_on_it = by_route (plan.routes m) refl

    pub worked_at : AreWorked t before now
    worked_at = each-all (λ (x : Client). is_open x.link before ≡ true → IsWorked t before now x) w.tale.clients
        (each_in (λ (x : Client). is_open x.link before ≡ true → IsWorked t before now x) w.tale.clients (λ x within opened goes open_question. works_on_it x within goes open_question))

  module _ (whole : AllLawful (AsItWaits AreWhole t) log) (asks : AllLawful (AsksSo fixed) log) (calm : AllLawful (CalmSo t) log) where
    here_then : (before later : Log) (e : Entry) → IsAt log before e later → now_at t before ≡ now_of fixed (world_at fixed before)
    here_then before later e at = now_there fixed numbered log before (e ∷ later) at.is

    worked_then : (before later : Log) (e : Entry) → IsAt log before e later → MayWait (known fixed (world_at fixed before)) → AreWhole t before (now_at t before)
        → AsksForWhom (known fixed (world_at fixed before)) → IsCalm t before (now_at t before) → AreWorked t before (now_at t before)
    worked_then before later e at may whole asks calm =
        let same = here_then before later e at in
        subst (λ (n : Now). AreWorked t before n) (sym same)
        (worked_at before later e at may (subst (λ (n : Now). AreWhole t before n) same whole) asks (subst (λ (n : Now). IsCalm t before n) same calm))

    worked_by : (before later : Log) (e : Entry) → IsAt log before e later → IsOurs fixed before e → AsItWaits AreWorked t before e
    worked_by before later (entry.Woke until_ms now_ms) at our_then =
        let e : Entry = entry.Woke until_ms now_ms in
        worked_then before later e at our_then.0 (lawful_there (AsItWaits AreWhole t) before later log e at.is whole) (lawful_there (AsksSo fixed) before later log e at.is asks)
        (lawful_there (CalmSo t) before later log e at.is calm)
    worked_by before later entry.WaitFailed at our_then =
        worked_then before later entry.WaitFailed at our_then (lawful_there (AsItWaits AreWhole t) before later log entry.WaitFailed at.is whole)
        (lawful_there (AsksSo fixed) before later log entry.WaitFailed at.is asks) (lawful_there (CalmSo t) before later log entry.WaitFailed at.is calm)
    worked_by before later entry.Over at our_then =
        worked_then before later entry.Over at our_then (lawful_there (AsItWaits AreWhole t) before later log entry.Over at.is whole)
        (lawful_there (AsksSo fixed) before later log entry.Over at.is asks) (lawful_there (CalmSo t) before later log entry.Over at.is calm)
    worked_by before later _ at our_then = tt

    pub worked_along : AllLawful (AsItWaits AreWorked t) log
    worked_along = along fixed log (AsItWaits AreWorked t) worked_by our
