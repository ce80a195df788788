-- Where an entry parts a message that is in work from its session, the message is given up by it, or its client ends. So the session of each
-- message in work is the present one.
use Rattle.std.specs.Prelude.{◌≡◌, ◌⊎◌, ◌+◌, ◌≤◌, ℕ, zero, suc, Bool, true, false, not, ◌&&◌, ◌||◌, is_none, is_some, if◌then◌else◌, nat_eq, nat_le, take, unwrap_or, All, List, [], ◌∷◌, ◌++◌, Option, Some, None}
use Rattle.std.specs.List.{list_any}
use Rattle.std.specs.Option.{option_and_then, option_map_or, option_or}
use Rattle.std.proofs.Common.{refl, sym, ap, ◌∙◌, subst, append_assoc, append-nil, inl, inr, arith}
use Rattle.std.proofs.lemmas.Bool.{and_from, le-leb, leb-true, or_left, or_right}
use Rattle.hostgroups.specs.declared.server.Server.{Server}
use Rattle.mx_base.specs.declared.names.LinkId.{LinkId}
use Rattle.mx_wire.specs.Log.{Log, is_link, link_of}
use Rattle.mx_wire.specs.Moments.{AllLawful, AtEachMoment}
use Rattle.mx_wire.specs.declared.entry.Entry.{Entry}
use Rattle.mx_wire.specs.declared.entry.Entry.TheVariants as entry
use Rattle.session_state.specs.Pins.{is_pinned}
use Rattle.session_state.specs.declared.pin.Pin.{Pin}
use Rattle.client_session.specs.Errors.{connection_lost}
use Rattle.private_model.proofs.Maps.{same_link, same_name, same_number}
use Rattle.private_model.specs.Names.{ClientNo, Hostgroup, MessageName, SessionName}
use Rattle.private_model.specs.Story.{Story, is_client, is_link_id, is_name}
use Rattle.private_model.specs.View.{Setup, View, present, session_in, view_after}
use Rattle.log_story.proofs.Walking.{Kept, log_keeps, step_keeps}
use Rattle.log_story.specs.Owed.{name_of}
use Rattle.log_story.specs.Plan.{OwnAnswer, Plan, Route, is_by_now, own_at}
use Rattle.log_story.specs.Tale.{Client, Tale, first_tale, link_in, view_of}
use Rattle.log_story.specs.Telling.{tale_step, told}
use Rattle.tale_world.specs.Decided.{Agrees, plan_of}
use Rattle.tale_world.specs.Deciding.{Deciding, World}
use Rattle.tale_world.specs.World.{are_freed, given_up, go_on, is_counted, is_ended, is_told}
use Rattle.tale_world.proofs.Agreeing.{same_own}
use Rattle.tale_world.proofs.Following.{IsStep, are_freed_follows, go_on_follows, stepped, told-more}
use Rattle.tale_world.proofs.Telling.{told_moment}
use Rattle.router_promises.specs.Due.{served}
use Rattle.router_promises.specs.Ends.{EndsRight, breaks_client, breaks_on, carries_client, is_accepted, is_at_fault, is_closing, is_held_fast, is_refused, loses_client, must_end, quits_at}
use Rattle.router_promises.specs.GivenUp.{is_in_work}
use Rattle.router_promises.specs.Headline.{IsLawfulSo}
use Rattle.router_promises.specs.Now as now
use Rattle.router_promises.specs.Now.{Now, flag_taken, is_gone, is_loss, now_at, while_ending}
use Rattle.router_promises.specs.Routed.{AreSo, IsSo, RoutesBy, RoutesSo}
use Rattle.router_promises.specs.Takings.{Taking, takings_at}
use Rattle.router_promises.specs.Terms.{Terms, plan_in, tale_at}
use Rattle.router_promises.specs.Verdicts.{Goes, Parts, Tells, Verdict, verdict}
use Rattle.shared_router.specs.Causes.{Case, cause_of, given_by, is_named, is_on, known_before, lost, payload_if, starved}
use Rattle.shared_router.specs.Fixed.{Fixed, IsNumbered, setup_of}
use Rattle.shared_router.specs.Judged.{EndsFor}
use Rattle.shared_router.specs.Known.{Known}
use Rattle.shared_router.specs.More.{More, now_of}
use Rattle.shared_router.specs.Shared.{final_terms, shared, world_at}
use Rattle.shared_router.proofs.Along.{lawful_there, moment_at, now_there}
use Rattle.shared_router.proofs.Growing.{numbered_at}
use Rattle.shared_router.proofs.Inhand.{IsTidy, first_tidy, tidily}
use Rattle.shared_router.proofs.Lapses.{Ends, GoesThere, HasEnded, IsAnswered, IsLapse, IsMade, IsOver, IsParted, IsTold, LosesClient, LosesLink, step_lapses}
use Rattle.shared_router.proofs.Lastly.{has_answer, message, replied_more}
use Rattle.shared_router.proofs.Looked.{Each, Has, IsLooked, looks_at}
use Rattle.shared_router.proofs.Numbered.{AreNumbered, IsIn}
use Rattle.shared_router.proofs.Owing.{owes_at}
use Rattle.shared_router.proofs.Parting.{even_at, first, next, tale_then, world_more}
use Rattle.shared_router.proofs.Plain.{IsPlain, plain_of}
use Rattle.shared_router.proofs.Routing.{agrees_behind}
use Rattle.shared_router.proofs.Seated.{AreLike, IsLike, clients_by, step_like, told_clients}
use Rattle.shared_router.proofs.Since.{log-since, step-moment}

isnt : {A : Type 0} → false ≡ true → A
isnt is = absurd (cc)

no_some : {A B : Type 0} (a : A) → None ≡ Some a → B
no_some a is = absurd (cc)

some_of : {A : Type 0} (a b : A) → Some a ≡ Some b → a ≡ b
some_of a b is = cc

some_first : (x y : Option (List ℕ)) → is_some x ≡ true → is_some (option_or x y) ≡ true
some_first (Some a) y is = refl
some_first None y is = isnt is

some_second : (x y : Option (List ℕ)) → is_some y ≡ true → is_some (option_or x y) ≡ true
some_second (Some a) y is = refl
some_second None y is = is

of_each : (P : Client → Type 0) (xs : List Client) (x : Client) → Each P xs → IsIn x xs → P x
of_each P [] x each there = absurd there
of_each P (y ∷ xs) x each (inl same) = subst P (sym same) each.0
of_each P (y ∷ xs) x each (inr there) = of_each P xs x each.1 there

all_in : (P : Client → Type 0) (xs : List Client) → All P xs → (x : Client) → IsIn x xs → P x
all_in P [] all x there = absurd there
all_in P (y ∷ xs) all x (inl same) = subst P (sym same) (all 0 y (omega arith))
all_in P (y ∷ xs) all x (inr there) = all_in P xs (λ k d within. all (suc k) d (omega (arith, within))) x there

-- a loss, or a close
gone_loss : (e : Entry) (off : Bool) → is_gone e ≡ true → (is_loss e || (is_closing e || off)) ≡ true
gone_loss (entry.Ended link) off is = refl
gone_loss (entry.ReadFailed link) off is = refl
gone_loss (entry.WriteFailed link) off is = refl
gone_loss (entry.Closed link) off is = refl
gone_loss _ off is = isnt is

-- an answer that was given stays so
pub own_later : (moment later : ℕ) (o : Option OwnAnswer) → moment ≤ later
    → is_some (option_and_then (λ (answer : OwnAnswer). if nat_le answer.from moment then Some answer.payloads else None) o) ≡ true
    → is_some (option_and_then (λ (answer : OwnAnswer). if nat_le answer.from later then Some answer.payloads else None) o) ≡ true
own_later moment later None more is = isnt is
own_later moment later (Some answer) more is = by_test (nat_le answer.from moment) refl is where
  by_test : (b : Bool) → nat_le answer.from moment ≡ b → is_some (if b then Some answer.payloads else None) ≡ true
      → is_some (if nat_le answer.from later then Some answer.payloads else None) ≡ true
  by_test true less is =
      ap (λ b. is_some (if b then Some answer.payloads else None)) (le-leb answer.from later (let few : answer.from ≤ moment = leb-true answer.from moment less in omega (arith, few, more)))
  by_test false less is = isnt is

own_there : (later : ℕ) (answer : OwnAnswer) → answer.from ≤ later
    → is_some (option_and_then (λ (a : OwnAnswer). if nat_le a.from later then Some a.payloads else None) (Some answer)) ≡ true
own_there later answer few = ap (λ b. is_some (if b then Some answer.payloads else None)) (le-leb answer.from later few)

-- one of two lists of the same clients
like_in : (xs ys : List Client) → AreLike xs ys → (x : Client) → IsIn x xs → (y : Client) × (IsIn y ys × IsLike x y)
like_in [] ys like x there = absurd there
like_in (z ∷ xs) [] like x there = absurd like
like_in (z ∷ xs) (y ∷ ys) like x (inl same) = (y, (inl refl, subst (λ (c : Client). IsLike c y) (sym same) like.0))
like_in (z ∷ xs) (y ∷ ys) like x (inr there) = let found = like_in xs ys like.1 x there in (found.0, (inr found.1.0, found.1.1))

module _ (fixed : Fixed) (numbered : IsNumbered fixed) (log : Log) (lawful : AtEachMoment (IsLawfulSo (final_terms fixed log)) log)
    (ends : AllLawful (EndsFor (final_terms fixed log)) log) (routes : AllLawful (RoutesSo (final_terms fixed log)) log) where
  abbrev pub setup : Setup
  setup = setup_of fixed

  abbrev pub t : Terms
  t = final_terms fixed log

  abbrev pub plan : Plan
  plan = plan_of (world_at fixed log).decided

  pub lone : (m : MessageName) → IsPlain (plan.routes m)
  lone m = plain_of ((world_at fixed log).decided.routes m) ((owes_at fixed log).plain m)

  abbrev by : Deciding More
  by = shared fixed

  module _ (before later : Log) (e : Entry) (is : before ++ e ∷ later ≡ log) where
    abbrev w : World More
    w = world_at fixed before

    abbrev v : World More
    v = is_told setup by w e

    abbrev last : Tale
    last = tale_step setup plan w.tale e

    stepping : IsStep setup by w e plan
    stepping = stepped setup by w e plan (even_at fixed before) (agrees_behind fixed numbered before later e log is)

    pub tale_next : (world_at fixed (before ++ e ∷ [])).tale ≡ last
    tale_next = ap (λ (x : World More). x.tale) (world_more fixed before (e ∷ [])) ∙ stepping.same

    pub moment_next : last.moment ≡ suc w.tale.moment
    moment_next = ap (λ (x : Tale). x.moment) (sym stepping.same) ∙ step-moment fixed w e (even_at fixed before)

    pub stepping_so : Agrees v.decided v.tale.moment plan
    stepping_so = stepping.told

    pub moment_told : v.tale.moment ≡ w.tale.moment
    moment_told = told_moment setup (plan_of v.decided) w.tale e

    -- what is decided as the entry is counted is decided for good
    counted_stays : (m : MessageName) (answer : OwnAnswer) → (is_counted by v e).decided.own m ≡ Some (Some answer) → plan.own m ≡ Some answer
    counted_stays m answer own =
        let b : World More = is_counted by v e in
        let c : World More = are_freed setup by b in
        let d : World More = go_on setup by (view_of setup w.tale) e c in
        let f : World More = is_ended by d e in
        let n : ℕ = suc v.tale.moment in
        let until_v : v.decided.until ≡ w.decided.until = (told-more setup by w e).until in
        let to_c = are_freed_follows setup by n b refl in
        let until_c : c.decided.until ≡ b.decided.until = to_c.more.until in
        let even_c : suc c.decided.until ≡ n = ap (λ k. suc k) (until_c ∙ until_v ∙ even_at fixed before ∙ sym moment_told) in
        let closed_c : n ≤ suc c.decided.until = omega (arith, even_c) in
        let to_d = go_on_follows setup by n (view_of setup w.tale) e c to_c.now closed_c in
        let to_g = are_freed_follows setup by f.tale.moment f refl in
        let on_d : d.decided.own m ≡ Some (Some answer) = to_d.more.own m (Some answer) (to_c.more.own m (Some answer) own) in
        (agrees_behind fixed numbered before later e log is).answered m answer (to_g.more.own m (Some answer) on_d)

    -- what was answered before is so behind the entry
    abbrev replied_kept : (m : MessageName) → Kept setup
    replied_kept m = record { holds = λ (story : Story). is_some ((view_after setup story).replies m) ≡ true; more = λ past x may was. replied_more setup past x m was }

    answer_kept : (m : MessageName) → has_answer setup plan w.tale.moment w.tale.story m ≡ true → has_answer setup plan last.moment last.story m ≡ true
    answer_kept m was = by_own (is_some (own_at plan w.tale.moment m)) refl was where
      by_own : (b : Bool) → is_some (own_at plan w.tale.moment m) ≡ b → (b || is_some ((view_of setup w.tale).replies m)) ≡ true → has_answer setup plan last.moment last.story m ≡ true
      by_own true own was = or_left _ _ (own_later w.tale.moment last.moment (plan.own m) (omega (arith, moment_next)) own)
      by_own false own was = or_right _ _ (step_keeps setup plan (replied_kept m) w.tale e was)

    -- A client ends by it where it must.

    here : now_at t before ≡ now_of fixed w
    here = now_there fixed numbered log before (e ∷ later) is

    abbrev while : Now
    while = while_ending t (now_of fixed w) e

    ends_then : (y : Client) → IsIn y last.clients → must_end t (before ++ e ∷ []) (now_of fixed w) while e y ≡ true → is_by_now last.moment (plan.ends y.number) ≡ true
    ends_then y there must =
        let all : EndsFor t before e = lawful_there (EndsFor t) before later log e is ends in
        let so : All (EndsRight t (before ++ e ∷ []) (now_of fixed w) (now.next t (now_of fixed w) e) e) (now.next t (now_of fixed w) e).tale.clients =
        subst (λ (n : Now). All (EndsRight t (before ++ e ∷ []) n (now.next t n e) e) (now.next t n e).tale.clients) here all in
        (all_in (EndsRight t (before ++ e ∷ []) (now_of fixed w) (now.next t (now_of fixed w) e) e) last.clients so y there).must must

    -- what is taken up goes somewhere, is answered, or its client ends

    made_by : (taking : Taking) (v : Verdict) → IsSo t taking v → IsMade setup plan taking
    made_by taking Parts so = Ends so.ends
    made_by taking (Tells payloads) so = IsTold payloads so.own
    made_by taking (Goes wanted) so = GoesThere _ so.route

    made_all : (servers : List Server) (flags : ClientNo → ℕ) (takings : List Taking) → AreSo t servers flags takings → Each (IsMade setup plan) takings
    made_all servers flags [] all = tt
    made_all servers flags (taking ∷ takings) all = (
      elim all.0 [
        | inl so ↦ made_by taking (verdict t servers (flags taking.client.number) taking) so
        | inr starved ↦ Ends starved.left.ends
      ],
      made_all servers (flag_taken t flags taking) takings all.1,
    )

    made_then : Each (IsMade setup plan) (takings_at setup plan w.tale e)
    made_then =
        let so : RoutesBy t (now_at t before) e = lawful_there (RoutesSo t) before later log e is routes in
        let there : RoutesBy t (now_of fixed w) e = subst (λ (n : Now). RoutesBy t n e) here so in
        made_all _ _ (takings_at setup plan w.tale e) there

    -- A message that is given up is answered behind the entry.
    module _ (x : Client) (within : IsIn x w.tale.clients) (some : 1 ≤ x.taken) (r : Route) (routed : plan.routes (name_of x x.taken) ≡ Some r) where
      abbrev m : MessageName
      m = name_of x x.taken

      has_at : {A : Type 0} (f : MessageName → Option A) → ((i : ℕ) → suc i ≤ x.taken → Has (f (name_of x (suc i)))) → (n : ℕ) → x.taken ≡ n → Has (f (name_of x n))
      has_at f each zero at = absurd (omega (arith, some, at))
      has_at f each (suc i) at = each i (omega (arith, at))

      looked : IsLooked w.decided x
      looked = of_each (IsLooked w.decided) w.tale.clients x (looks_at fixed before) within

      own_has : Has (w.decided.own m)
      own_has = has_at w.decided.own looked.own x.taken refl

      route_has : Has (w.decided.routes m)
      route_has = has_at w.decided.routes looked.routes x.taken refl

      pub routed_told : (plan_of v.decided).routes m ≡ Some r
      routed_told =
          ap (λ (o : Option (Option Route)). unwrap_or o None) ((told-more setup by w e).routes m route_has.0 route_has.1)
          ∙ sym (stepping.before.routes m route_has.0 route_has.1) ∙ routed

      own_told : v.decided.own m ≡ Some own_has.0
      own_told = (told-more setup by w e).own m own_has.0 own_has.1

      abbrev k : Known
      k = known_before fixed v

      abbrev case : Case
      case = record { known = k; servers = v.more.servers; e = e; m = m; route = r }

      in_clients : list_any (λ (client : Client). is_client client.number m.client && nat_eq client.taken m.ordinal) w.tale.clients ≡ true
      in_clients = among w.tale.clients within where
        among : (xs : List Client) → IsIn x xs → list_any (λ (client : Client). is_client client.number m.client && nat_eq client.taken m.ordinal) xs ≡ true
        among [] there = absurd there
        among (y ∷ xs) (inl same) =
            or_left _ _ (subst (λ (c : Client). (is_client c.number m.client && nat_eq c.taken m.ordinal) ≡ true) same
            (and_from _ _ (same_number x.number.0) (same_number x.taken)))
        among (y ∷ xs) (inr there) = or_right _ _ (among xs there)

      own_same : own_at (plan_of v.decided) w.tale.moment m ≡ own_at plan w.tale.moment m
      own_same =
          subst (λ n. own_at (plan_of v.decided) n m ≡ own_at plan n m) moment_told (same_own v.decided v.tale.moment plan stepping.told m own_has.0 own_told)

      -- it is in work, or answered
      pub in_work : (is_in_work k.terms k.now m ≡ true) ⊎ (has_answer setup plan w.tale.moment w.tale.story m ≡ true)
      in_work = by_both (is_some ((view_of setup w.tale).replies m)) (is_some (own_at (plan_of v.decided) w.tale.moment m)) refl refl where
        by_both : (replied own : Bool) → is_some ((view_of setup w.tale).replies m) ≡ replied → is_some (own_at (plan_of v.decided) w.tale.moment m) ≡ own
            → (is_in_work k.terms k.now m ≡ true) ⊎ (has_answer setup plan w.tale.moment w.tale.story m ≡ true)
        by_both true own at said = inr (or_right _ _ at)
        by_both false true at said = inr (or_left _ _ (ap (λ (o : Option (List (List ℕ))). is_some o) (sym own_same) ∙ said))
        by_both false false at said = inl (and_from _ _ in_clients (and_from _ _ (ap not at) (ap not said)))

      given : is_gone e ≡ true → (link : LinkId) → link_of e ≡ Some link → ((view_of setup w.tale).held (present (view_of setup w.tale) x.number r.hostgroup)).home ≡ Some link
          → is_pinned ((view_of setup w.tale).held (present (view_of setup w.tale) x.number r.hostgroup)).pin ≡ false → is_in_work k.terms k.now m ≡ true
          → is_some (given_by k v.more.servers e m) ≡ true
      given gone link named home unpinned works =
          ap (λ b. is_some (if b then its ((plan_in k.terms).routes m) else None)) works ∙ ap (λ o. is_some (its o)) routed_told ∙ one (cause_of case) caused
        where
          its : Option Route → Option (List (List ℕ))
          its o = option_and_then (λ route. option_and_then (λ payload. Some (payload ∷ [])) (cause_of (record { known = k; servers = v.more.servers; e = e; m = m; route = route }))) o

          one : (o : Option (List ℕ)) → is_some o ≡ true → is_some (option_and_then (λ payload. Some (payload ∷ [])) o) ≡ true
          one None is = isnt is
          one (Some payload) is = refl

          on_it : is_on case link ≡ true
          on_it =
              and_from _ _ (ap (λ (o : Option LinkId). option_map_or (is_link_id link) o false) home ∙ same_link link) (ap not unpinned)

          named_it : is_named case (is_on case) ≡ true
          named_it = ap (λ (o : Option LinkId). option_map_or (is_on case) o false) named ∙ on_it

          lost_it : is_some (lost case) ≡ true
          lost_it = ap (λ b. is_some (payload_if b connection_lost)) (and_from (is_gone e) (is_named case (is_on case)) gone named_it)

          caused : is_some (cause_of case) ≡ true
          caused = some_second (starved case) _ (some_first (lost case) _ lost_it)

      pub given_own : is_some (given_by k v.more.servers e m) ≡ true → is_some (own_at plan last.moment m) ≡ true
      given_own is_given = by_own own_has.0 own_told own_has.1 (given_by k v.more.servers e m) refl is_given where
        by_own : (o : Option OwnAnswer) → v.decided.own m ≡ Some o → w.decided.own m ≡ Some o → (g : Option (List (List ℕ))) → given_by k v.more.servers e m ≡ g → is_some g ≡ true
            → is_some (own_at plan last.moment m) ≡ true
        by_own o told was None at has = isnt has
        by_own None told was (Some payloads) at has =
            let answer : OwnAnswer = record { from = suc v.tale.moment; payloads = payloads } in
            let now_own : (is_counted by v e).decided.own m ≡ Some (Some answer) =
            ap (λ g. given_up (suc v.tale.moment) g (v.decided.own m)) at ∙ ap (given_up (suc v.tale.moment) (Some payloads)) told in
            ap (λ o. is_some (option_and_then (λ (a : OwnAnswer). if nat_le a.from last.moment then Some a.payloads else None) o)) (counted_stays m answer now_own)
            ∙ own_there last.moment answer (omega (arith, moment_next, moment_told))
        by_own (Some answer) told was (Some payloads) at has =
            let now_own : (is_counted by v e).decided.own m ≡ Some (Some answer) =
            ap (λ g. given_up (suc v.tale.moment) g (v.decided.own m)) at ∙ ap (given_up (suc v.tale.moment) (Some payloads)) told in
            ap (λ o. is_some (option_and_then (λ (a : OwnAnswer). if nat_le a.from last.moment then Some a.payloads else None) o)) (counted_stays m answer now_own)
            ∙ own_there last.moment answer (early answer was)
          where
            early : (a : OwnAnswer) → w.decided.own m ≡ Some (Some a) → a.from ≤ last.moment
            early a was = elim ((log-since fixed before (first fixed) refl).own m a was) [
              | inl none ↦ absurd (cc)
              | inr rest ↦ elim rest [
                | inl none ↦ omega (arith, none)
                | inr between ↦ let most = between.1 in omega (arith, most, moment_next)
              ]
            ]

    module _ (numbers : AreNumbered 1 w.tale.clients) (gone : is_gone e ≡ true) where
      gone_clients : (told setup plan w.tale e).clients ≡ w.tale.clients
      gone_clients = told_clients setup plan w.tale e ∙ by_gone e gone where
        by_gone : (x : Entry) → is_gone x ≡ true → clients_by setup plan w.tale x ≡ w.tale.clients
        by_gone (entry.Ended l) is = refl
        by_gone (entry.ReadFailed l) is = refl
        by_gone (entry.WriteFailed l) is = refl
        by_gone (entry.Closed l) is = refl
        by_gone _ is = isnt is

      -- the client behind the entry
      found_then : (z : Client) → IsIn z w.tale.clients → (y : Client) × (IsIn y last.clients × IsLike z y)
      found_then z within =
          like_in (told setup plan w.tale e).clients last.clients (step_like setup plan w.tale e numbers) z (subst (λ xs. IsIn z xs) (sym gone_clients) within)

      -- its own link is lost
      loses_one : (z : Client) → IsIn z w.tale.clients → loses_client e z ≡ true → is_by_now last.moment (plan.ends z.number) ≡ true
      loses_one z within loses =
          let found = found_then z within in
          let its : loses_client e found.0 ≡ true = ap (λ l. is_link l (link_of e) && (is_loss e || is_closing e)) found.1.1.link ∙ loses in
          subst (λ n. is_by_now last.moment (plan.ends n) ≡ true) found.1.1.number (ends_then found.0 found.1.0 (or_left (loses_client e found.0) _ its))

      -- the link is lost that carries a session of it with a Pin
      breaks_one : (z : Client) → IsIn z w.tale.clients → (h : Hostgroup) (link : LinkId) → link_of e ≡ Some link
          → session_in (link_in setup w.tale link).carries ≡ Some (present (view_of setup w.tale) z.number h)
          → is_pinned ((view_of setup w.tale).held (present (view_of setup w.tale) z.number h)).pin ≡ true → is_by_now last.moment (plan.ends z.number) ≡ true
      breaks_one z within h link named carries pinned =
          let found = found_then z within in
          subst (λ n. is_by_now last.moment (plan.ends n) ≡ true) found.1.1.number (ends_then found.0 found.1.0 (must found.0 found.1.1.number))
        where
          n : SessionName
          n = present (view_of setup w.tale) z.number h

          view : View
          view = view_of setup w.tale

          its_session : (y : Client) → y.number ≡ z.number → carries_client setup (now_of fixed w) y link ≡ true
          its_session y same =
              ap (λ (o : Option SessionName). option_map_or (λ (k : SessionName). is_client k.client y.number && is_name k (present view k.client k.hostgroup)) o false) carries
              ∙ and_from (is_client z.number y.number) (is_name n n) (ap (λ (c : ClientNo). is_client z.number c) same ∙ same_number z.number.0) (same_name n)

          held_fast : is_held_fast setup (now_of fixed w) link ≡ true
          held_fast =
              ap (λ (o : Option SessionName). option_map_or (λ (k : SessionName). is_pinned (view.held k).pin || is_none (view.held k).id) o false) carries
              ∙ or_left (is_pinned (view.held n).pin) _ pinned

          breaks : (y : Client) → y.number ≡ z.number → breaks_client setup (now_of fixed w) while e y ≡ true
          breaks y same =
              ap (λ (o : Option LinkId). option_map_or (breaks_on setup (now_of fixed w) while e y) o false) named
              ∙ and_from (carries_client setup (now_of fixed w) y link) _ (its_session y same)
              (or_left _ _ (and_from (is_held_fast setup (now_of fixed w) link) _ held_fast (gone_loss e _ gone)))

          must : (y : Client) → y.number ≡ z.number → must_end t (before ++ e ∷ []) (now_of fixed w) while e y ≡ true
          must y same =
              let b : Bool = breaks_client setup (now_of fixed w) while e y in
              let fourth : Bool = quits_at t (now_of fixed w) e y || b in
              let third : Bool = is_at_fault t while y || fourth in
              let second : Bool = is_refused t y || third in
              or_right (loses_client e y) ((is_accepted e y && not (served t (before ++ e ∷ []) y)) || second)
              (or_right (is_accepted e y && not (served t (before ++ e ∷ []) y)) second
              (or_right (is_refused t y) third (or_right (is_at_fault t while y) fourth (or_right (quits_at t (now_of fixed w) e y) b (breaks y same)))))

      -- One that is parted.
      parted_over : IsTidy setup w.tale.story → (c : ClientNo) (taken : ℕ) (r : Route) → plan.routes (message setup plan c taken) ≡ Some r → 1 ≤ taken
          → IsParted setup plan w.tale e c taken r → IsOver setup plan last.moment last.story c taken
      parted_over tidy c taken r routed some (LosesClient z within same loses) =
          HasEnded (subst (λ n. is_by_now last.moment (plan.ends n) ≡ true) same (loses_one z within loses))
      parted_over tidy c taken r routed some (LosesLink x within number took link named there carries) =
          subst (λ n. IsOver setup plan last.moment last.story n taken) number (subst (λ n. IsOver setup plan last.moment last.story x.number n) took (by_pin (is_pinned held_pin) refl))
        where
          carries_it : session_in (link_in setup w.tale link).carries ≡ Some (present (view_of setup w.tale) x.number r.hostgroup)
          carries_it = carries ∙ ap (λ n. Some (present (view_of setup w.tale) n r.hostgroup)) (sym number)

          held_pin : Pin
          held_pin = ((view_of setup w.tale).held (present (view_of setup w.tale) x.number r.hostgroup)).pin

          routed_it : plan.routes (name_of x x.taken) ≡ Some r
          routed_it = ap (λ n. plan.routes (message setup plan n x.taken)) number ∙ ap (λ n. plan.routes (message setup plan c n)) took ∙ routed

          by_pin : (b : Bool) → is_pinned held_pin ≡ b → IsOver setup plan last.moment last.story x.number x.taken
          by_pin true pinned = HasEnded (breaks_one x within r.hostgroup link named carries_it pinned)
          by_pin false unpinned =
              IsAnswered (elim (in_work x within (omega (arith, some, took)) r routed_it) [
                | inl works ↦ or_left _ _ (given_own x within (omega (arith, some, took)) r routed_it
                    (given x within (omega (arith, some, took)) r routed_it gone link named (tidy.tied.carried link _ carries_it) unpinned works))
                | inr was ↦ answer_kept (name_of x x.taken) was
              ])

  -- At each moment.

  pub tale_is : (before later : Log) → before ++ later ≡ log → tale_at t before ≡ (world_at fixed before).tale
  tale_is before later is = subst (λ l. tale_at (final_terms fixed l) before ≡ (world_at fixed before).tale) is (tale_then fixed before later)

  pub tidy_at : (before later : Log) → before ++ later ≡ log → IsTidy setup (world_at fixed before).tale.story
  tidy_at before later is =
      subst (λ (x : Tale). IsTidy setup x.story) (tale_is before later is)
      (log_keeps setup plan (tidily setup) before first_tale (λ none. first_tidy setup) (moment_at (IsLawfulSo t) before later log is lawful))

  abbrev pub LapsesAt : Log → Type 0
  LapsesAt before = Each (λ (x : Client). IsLapse setup plan (world_at fixed before).tale.moment (world_at fixed before).tale.story x) (world_at fixed before).tale.clients

  lapses_next : (before later : Log) (e : Entry) → before ++ e ∷ later ≡ log → LapsesAt before → LapsesAt (before ++ e ∷ [])
  lapses_next before later e is was =
      let w : World More = world_at fixed before in
      let numbers : AreNumbered 1 w.tale.clients = numbered_at fixed before in
      subst (λ (x : Tale). Each (λ (y : Client). IsLapse setup plan x.moment x.story y) x.clients) (sym (tale_next before later e is))
      (step_lapses setup plan w.tale e lone numbers was (made_then before later e is)
      (λ x there r routed some gone parted. parted_over before later e is numbers gone (tidy_at before (e ∷ later) is) x.number x.taken r routed some parted))

  lapses_from : (before later : Log) → before ++ later ≡ log → LapsesAt before → (k : ℕ) → LapsesAt (before ++ take k later)
  lapses_from before later is was zero = subst LapsesAt (sym (append-nil before)) was
  lapses_from before [] is was (suc k) = subst LapsesAt (sym (append-nil before)) was
  lapses_from before (e ∷ later) is was (suc k) =
      subst LapsesAt (append_assoc before (e ∷ []) (take k later))
      (lapses_from (before ++ e ∷ []) later (append_assoc before (e ∷ []) later ∙ is) (lapses_next before later e is was) k)

  pub lapses_at : AtEachMoment LapsesAt log
  lapses_at n = lapses_from [] log refl tt n
