-- What our router sends to servers is due, takes back what was done, or is said for a cause.
use Rattle.std.specs.Prelude.{◌≡◌, ◌&&◌, ◌<◌, ℕ, Bool, true, false, not, fold, is_some, length, nat_eq, if◌then◌else◌, List, [], ◌∷◌, ◌++◌, Option, Some, None}
use Rattle.std.specs.Option.{option_map_or}
use Rattle.std.proofs.Common.{refl, sym, ap, ◌∙◌, subst, append_assoc}
use Rattle.mx_base.specs.declared.names.LinkId.{LinkId}
use Rattle.mx_base.specs.declared.tag.Tag.{Tag}
use Rattle.mx_base.specs.declared.tag.Tag.TheVariants as tags
use Rattle.mx_wire.specs.Log.{Log}
use Rattle.mx_wire.specs.Moments.{LawfulAfter, lawful-more}
use Rattle.mx_wire.specs.Tells.{Fits}
use Rattle.mx_wire.specs.declared.entry.Entry.{Entry}
use Rattle.mx_wire.specs.declared.entry.Entry.TheVariants as entry
use Rattle.private_model.proofs.Maps.{link_of}
use Rattle.private_model.specs.Commands.{Command, FieldList, InitDb, Prepare, Query, Quit, ReadId, Reset, Run, SetId}
use Rattle.private_model.specs.Names.{ClientNo, SessionName}
use Rattle.private_model.specs.Story.{Broke, Capture, Due, End, Happening, Own, Prep, Question, Sent, Statement, Sync, is_link_id, message_of}
use Rattle.private_model.specs.View.{Setup, View, present}
use Rattle.server_rule.specs.Servers.{is_some_of}
use Rattle.log_story.specs.Plan.{Asks, Closes, Plan, Resets, Route, StepText, own_at}
use Rattle.log_story.specs.Servers.{begun_by, begun_on, due_in, may_begin, of_due, or_broke, quits_for}
use Rattle.log_story.specs.Tale.{Tale, first_tale, is_to_server, view_of}
use Rattle.log_story.specs.Telling.{tale_step}
use Rattle.tale_world.specs.Deciding.{World}
use Rattle.tale_world.specs.Tested.{IsTestedFrom, Passes}
use Rattle.tale_world.specs.Tests.{may_tell}
use Rattle.tale_world.specs.Wishes.{Says, Sends, Wish}
use Rattle.router_promises.specs.Closes.{MayQuit, is_past_reset}
use Rattle.router_promises.specs.Dues.{is_due, is_kept_due}
use Rattle.router_promises.specs.Now.{Now, now_at, wire_now}
use Rattle.router_promises.specs.Steps.{is_for_due}
use Rattle.router_promises.specs.Terms.{Terms, plan_in, setup_in, tale_at}
use Rattle.shared_router.specs.Fixed.{Fixed, IsNumbered, setup_of}
use Rattle.shared_router.specs.Known.{Known, known, link_by, setup_by}
use Rattle.shared_router.specs.Lends.{readied_now}
use Rattle.shared_router.specs.More.{More, now_of}
use Rattle.shared_router.specs.Ours.{IsOurs}
use Rattle.shared_router.specs.Owed.{close_by, closes}
use Rattle.shared_router.specs.Sends.{MaySay, SendsAs, SendsFor, SendsSo}
use Rattle.shared_router.specs.Shared.{final_terms, world_at}
use Rattle.shared_router.specs.Wishes.{kept_due, standing_on, tag_of, texts, wish_on, wish_step, wish_tag}
use Rattle.shared_router.proofs.Closing.{closed_so, untold_so}
use Rattle.shared_router.proofs.Keeping.{tested}
use Rattle.shared_router.proofs.Lasting.{alike_at}
use Rattle.shared_router.proofs.Parting.{tale_then}
use Rattle.shared_router.proofs.Same.{now_is, now_same}
use Rattle.shared_router.proofs.Staying.{log_at}
use Rattle.shared_router.proofs.Stepping.{AreBegun, begun_then, first_begun}
use Rattle.shared_router.proofs.Passing.{Begun, Parts, Wishes, begun_so}
use Rattle.shared_router.proofs.Tagging.{step_is}
use Rattle.shared_router.proofs.Wished.{IsPlainStep, IsRight, IsRightWish, question_right, wish_right}
use Rattle.shared_router.proofs.Wishing.{IsWished, wished}

isnt : {A : Type 0} → false ≡ true → A
isnt is = absurd (cc)

-- A statement is sent while it is due: else it were a breach.

module _ (t : Terms) (now : Now) (link : LinkId) (client : ClientNo) (ordinal : ℕ) where
  abbrev setup : Setup
  setup = setup_in t

  abbrev plan : Plan
  plan = plan_in t

  abbrev view : View
  view = view_of setup now.tale

  abbrev Tells : List Happening → Type 0
  Tells happenings = may_tell setup happenings now.tale.story ≡ true

  broken : {A : Type 0} → Tells (Broke ∷ []) → A
  broken told = isnt told

  kept_so : (n : SessionName) (o : Option Due) → Tells (or_broke (λ due. Sent link (Statement n due) ∷ []) (due_in plan now.tale.moment ordinal n o))
      → is_kept_due t now.tale n o ≡ true
  kept_so n None told = broken told
  kept_so n (Some due) told = by_test (nat_eq due.ordinal ordinal) (is_some (own_at plan now.tale.moment (message_of n due))) told where
    by_test : (is gone : Bool) → Tells (or_broke (λ d. Sent link (Statement n d) ∷ []) (if is && not gone then Some due else None)) → not gone ≡ true
    by_test true true now_told = broken now_told
    by_test true false now_told = refl
    by_test false gone now_told = broken now_told

  route_so : (o : Option Route)
      → Tells (or_broke (λ (route : Route). of_due plan now.tale.moment view link ordinal (present view client route.hostgroup) (Statement (present view client route.hostgroup))) o)
      → option_map_or (λ (route : Route). is_due t now.tale (present view client route.hostgroup)) o false ≡ true
  route_so None told = broken told
  route_so (Some route) told = kept_so (present view client route.hostgroup) (view.dues (present view client route.hostgroup)) told

  begun_told : (b : Bool) (happenings : List Happening) → Tells (if b then Broke ∷ [] else happenings) → Tells happenings
  begun_told true happenings told = broken told
  begun_told false happenings told = told

  pub due_sent : Tells (begun_on setup plan now.tale.moment view link (now.tale.wires link) (tags.For client ordinal))
      → is_for_due t now (record { client = client; ordinal = ordinal }) ≡ true
  due_sent told =
      route_so (plan.routes (record { client = client; ordinal = ordinal }))
      (begun_told (is_some_of (now.tale.wires link).unread && not (quits_for (tags.For client ordinal) (plan.steps link (now.tale.wires link).begun)))
      (begun_by setup plan now.tale.moment view link (now.tale.wires link).begun (tags.For client ordinal)) told)

tested_at : (setup : Setup) (plan : Plan) (before later : Log) (e : Entry) (tale : Tale) → IsTestedFrom setup plan tale (before ++ e ∷ later)
    → Passes setup plan (fold (tale_step setup plan) tale before) e
tested_at s p [] later e tale is = is.0
tested_at s p (x ∷ before) later e tale is = tested_at s p before later e (tale_step s p tale x) is.1

-- By what is wished there.

module _ (k : Known) (link : LinkId) where
  abbrev IsGood : Question → Type 0
  IsGood = IsRight texts k.fixed.ids (setup_by k) (kept_due k) (link_by k link).carries

  wished_good : (wish : Wish) → wish_on k link ≡ Some wish → IsRightWish (link_by k link) (standing_on k link) IsGood wish
  wished_good wish is =
      let found : IsWished k link wish = wished k link wish is in
      subst (IsRightWish (link_by k link) (standing_on k link) IsGood) found.is
      (wish_right (link_by k link) (standing_on k link) IsGood found.question
      (question_right texts k.fixed.ids (setup_by k) (kept_due k) (link_by k link) (readied_now k link) found.question found.asks))

  module _ (t : Terms) (log : Log) (setups : setup_in t ≡ setup_by k) where
    plain_says : (command : Command) → IsPlainStep command → MaySay t log k.now link (Asks command)
    plain_says (Query bytes) plain = tt
    plain_says (InitDb schema) plain = tt
    plain_says (FieldList rest) plain = tt
    plain_says (SetId n) plain = tt
    plain_says ReadId plain = tt
    plain_says (Prepare bytes) plain = tt
    plain_says (Run bytes schema settings args) plain = tt
    plain_says Reset plain = tt
    plain_says Quit plain = absurd plain

    -- all but statements
    abbrev Fine : Wish → Type 0
    Fine wish = (m : ClientNo) (ordinal : ℕ) → (wish_tag k wish ≡ tags.For m ordinal → is_for_due t k.now (record { client = m; ordinal = ordinal }) ≡ true)

    past_so : (b : Bool) → is_past_reset (setup_by k) k.now link ≡ b → is_past_reset (setup_in t) k.now link ≡ b
    past_so b is = ap (λ s. is_past_reset s k.now link) setups ∙ is

    question_sends : (q : Question) → IsGood q → Fine (Sends q) → SendsFor t log k.now link (wish_step (Sends q)) (tag_of k q)
    question_sends (Own command) good fine = plain_says command good
    question_sends (Sync n command) good fine = plain_says command good
    question_sends (Statement n due) good fine = fine n.client due.ordinal refl
    question_sends (Prep n key text) good fine = tt
    question_sends (End n) good fine = past_so false good
    question_sends (Capture n) good fine = past_so false good

    text_sends : (text : StepText) → IsRightWish (link_by k link) (standing_on k link) IsGood (Says text) → MaySay t log k.now link text
    text_sends (Asks command) long = absurd long
    text_sends (Closes number) long = tt
    text_sends (Resets number) long = long

    pub wish_sends : (wish : Wish) → wish_on k link ≡ Some wish → Fine wish → SendsFor t log k.now link (wish_step wish) (wish_tag k wish)
    wish_sends (Sends q) is fine = question_sends q (wished_good (Sends q) is) fine
    wish_sends (Says text) is fine = text_sends text (wished_good (Says text) is)

-- Along a log.

module _ (fixed : Fixed) (numbered : IsNumbered fixed) where
  module _ (before later : Log) (link : LinkId) (tag : Tag) (bytes : List ℕ) (so_far : LawfulAfter Fits [] before) (begun : AreBegun fixed (world_at fixed before)) where
    abbrev e : Entry
    e = entry.Wrote link tag bytes

    abbrev w : World More
    w = world_at fixed before

    abbrev k : Known
    k = known fixed w

    abbrev t : Terms
    t = final_terms fixed (before ++ e ∷ later)

    abbrev begins_there : Bool
    begins_there = may_begin (setup_in t) link (wire_now (now_at t before) link) (now_at t before).tale

    same : now_at t before ≡ now_of fixed w
    same = now_is fixed t before (now_same fixed numbered before (e ∷ later))

    module _ (fits : LawfulAfter Fits before (e ∷ later)) (passes : Passes (setup_of fixed) (plan_in t) (tale_at t before) e) (our : IsOurs fixed before e) where
      quit_so : closes k link ≡ true → (wire_now k.now link).quits ≡ false → is_to_server w.tale link ≡ true → MayQuit t before k.now link
      quit_so closing untold there = by_close (close_by k) refl closing where
        by_close : (o : Option LinkId) → close_by k ≡ o → option_map_or (is_link_id link) o false ≡ true → MayQuit t before k.now link
        by_close None at is = isnt is
        by_close (Some other) at is =
            subst (λ (l : Log). MayQuit t l k.now link) (log_at fixed before)
            (untold_so fixed w.more.log k.now w (world_at fixed (before ++ e ∷ later)) (alike_at fixed numbered before (e ∷ later) fits) link there
            (closed_so fixed numbered before link so_far (at ∙ ap (λ l. Some l) (sym (link_of link other is))) there) untold)

      sent_due : is_to_server w.tale link ≡ true → may_begin (setup_of fixed) link (w.tale.wires link) w.tale ≡ true
          → (client : ClientNo) (ordinal : ℕ) → tag ≡ tags.For client ordinal → is_for_due t k.now (record { client = client; ordinal = ordinal }) ≡ true
      sent_due there begins client ordinal is =
          let passed : Passes (setup_of fixed) (plan_in t) w.tale e = subst (λ (x : Tale). Passes (setup_of fixed) (plan_in t) x e) (tale_then fixed before (e ∷ later)) passes in
          due_sent t k.now link client ordinal
          (subst (λ for. may_tell (setup_of fixed) (begun_on (setup_of fixed) (plan_in t) w.tale.moment (view_of (setup_of fixed) w.tale) link (w.tale.wires link) for) w.tale.story ≡ true) is
          (passed there begins))

      by_begun : (step : StepText) → is_to_server w.tale link ≡ true → may_begin (setup_of fixed) link (w.tale.wires link) w.tale ≡ true
          → Begun k link tag step → SendsFor t before k.now link step tag
      by_begun step there begins (Parts closing untold asks own) =
          subst (λ s. SendsFor t before k.now link s tag) (sym asks) (subst (λ x. SendsFor t before k.now link (Asks Quit) x) (sym own) (quit_so closing untold there))
      by_begun step there begins (Wishes wish wished tagged asks) =
          subst (λ s. SendsFor t before k.now link s tag) (sym asks) (subst (λ x. SendsFor t before k.now link (wish_step wish) x) (sym tagged)
          (wish_sends k link t before refl wish wished (λ client ordinal is. sent_due there begins client ordinal (tagged ∙ is))))

      abbrev step : StepText
      step = (plan_in t).steps link (w.tale.wires link).begun

      here_so : is_to_server w.tale link ≡ true → may_begin (setup_of fixed) link (w.tale.wires link) w.tale ≡ true → SendsFor t before k.now link step tag
      here_so there begins =
          by_begun step there begins
          (begun_so k link tag bytes step fits.0.some
          (step_is fixed numbered before later link tag bytes begun there begins) our there begins)

      pub by_begins : is_to_server (now_at t before).tale link ≡ true → (b : Bool) → begins_there ≡ b → SendsAs t before (now_at t before) link tag b
      by_begins there false at = tt
      by_begins there true at =
          subst (λ (n : Now). SendsFor t before n link ((plan_in t).steps link (wire_now n link).begun) tag) (sym same)
          (here_so (ap (λ (n : Now). is_to_server n.tale link) (sym same) ∙ there)
          (ap (λ (n : Now). may_begin (setup_of fixed) link (wire_now n link) n.tale) (sym same) ∙ at))

  sends_by : (before later : Log) (e : Entry) → LawfulAfter Fits [] before → LawfulAfter Fits before (e ∷ later) → AreBegun fixed (world_at fixed before)
      → Passes (setup_of fixed) (plan_in (final_terms fixed (before ++ e ∷ later))) (tale_at (final_terms fixed (before ++ e ∷ later)) before) e
      → IsOurs fixed before e → SendsSo (final_terms fixed (before ++ e ∷ later)) before e
  sends_by before later (entry.Wrote link tag bytes) so_far fits begun passes our = λ there.
      by_begins before later link tag bytes so_far begun fits passes our there (begins_there before later link tag bytes so_far begun) refl
  sends_by before later _ so_far fits begun passes our = tt

  sends_from : (before later log : Log) → before ++ later ≡ log → LawfulAfter Fits [] before → LawfulAfter Fits before later → AreBegun fixed (world_at fixed before)
      → IsTestedFrom (setup_of fixed) (plan_in (final_terms fixed log)) first_tale log
      → LawfulAfter (IsOurs fixed) before later → LawfulAfter (SendsSo (final_terms fixed log)) before later
  sends_from before [] log is so_far fits begun tests our = tt
  sends_from before (e ∷ later) log is so_far fits begun tests our = (
    subst (λ l. SendsSo (final_terms fixed l) before e) is
        (sends_by before later e so_far fits begun
        (tested_at (setup_of fixed) (plan_in (final_terms fixed (before ++ e ∷ later))) before later e first_tale
        (subst (λ l. IsTestedFrom (setup_of fixed) (plan_in (final_terms fixed l)) first_tale l) (sym is) tests)) our.0),
    sends_from (before ++ e ∷ []) later log (append_assoc before (e ∷ []) later ∙ is) (lawful-more Fits before e so_far fits.0) fits.1
        (begun_then fixed before e fits.0 begun) tests our.1,
  )

  pub sends_kept : (log : Log) → length log < 18446744073709551616 → LawfulAfter (IsOurs fixed) [] log → LawfulAfter Fits [] log → LawfulAfter (SendsSo (final_terms fixed log)) [] log
  sends_kept log small our fits = sends_from [] log log refl tt fits (first_begun fixed) (tested fixed log small our fits) our
