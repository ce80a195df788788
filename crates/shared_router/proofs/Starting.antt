-- What begins as it is wished is told as that question.
use Rattle.std.specs.Prelude.{◌≡◌, ℕ, true, false, not, ◌&&◌, is_some, if◌then◌else◌, unwrap_or, List, [], ◌∷◌, Option, Some, None}
use Rattle.std.specs.Option.{option_map_or}
use Rattle.std.proofs.Common.{refl, sym, ap, ◌∙◌, subst}
use Rattle.std.proofs.lemmas.Bool.{eq-eqb}
use Rattle.mx_base.specs.declared.names.LinkId.{LinkId}
use Rattle.mx_base.specs.declared.tag.Tag.{Tag}
use Rattle.mx_base.specs.declared.tag.Tag.TheVariants as tags
use Rattle.private_model.proofs.Maps.{name_of as named}
use Rattle.private_model.specs.Commands.{Command, FieldList, InitDb, Prepare, Query, Quit, ReadId, Reset, Run, SetId}
use Rattle.private_model.specs.Names.{Hostgroup, SessionName}
use Rattle.private_model.specs.Story.{Broke, Capture, Due, End, Happening, Own, Prep, Question, Sent, Statement, Sync, Unprepared, command_of, is_name, message_of}
use Rattle.private_model.specs.View.{Carried, Link, Setup, View, present, session_in}
use Rattle.server_rule.specs.Servers.{is_some_of}
use Rattle.log_story.specs.Plan.{Asks, Closes, Plan, Resets, Route, StepText, own_at}
use Rattle.log_story.specs.Servers.{due_in, ended_by, is_quiet, of_due, or_broke, quits_for}
use Rattle.log_story.specs.Tale.{view_of}
use Rattle.tale_world.specs.Decided.{Agrees}
use Rattle.tale_world.specs.Deciding.{World}
use Rattle.tale_world.specs.Tests.{has_due, may_begin_question, may_state}
use Rattle.tale_world.specs.Wishes.{Says, Sends, Wish, before_question}
use Rattle.tale_world.proofs.Agreeing.{same_own}
use Rattle.router_promises.specs.Closes.{has_bytes}
use Rattle.shared_router.specs.Fixed.{Fixed, setup_of}
use Rattle.shared_router.specs.Known.{Known, known}
use Rattle.shared_router.specs.Lends.{readied_now}
use Rattle.shared_router.specs.More.{More}
use Rattle.shared_router.specs.Wishes.{is_present, kept_due, ordinal_due, standing_on, tag_of, texts, wish_step, wish_tag}
use Rattle.shared_router.proofs.Beginning.{Captures, Ends, ForJoined, ForLent, ForWaiter, IsForm, Preparing, Stating, Stepping, Wished, carried_wished, isnt, left_of, right_of, says_mute}
use Rattle.shared_router.proofs.Decidedly.{AreDecided, GoesTo}
use Rattle.shared_router.proofs.Readying.{readied_waits}
use Rattle.shared_router.proofs.Speaking.{by_step, tells, told_of}
use Rattle.shared_router.proofs.Spelling.{is_mute}
use Rattle.shared_router.proofs.Wished.{IsPlainStep, IsRight, question_right}
use Rattle.shared_router.proofs.Wishing.{IsWished, Stands, kept_at, readied_at, unanswered}

none_read : (bytes : List ℕ) → has_bytes bytes ≡ false → is_some_of bytes ≡ false
none_read [] is = refl
none_read (byte ∷ bytes) is = absurd (cc)

module _ (fixed : Fixed) (w : World More) (plan : Plan) (link : LinkId) (bytes : List ℕ) where
  abbrev setup : Setup
  setup = setup_of fixed

  abbrev view : View
  view = view_of setup w.tale

  abbrev there : Link
  there = view.links link

  abbrev Tells : Tag → StepText → Question → Type 0
  Tells tag step question = by_step fixed w plan link bytes tag step ≡ Sent link question ∷ []

  -- but for a QUIT what was read breaks it
  pub unbroken : (tag : Tag) (step : StepText) (question : Question) → is_some_of (w.tale.wires link).unread ≡ false → Tells tag step question
      → tells fixed w plan link bytes tag step ≡ Sent link question ∷ []
  unbroken tag step question read is =
      ap (λ b. if b && not (quits_for tag step) then Broke ∷ [] else by_step fixed w plan link bytes tag step) read ∙ is

  pub own-begun : (command : Command) → IsPlainStep command → Tells tags.Own (Asks command) (Own command)
  own-begun Quit plain = absurd plain
  own-begun (Query text) plain = refl
  own-begun (InitDb text) plain = refl
  own-begun (FieldList text) plain = refl
  own-begun (SetId n) plain = refl
  own-begun ReadId plain = refl
  own-begun (Prepare text) plain = refl
  own-begun (Run text schema settings args) plain = refl
  own-begun Reset plain = refl

  pub sync-begun : (n : SessionName) (command : Command) → present view n.client n.hostgroup ≡ n → Tells (tags.Sync n.client n.hostgroup) (Asks command) (Sync n command)
  sync-begun n command is = ap (λ (m : SessionName). Sent link (Sync m command) ∷ []) is

  pub ended-begun : (n : SessionName) (step : StepText) → session_in there.carries ≡ Some n → Tells (tags.End n.client n.hostgroup) step (ended_by view n)
  ended-begun n step carried = ap (λ (o : Option SessionName). Sent link (ended_by view (unwrap_or o (present view n.client n.hostgroup))) ∷ []) carried

  -- what is due in a present session, and isn't answered

  module _ (n : SessionName) (due : Due) (at : view.dues n ≡ Some due) (present_so : present view n.client n.hostgroup ≡ n) (goes : GoesTo w.decided (message_of n due) n.hostgroup)
      (agrees : Agrees w.decided w.tale.moment plan) (unanswered : own_at plan w.tale.moment (message_of n due) ≡ None) where
    abbrev asked_by : (SessionName → Due → Question) → Option Route → List Happening
    asked_by question o =
        or_broke (λ (route : Route). let m = present view n.client route.hostgroup in of_due plan w.tale.moment view link due.ordinal m (question m)) o

    found : due_in plan w.tale.moment due.ordinal n (view.dues n) ≡ Some due
    found =
        ap (due_in plan w.tale.moment due.ordinal n) at
        ∙ ap (λ b. if b && not (is_some (own_at plan w.tale.moment (message_of n due))) then Some due else None) (eq-eqb due.ordinal due.ordinal refl)
        ∙ ap (λ o. if not (is_some o) then Some due else None) unanswered

    asked : (question : SessionName → Due → Question) → asked_by question (plan.routes (message_of n due)) ≡ Sent link (question n due) ∷ []
    asked question =
        ap (asked_by question) (agrees.routes (message_of n due) (Some goes.route) goes.routed)
        ∙ ap (λ (h : Hostgroup). of_due plan w.tale.moment view link due.ordinal (present view n.client h) (question (present view n.client h))) goes.there
        ∙ ap (λ (m : SessionName). of_due plan w.tale.moment view link due.ordinal m (question m)) present_so
        ∙ ap (λ (o : Option Due). or_broke (λ (d : Due). Sent link (question n d) ∷ []) o) found

    pub statement-begun : Tells (tags.For n.client due.ordinal) (Asks due.command) (Statement n due)
    statement-begun = asked Statement

    pub prep-begun : (step : StepText) → Tells (tags.Prep n.client due.ordinal) step (Prep n due.key (setup.keys due.key).text)
    prep-begun step = asked (λ (m : SessionName) (d : Due). Prep m d.key (setup.keys d.key).text)

  -- So it is of whatever is wished.

  abbrev k : Known
  k = known fixed w

  -- a statement that may begin is of the present session
  state_present : (n : SessionName) (due : Due) → may_begin_question setup view there (Statement n due) ≡ true → present view n.client n.hostgroup ≡ n
  state_present n due may =
      let stated : may_state setup view n due there ≡ true = right_of (is_quiet there.stage) _ (right_of there.usable _ may) in
      sym (named n (present view n.client n.hostgroup)
      (left_of (is_name n (present view n.client n.hostgroup)) _ (right_of (not (is_some (view.carriers (message_of n due)))) _ (right_of (has_due view n due) _ stated))))

  module _ (decided : AreDecided w.decided view) (agrees : Agrees w.decided w.tale.moment plan) where
    abbrev May : Question → Type 0
    May question = may_begin_question setup view there question ≡ true

    abbrev Told : Question → Type 0
    Told question = Tells (tag_of k question) (Asks (command_of question)) question

    not_answered : (n : SessionName) (due : Due) → Stands k n due → own_at plan w.tale.moment (message_of n due) ≡ None
    not_answered n due stands =
        let goes = decided.due n due stands.at in
        sym (same_own w.decided w.tale.moment plan agrees (message_of n due) goes.own goes.looked) ∙ unanswered k n due stands

    prep_told : (n : SessionName) (due : Due) → Stands k n due → is_present k (Prep n due.key (setup.keys due.key).text) ≡ true → Told (Prep n due.key (setup.keys due.key).text)
    prep_told n due stands here =
        let command = command_of (Prep n due.key (setup.keys due.key).text) in
        ap (λ i. by_step fixed w plan link bytes (tags.Prep n.client i) (Asks command)) (ap ordinal_due stands.at)
        ∙ prep-begun n due stands.at (sym (named n (present view n.client n.hostgroup) here)) (decided.due n due stands.at) agrees (not_answered n due stands) (Asks command)

    state_told : (n : SessionName) (due : Due) → Stands k n due → May (Statement n due) → Told (Statement n due)
    state_told n due stands may = statement-begun n due stands.at (state_present n due may) (decided.due n due stands.at) agrees (not_answered n due stands)

    abbrev Right : Question → Type 0
    Right = IsRight texts fixed.ids setup (kept_due k) there.carries

    own_told : (n : SessionName) (due : Due) → Stands k n due → (question : Question) → IsForm setup n due Own question → Right question → May question → is_present k question ≡ true
        → Told question
    own_told n due stands question (Stepping command) plain may here = own-begun command plain
    own_told n due stands question Preparing plain may here = prep_told n due stands here
    own_told n due stands question Stating plain may here = state_told n due stands may

    sync_told : (n : SessionName) (due : Due) → Stands k n due → present view n.client n.hostgroup ≡ n → (question : Question) → IsForm setup n due (Sync n) question
        → May question → is_present k question ≡ true → Told question
    sync_told n due stands stays question (Stepping command) may here = sync-begun n command stays
    sync_told n due stands stays question Preparing may here = prep_told n due stands here
    sync_told n due stands stays question Stating may here = state_told n due stands may

    wished_told : (c : Carried) (question : Question) → there.carries ≡ c → Wished setup (kept_due k) (readied_now k link) c question → Right question → May question
        → is_present k question ≡ true → Told question
    wished_told c question carried (ForWaiter r q is form) plain may here = own_told r.name r.due (readied_at k r (readied_waits k link r is)) q form plain may here
    wished_told c question carried (ForLent n due q at form) plain may here = own_told n due (kept_at k n due at) q form plain may here
    wished_told c question carried (ForJoined n due q stays at form) plain may here =
        sync_told n due (kept_at k n due at) (sym (named n (present view n.client n.hostgroup) stays)) q form may here
    wished_told c question carried (Captures n stays) plain may here =
        ended-begun n (Asks (command_of (Capture n))) (ap session_in carried) ∙ ap (λ b. Sent link (if b then Capture n else End n) ∷ []) stays
    wished_told c question carried (Ends n left) plain may here =
        ended-begun n (Asks (command_of (End n))) (ap session_in carried) ∙ ap (λ b. Sent link (if b then Capture n else End n) ∷ []) left

    text_told : (text : StepText) → is_mute (Some text) ≡ true → is_some_of (w.tale.wires link).unread ≡ false → tells fixed w plan link bytes tags.Own text ≡ told_of link (Says text)
    text_told (Asks command) mute read = isnt mute
    text_told (Closes number) mute read = ap (λ b. if b && true then Broke ∷ [] else Unprepared link number ∷ []) read
    text_told (Resets number) mute read = ap (λ b. if b && true then Broke ∷ [] else []) read

    pub wish_told : (wish : Wish) → IsWished k link wish → tells fixed w plan link bytes (wish_tag k wish) (wish_step wish) ≡ told_of link wish
    wish_told wish is = subst AsTold is.is (asked (before_question there (standing_on k link) is.question) refl) where
      AsTold : Wish → Type 0
      AsTold x = tells fixed w plan link bytes (wish_tag k x) (wish_step x) ≡ told_of link x

      read : is_some_of (w.tale.wires link).unread ≡ false
      read = none_read (w.tale.wires link).unread is.read

      asked : (o : Option StepText) → before_question there (standing_on k link) is.question ≡ o → AsTold (option_map_or (λ text. Says text) o (Sends is.question))
      asked None at =
          unbroken (tag_of k is.question) (Asks (command_of is.question)) is.question read
          (wished_told there.carries is.question refl (carried_wished fixed.ids setup (kept_due k) (readied_now k link) is.question there there.carries is.asks)
          (question_right texts fixed.ids setup (kept_due k) there (readied_now k link) is.question is.asks) is.may is.present)
      asked (Some text) at = text_told text (says_mute there (standing_on k link) is.question text at) read
