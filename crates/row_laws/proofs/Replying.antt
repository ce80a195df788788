-- A row stands for its link in a tale as bytes of an answer are read there.
use Rattle.std.specs.Prelude.{◌≡◌, ◌<◌, ℕ, ◌-◌, Bool, true, false, not, if◌then◌else◌, List, [], length, take, Option, Some, None}
use Rattle.std.proofs.Common.{refl, sym, ap, ◌∙◌, subst}
use Rattle.std.proofs.lemmas.Bool.{false≢true, true≢false}
use Rattle.std.proofs.lemmas.Option.{none-some}
use Rattle.mx_base.specs.Fields.{AreBytes}
use Rattle.reply_track.proofs.Replying.{SameEnd}
use Rattle.reply_track.specs.Replying.{payloads_in}
use Rattle.reply_track.specs.Runs.{Ending, renumbered, run}
use Rattle.reply_track.specs.Runs.Ending.{Going, Ended, Failed}
use Rattle.reply_track.specs.declared.place.State.{State}
use Rattle.reply_track.specs.declared.reply.ReplyEnd as track_end
use Rattle.reply_track.specs.declared.reply.ReplyKind.{ReplyKind}
use Rattle.reply_track.specs.declared.reply.ReplyKind.TheVariants as kinds
use Rattle.session_state.specs.declared.reply_end.ReplyEnd.{ReplyEnd}
use Rattle.server_side.specs.Account.{Account as Login}
use Rattle.server_side.specs.Login.{opening}
use Rattle.private_model.specs.Commands.{Reply}
use Rattle.private_model.specs.Names.{LinkId, SessionName}
use Rattle.private_model.specs.Story.{Heard, Question}
use Rattle.private_model.specs.View as view
use Rattle.private_model.specs.View.{Link, Setup, View, ran_by, view_heard, view_step}
use Rattle.log_story.specs.Plan.{Plan}
use Rattle.log_story.specs.Servers as servers
use Rattle.log_story.specs.Servers.{entered_by, heard_by, hears, read_as, reply_id, reads_on, reply_in, reset_by, runs_first, with_run}
use Rattle.log_story.specs.Tale.{Tale, Wire, is_reset_step, tell, view_of, with_wire}
use Rattle.log_story.specs.Telling.{server_says, wire_with}
use Rattle.link_state.specs.Asks.{kind_of}
use Rattle.link_state.specs.Dones.{is_quiet}
use Rattle.link_state.specs.States as states
use Rattle.link_state.specs.States.{answered_in}
use Rattle.link_state.specs.declared.asking.Asking.{Asking}
use Rattle.link_state.specs.declared.state.Stage.{Stage}
use Rattle.link_state.specs.declared.state.Stage.TheVariants.{Quiet, Asked, Answered}
use Rattle.link_laws.specs.Stands.{AreApart, Codes}
use Rattle.lent_link.specs.Hears.{expecting, expecting_at, expecting_by, expecting_if, followed}
use Rattle.lent_link.specs.Reads.{end_of as code_end, taken_by, walked}
use Rattle.lent_link.specs.Rests.{is_resetting}
use Rattle.lent_link.specs.declared.link.LentLink.{LentLink}
use Rattle.lent_link.specs.declared.link.Step.{Step}
use Rattle.lent_link.specs.declared.link.Step.TheVariants.{Other, Closes, Resets}
use Rattle.lent_link.specs.declared.reading.Reading.{Reading}
use Rattle.lent_link.specs.declared.reading.Took.TheVariants as took
use Rattle.served_link.specs.Hears as code
use Rattle.served_link.specs.Hears.{link_in as code_link, made_in, noted_if, number_read, row_by as code_row, seen as cell_seen, took_in}
use Rattle.served_link.specs.declared.row.Row.{Row}
use Rattle.row_laws.specs.Reads.{IsNumbered}
use Rattle.row_laws.specs.Rows.{IsRow, IsRowIn, Serves, is_asked}
use Rattle.row_laws.specs.Unread.{IsDry, IsNumberFor, IsUnreadBy, kind_answered}
use Rattle.row_laws.proofs.Beginning.{law_quiet, resets_as}
use Rattle.row_laws.proofs.Expecting.{expect_so}
use Rattle.row_laws.proofs.Framing.{same_parts}
use Rattle.row_laws.proofs.Hearing.{IsAnswered, IsHeardIn, answer_so, answered_so, answering, fails_so, goes_so, law_end, nobody_asked, reset_kind, reset_so, resets_other, step_plain, step_reset}
use Rattle.row_laws.proofs.Opening.{put_there, row_by, serves_in, serves_on}
use Rattle.row_laws.proofs.Seeing.{quiet_same}
use Rattle.row_laws.proofs.Taking.{ended_same}

-- The law's end, where code has one.

going_is : (f : Ending) (state : State) → SameEnd (Going state) f → (s : State) × (f ≡ Going s)
going_is (Going s) state same = (s, refl)
going_is (Ended e r) state same = absurd same
going_is (Failed r) state same = absurd same

failed_is : (f : Ending) (rest : List ℕ) → SameEnd (Failed rest) f → f ≡ Failed rest
failed_is (Failed r) rest same = ap (λ (xs : List ℕ). Failed xs) (sym same)
failed_is (Going s) rest same = absurd same
failed_is (Ended e r) rest same = absurd same

-- Where no reply is under way once bytes come, none is due.

pub record IsUndue (link : LentLink) : Type 0 where
  pub none : link.reading ≡ None
  pub plain : is_resetting link.step ≡ false
  pub unasked : is_asked link.state.stage ≡ false
  pub same : expecting link ≡ link

undue_stage : (link : LentLink) (stage : Stage) → link.state.stage ≡ stage → link.reading ≡ None → is_resetting link.step ≡ false
    → expecting link ≡ expecting_at stage link → (expecting_at stage link).reading ≡ None → IsUndue link
undue_stage link Quiet same none plain is due = record { none = none; plain = plain; unasked = ap is_asked same; same = is }
undue_stage link (Answered asking) same none plain is due = record { none = none; plain = plain; unasked = ap is_asked same; same = is }
undue_stage link (Asked asking) same none plain is due = absurd (cc)

undue_step : (link : LentLink) (step : Step) → link.step ≡ step → link.reading ≡ None → expecting link ≡ expecting_by step link
    → (expecting_by step link).reading ≡ None → IsUndue link
undue_step link (Resets number) same none is due = absurd (cc)
undue_step link Other same none is due = undue_stage link link.state.stage refl none (ap is_resetting same) is due
undue_step link (Closes number) same none is due = undue_stage link link.state.stage refl none (ap is_resetting same) is due

undue : (link : LentLink) (reading : Option Reading) → link.reading ≡ reading → (expecting_if reading link).reading ≡ None → IsUndue link
undue link None same due =
    undue_step link link.step refl same (ap (λ (r : Option Reading). expecting_if r link) same) due
undue link (Some r) same due = absurd (none-some r (sym due ∙ same))

-- as a reply is awaited, the step stays, and whether the link is spoilt

pub record IsExpected (old new : LentLink) : Type 0 where
  pub step : new.step ≡ old.step
  pub spoilt : new.spoilt ≡ old.spoilt
  pub server : new.server ≡ old.server

expected_stage : (link : LentLink) (stage : Stage) → IsExpected link (expecting_at stage link)
expected_stage link Quiet = record { step = refl; spoilt = refl; server = refl }
expected_stage link (Asked asking) = record { step = refl; spoilt = refl; server = refl }
expected_stage link (Answered asking) = record { step = refl; spoilt = refl; server = refl }

expected_step : (link : LentLink) (step : Step) → IsExpected link (expecting_by step link)
expected_step link (Resets number) = record { step = refl; spoilt = refl; server = refl }
expected_step link Other = expected_stage link link.state.stage
expected_step link (Closes number) = expected_stage link link.state.stage

expected_if : (link : LentLink) (reading : Option Reading) → IsExpected link (expecting_if reading link)
expected_if link None = expected_step link link.step
expected_if link (Some r) = record { step = refl; spoilt = refl; server = refl }

expected : (link : LentLink) → IsExpected link (expecting link)
expected link = expected_if link link.reading

-- what is noted of an answer isn't of the link
noted_link : (asking : Option Asking) (end : ReplyEnd) (number : Option ℕ) (row : Row) → (noted_if asking end number row).link ≡ row.link
noted_link None end number row = refl
noted_link (Some asking) end number row = refl

quiet_stage : (stage : Stage) → is_asked stage ≡ false → kind_answered stage ≡ None → is_quiet stage ≡ true
quiet_stage Quiet unasked unanswered = refl
quiet_stage (Asked asking) unasked unanswered = absurd (true≢false unasked)
quiet_stage (Answered asking) unasked unanswered = absurd (none-some (kind_of asking.form) (sym unanswered))

-- What the law knows as a question runs: the link's, and of sessions and of what passed on the wire what it knew.

pub record IsRunning (setup : Setup) (tale : Tale) (l : LinkId) (new : Tale) : Type 0 where
  pub link_so : (view_of setup new).links l
      ≡ ran_by setup.reads ((view_of setup tale).links l).stage ((view_of setup tale).links l)
  pub wires_so : new.wires ≡ tale.wires
  pub lives : (n : SessionName) → (view_of setup new).lives n.client n.hostgroup ≡ (view_of setup tale).lives n.client n.hostgroup
  pub held : (view_of setup new).held ≡ (view_of setup tale).held
  pub lasting : (n : SessionName) → (view_of setup new).lasting n ≡ (view_of setup tale).lasting n

running : (setup : Setup) (tale : Tale) (l : LinkId) (there : view.Stage) → ((view_of setup tale).links l).stage ≡ there
    → IsRunning setup tale l (runs_first there l tale)
running setup tale l (view.Asked question) same = record {
  link_so = put_there (view_of setup tale).links l (ran_by setup.reads ((view_of setup tale).links l).stage ((view_of setup tale).links l));
  wires_so = refl;
  lives = λ n. refl;
  held = refl;
  lasting = λ n. refl;
}
running setup tale l view.Quiet same = record {
  link_so = ap (λ (there : view.Stage). ran_by setup.reads there ((view_of setup tale).links l)) (sym same);
  wires_so = refl;
  lives = λ n. refl;
  held = refl;
  lasting = λ n. refl;
}
running setup tale l (view.Answered question) same = record {
  link_so = ap (λ (there : view.Stage). ran_by setup.reads there ((view_of setup tale).links l)) (sym same);
  wires_so = refl;
  lives = λ n. refl;
  held = refl;
  lasting = λ n. refl;
}

module _ (setup : Setup) (codes : Codes) (plan : Plan) (tale : Tale) (l : LinkId) (row : Row) (bytes : List ℕ)
    (stands_row : IsRowIn setup codes plan tale l row) (entered : (tale.wires l).entered ≡ true) (fine : row.link.spoilt ≡ false)
    (are_bytes : AreBytes bytes) (some : 0 < length bytes) where
  abbrev login : Login
  login = plan.logins l

  abbrev wire : Wire
  wire = tale.wires l

  abbrev seen : View
  seen = view_of setup tale

  abbrev link : Link
  link = seen.links l

  abbrev fed : Wire
  fed = wire_with tale l bytes

  stands : Serves setup.reads codes login seen row wire link
  stands = serves_in setup.reads codes login seen row wire link entered stands_row

  abbrev ran_tale : Tale
  ran_tale = with_run setup l tale

  abbrev ran_seen : View
  ran_seen = view_of setup ran_tale

  abbrev ran_link : Link
  ran_link = ran_by setup.reads link.stage link

  ran_is : IsRunning setup tale l ran_tale
  ran_is = running setup tale l link.stage refl

  abbrev row_due : Row
  row_due = record row { link = expecting row.link }

  due_stands : Serves setup.reads codes login seen row_due wire ran_link
  due_stands = expect_so setup.reads codes login seen row wire link stands fine

  -- the tale behind the bytes, and what stands in it

  abbrev fed_tale : Tale
  fed_tale = with_wire l fed ran_tale

  serves_ran : (r : Row) (w : Wire) (there : Link) → Serves setup.reads codes login seen r w there → Serves setup.reads codes login ran_seen r w there
  serves_ran r w there is =
      serves_on setup.reads codes login seen ran_seen r w there
      (λ n carried. same_parts seen ran_seen n r.left (ran_is.lives n) (ap (λ (of : SessionName → view.Held). (of n).pin) ran_is.held) (ap (λ (of : SessionName → view.Held). (of n).id) ran_is.held)
      (ran_is.lasting n)) is

  -- a row that stands for the link with its new wire does so in the tale
  in_tale : (r : Row) (w : Wire) → w.entered ≡ true → w.server ≡ r.link.server → Serves setup.reads codes login seen r w ran_link
      → IsRowIn setup codes plan (with_wire l w ran_tale) l r
  in_tale r w there server is =
      subst (λ (x : Wire). IsRow setup.reads codes login ran_seen r x (ran_seen.links l)) (sym (put_there ran_tale.wires l w))
      (subst (λ (k : Link). IsRow setup.reads codes login ran_seen r w k) (sym ran_is.link_so)
      (row_by setup.reads codes login ran_seen r w ran_link there server (serves_ran r w ran_link is)))

  -- What the law makes of them.

  not_in : not wire.entered ≡ false
  not_in = ap not entered

  abbrev goal_tale : Tale
  goal_tale = server_says setup plan l bytes tale

  says_reset : is_reset_step wire.step ≡ true → goal_tale ≡ reset_by l fed (read_as kinds.Command fed) tale
  says_reset resets =
      ap (λ (is : Bool). if is then entered_by plan l fed (opening (plan.logins l) fed.unread) tale
      else if is_reset_step wire.step then reset_by l fed (read_as kinds.Command fed) tale else reads_on setup l fed tale) not_in
      ∙ ap (λ (is : Bool). if is then reset_by l fed (read_as kinds.Command fed) tale else reads_on setup l fed tale) resets

  says_read : is_reset_step wire.step ≡ false → goal_tale ≡ hears l fed (ran_seen.links l).stage ran_tale
  says_read plain =
      ap (λ (is : Bool). if is then entered_by plan l fed (opening (plan.logins l) fed.unread) tale
      else if is_reset_step wire.step then reset_by l fed (read_as kinds.Command fed) tale else reads_on setup l fed tale) not_in
      ∙ ap (λ (is : Bool). if is then reset_by l fed (read_as kinds.Command fed) tale else reads_on setup l fed tale) plain

  kept : IsExpected row.link (expecting row.link)
  kept = expected row.link

  same_server : fed.server ≡ (expecting row.link).server
  same_server = stands_row.server ∙ sym kept.server

  -- a STMT_RESET stands on a quiet link, which doesn't run
  reset_tale : is_resetting row_due.link.step ≡ true → ran_tale ≡ tale
  reset_tale resets = by link.stage (law_quiet link.stage quiet) where
    quiet : servers.is_quiet link.stage ≡ true
    quiet = sym (quiet_same setup.reads codes row.link.state link stands.state) ∙ stands.stepless (resets_other row.link.step (sym (ap is_resetting kept.step) ∙ resets))

    by : (there : view.Stage) → there ≡ view.Quiet → runs_first there l tale ≡ tale
    by view.Quiet same = refl
    by (view.Asked question) same = absurd (false≢true (ap servers.is_quiet same))
    by (view.Answered question) same = absurd (false≢true (ap servers.is_quiet same))

  -- Nobody asked.

  pub unasked_so : (expecting row.link).reading ≡ None → IsRowIn setup codes plan goal_tale l (code.heard bytes row)
  unasked_so due =
      let none : IsUndue row.link = undue row.link row.link.reading refl due in
      let plain : is_reset_step wire.step ≡ false = step_plain row.link.step wire.step none.plain stands.step in
      let over : Serves setup.reads codes login seen (record row_due { link = record (expecting row.link) { spoilt = true } }) fed ran_link =
      nobody_asked setup.reads codes login seen row_due wire ran_link due_stands (ap (λ (at : LentLink). at.spoilt) none.same ∙ fine) bytes due
      (ap (λ (at : LentLink). is_resetting at.step) none.same ∙ none.plain) (ap (λ (at : LentLink). is_asked at.state.stage) none.same ∙ none.unasked) some in
      subst (λ (reading : Option Reading). IsRowIn setup codes plan goal_tale l
      (code_row (took_in reading bytes) (made_in reading bytes) (record row { link = code_link reading bytes (expecting row.link) }))) (sym due)
      (subst (λ (t : Tale). IsRowIn setup codes plan t l (record row { link = record (expecting row.link) { spoilt = true } }))
      (sym (says_read plain ∙ quiet_hears (ran_seen.links l).stage (ap (λ (k : Link). k.stage) ran_is.link_so ∙ law_due none)))
      (in_tale (record row { link = record (expecting row.link) { spoilt = true } }) fed entered same_server over)) where
        law_due : IsUndue row.link → ran_link.stage ≡ view.Quiet
        law_due none =
            law_quiet ran_link.stage (sym (quiet_same setup.reads codes (expecting row.link).state ran_link due_stands.state)
            ∙ quiet_stage (expecting row.link).state.stage (ap (λ (at : LentLink). is_asked at.state.stage) none.same ∙ none.unasked) dry.unanswered) where
              dry : IsDry (expecting row.link).state.stage wire.unread
              dry =
                  subst (λ (reading : Option Reading). IsUnreadBy reading (expecting row.link).step (expecting row.link).state.stage (reply_id wire) (expecting row.link).first
                  (expecting row.link).number wire.unread) due (due_stands.unread (ap (λ (at : LentLink). at.spoilt) none.same ∙ fine))

        quiet_hears : (there : view.Stage) → there ≡ view.Quiet → hears l fed there ran_tale ≡ with_wire l fed ran_tale
        quiet_hears view.Quiet same = refl
        quiet_hears (view.Asked question) same = refl
        quiet_hears (view.Answered question) same = absurd (false≢true (ap servers.is_quiet same))

  -- An answer.

  module _ (r : Reading) (under_way : (expecting row.link).reading ≡ Some r) (apart : AreApart codes) (numbered : IsNumbered bytes row fed) where
    well : (expecting row.link).spoilt ≡ false
    well = kept.spoilt ∙ fine

    abbrev end_of_piece : Ending
    end_of_piece = run r.tracker.state bytes

    abbrev Made : List ℕ
    Made = renumbered r.tracker.state bytes

    abbrev RowOf : Ending → Row
    RowOf e = code_row (taken_by (length bytes) r.read e) Made
        (record row { link = followed (walked (length bytes) r e) (taken_by (length bytes) r.read e) (length bytes) (expecting row.link) })

    abbrev kind : ReplyKind
    kind = (answering setup.reads codes login seen row_due wire ran_link due_stands well bytes r under_way are_bytes).kind

    kind_reset : is_resetting (expecting row.link).step ≡ true → kind ≡ kinds.Command
    kind_reset resets = reset_kind setup.reads codes login seen row_due wire ran_link due_stands well bytes r under_way are_bytes resets

    law_as : SameEnd end_of_piece (read_as kind fed)
    law_as = law_end setup.reads codes login seen row_due wire ran_link due_stands well bytes r under_way are_bytes

    answered_server : (end : track_end.ReplyEnd) (rest : List ℕ) → fed.server ≡ (RowOf (Ended end rest)).link.server
    answered_server end rest =
        let used : ℕ = length bytes - length rest in
        let at : Row = record row { link = followed r (took.Whole used (code_end end)) (length bytes) (expecting row.link) } in
        let cell : Row = cell_seen (take used Made) at in
        same_server ∙ sym (ap (λ (link : LentLink). link.server)
        (noted_link (answered_in cell.link.state.stage) (code_end end) (number_read cell.cell)
        (record cell { cell = None; link = record cell.link { state = states.heard (code_end end) (number_read cell.cell) cell.link.state } })))

    -- of a STMT_RESET

    reset_by_end : is_resetting (expecting row.link).step ≡ true → (e : Ending) → end_of_piece ≡ e → SameEnd e (read_as kind fed)
        → IsRowIn setup codes plan (reset_by l fed (read_as kind fed) ran_tale) l (RowOf e)
    reset_by_end resets (Going state) same like =
        let law = going_is (read_as kind fed) state like in
        subst (λ (f : Ending). IsRowIn setup codes plan (reset_by l fed f ran_tale) l (RowOf (Going state))) (sym law.1)
        (in_tale (RowOf (Going state)) fed entered same_server
        (goes_so setup.reads codes login seen row_due wire ran_link due_stands well bytes r under_way are_bytes state same))
    reset_by_end resets (Failed rest) same like =
        subst (λ (f : Ending). IsRowIn setup codes plan (reset_by l fed f ran_tale) l (RowOf (Failed rest))) (sym (failed_is (read_as kind fed) rest like))
        (in_tale (RowOf (Failed rest)) fed entered same_server
        (fails_so setup.reads codes login seen row_due wire ran_link due_stands well bytes r under_way are_bytes rest same))
    reset_by_end resets (Ended end rest) same like =
        subst (λ (f : Ending). IsRowIn setup codes plan (reset_by l fed f ran_tale) l (RowOf (Ended end rest))) (sym (ended_same (read_as kind fed) end rest like))
        (in_tale (RowOf (Ended end rest)) (record fed { unread = rest; written = []; step = None }) entered (answered_server end rest)
        (reset_so setup.reads codes login seen row_due wire ran_link due_stands well bytes r under_way are_bytes end rest same resets))

    -- of a question

    module _ (plain : is_resetting (expecting row.link).step ≡ false) where
      is : IsAnswered setup.reads codes kind (expecting row.link).state.stage ran_link.stage
      is = answered_so setup.reads codes login seen row_due wire ran_link due_stands well bytes r under_way are_bytes plain

      abbrev question : Question
      question = is.question

      stage_now : (ran_seen.links l).stage ≡ view.Answered question
      stage_now = ap (λ (k : Link). k.stage) ran_is.link_so ∙ is.there

      reply_with : List ℕ → Reply
      reply_with rest = reply_in fed question (take (length fed.unread - length rest) fed.unread)

      -- a row stands in the tale that tells of the answer
      in_heard : (row_heard : Row) (w : Wire) (rest : List ℕ) → w.entered ≡ true → w.server ≡ row_heard.link.server
          → Serves setup.reads codes login (view_heard setup ran_seen l (reply_with rest) (view.Answered question)) row_heard w
          (view.heard setup.reads question (reply_with rest) ran_link)
          → IsRowIn setup codes plan (tell (Heard l (reply_with rest)) (with_wire l w ran_tale)) l row_heard
      in_heard row_heard w rest there server stands_now =
          subst (λ (x : Wire). IsRow setup.reads codes login (view_step setup ran_seen (Heard l (reply_with rest))) row_heard x
          ((view_step setup ran_seen (Heard l (reply_with rest))).links l)) (sym (put_there ran_tale.wires l w))
          (subst (λ (s : view.Stage). IsRow setup.reads codes login (view_heard setup ran_seen l (reply_with rest) s) row_heard w
          ((view_heard setup ran_seen l (reply_with rest) s).links l)) (sym stage_now)
          (subst (λ (k : Link). IsRow setup.reads codes login (view_heard setup ran_seen l (reply_with rest) (view.Answered question)) row_heard w k)
          (sym (put_there ran_seen.links l (view.heard setup.reads question (reply_with rest) (ran_seen.links l))
          ∙ ap (view.heard setup.reads question (reply_with rest)) ran_is.link_so))
          (row_by setup.reads codes login (view_heard setup ran_seen l (reply_with rest) (view.Answered question)) row_heard w
          (view.heard setup.reads question (reply_with rest) ran_link) there server stands_now)))

      answer_by_end : (e : Ending) → end_of_piece ≡ e → SameEnd e (read_as kind fed)
          → IsRowIn setup codes plan (heard_by l question fed (read_as kind fed) ran_tale) l (RowOf e)
      unfolding is reply_with
      answer_by_end (Going state) same like =
          let law = going_is (read_as kind fed) state like in
          subst (λ (f : Ending). IsRowIn setup codes plan (heard_by l question fed f ran_tale) l (RowOf (Going state))) (sym law.1)
          (in_tale (RowOf (Going state)) fed entered same_server
          (goes_so setup.reads codes login seen row_due wire ran_link due_stands well bytes r under_way are_bytes state same))
      answer_by_end (Failed rest) same like =
          subst (λ (f : Ending). IsRowIn setup codes plan (heard_by l question fed f ran_tale) l (RowOf (Failed rest))) (sym (failed_is (read_as kind fed) rest like))
          (in_tale (RowOf (Failed rest)) fed entered same_server
          (fails_so setup.reads codes login seen row_due wire ran_link due_stands well bytes r under_way are_bytes rest same))
      answer_by_end (Ended end rest) same like =
          let law : read_as kind fed ≡ Ended end rest = ended_same (read_as kind fed) end rest like in
          let new : View = view_heard setup ran_seen l (reply_with rest) (view.Answered question) in
          let heard_in_so : IsHeardIn setup.reads question (reply_with rest) seen new = record {
            held = λ n. ap (λ (of : SessionName → view.Held). view.held_by setup.reads question (reply_with rest) of n) ran_is.held;
            lives = ran_is.lives;
            lasting = ran_is.lasting;
          } in
          subst (λ (f : Ending). IsRowIn setup codes plan (heard_by l question fed f ran_tale) l (RowOf (Ended end rest))) (sym law)
          (in_heard (RowOf (Ended end rest)) (record fed { unread = rest; written = [] }) rest entered (answered_server end rest)
          (answer_so setup.reads codes login seen row_due wire ran_link due_stands well bytes r under_way are_bytes end rest same apart is plain new heard_in_so
          (number_so end rest law))) where
            number_so : (end : track_end.ReplyEnd) (rest : List ℕ) → read_as kind fed ≡ Ended end rest
                → IsNumberFor is.asking.form (number_read (cell_seen (take (length bytes - length rest) Made) row).cell)
                (payloads_in (reply_id fed) (take (length fed.unread - length rest) fed.unread))
            number_so end rest law =
                subst (λ (reading : Option Reading). IsNumberFor is.asking.form (number_read (cell_seen (take (length bytes - length rest) (made_in reading bytes)) row).cell)
                (payloads_in (reply_id fed) (take (length fed.unread - length rest) fed.unread))) under_way
                (numbered is.asking end rest is.stage (ap (λ (k : ReplyKind). read_as k fed) is.form_kind ∙ law))

    -- both

    pub replied_so : IsRowIn setup codes plan goal_tale l (code.heard bytes row)
    replied_so =
        subst (λ (reading : Option Reading). IsRowIn setup codes plan goal_tale l
        (code_row (took_in reading bytes) (made_in reading bytes) (record row { link = code_link reading bytes (expecting row.link) }))) (sym under_way)
        (by (is_resetting (expecting row.link).step) refl) where
          by : (resets : Bool) → is_resetting (expecting row.link).step ≡ resets → IsRowIn setup codes plan goal_tale l (RowOf end_of_piece)
          by true resets =
              let step = resets_as (expecting row.link).step resets in
              subst (λ (t : Tale). IsRowIn setup codes plan t l (RowOf end_of_piece))
              (sym (says_reset (step_reset (expecting row.link).step wire.step step.0 step.1 due_stands.step)
              ∙ ap (λ (k : ReplyKind). reset_by l fed (read_as k fed) tale) (sym (kind_reset resets))
              ∙ ap (reset_by l fed (read_as kind fed)) (sym (reset_tale resets))))
              (reset_by_end resets end_of_piece refl law_as)
          by false plain =
              subst (λ (t : Tale). IsRowIn setup codes plan t l (RowOf end_of_piece))
              (sym (says_read (step_plain (expecting row.link).step wire.step plain due_stands.step)
              ∙ ap (λ (s : view.Stage). hears l fed s ran_tale) (stage_now plain)
              ∙ ap (λ (k : ReplyKind). heard_by l (question plain) fed (read_as k fed) ran_tale) (is plain).is_kind))
              (answer_by_end plain end_of_piece refl law_as)

pub hear_so : (setup : Setup) (codes : Codes) (plan : Plan) (tale : Tale) (l : LinkId) (row : Row) (bytes : List ℕ)
    → IsRowIn setup codes plan tale l row → (tale.wires l).entered ≡ true → row.link.spoilt ≡ false → AreBytes bytes
    → 0 < length bytes → AreApart codes
    → IsNumbered bytes row (wire_with tale l bytes) → IsRowIn setup codes plan (server_says setup plan l bytes tale) l (code.heard bytes row)
hear_so setup codes plan tale l row bytes stands entered fine are some apart numbered = by (expecting row.link).reading refl where
  by : (reading : Option Reading) → (expecting row.link).reading ≡ reading → IsRowIn setup codes plan (server_says setup plan l bytes tale) l (code.heard bytes row)
  by None due = unasked_so setup codes plan tale l row bytes stands entered fine are some due
  by (Some r) due = replied_so setup codes plan tale l row bytes stands entered fine are some r due apart numbered
