-- What bytes on a link make of the tale and of the link's row, and what they tell: by cases, for whatever is to be shown of that.
use Rattle.std.specs.Prelude.{◌≡◌, ℕ, ◌-◌, Bool, true, false, not, ◌||◌, nat_lt, if◌then◌else◌, List, [], length, take, Option, Some, None}
use Rattle.std.proofs.Common.{refl, sym, ap, ◌∙◌, subst}
use Rattle.std.proofs.lemmas.Bool.{false≢true, true≢false}
use Rattle.mx_base.specs.Fields.{AreBytes}
use Rattle.reply_track.proofs.Replying.{SameEnd}
use Rattle.reply_track.specs.Runs.{Ending, renumbered, run}
use Rattle.reply_track.specs.Runs.Ending.{Going, Ended, Failed}
use Rattle.reply_track.specs.declared.place.State.{State}
use Rattle.reply_track.specs.declared.reply.ReplyEnd as track_end
use Rattle.reply_track.specs.declared.reply.ReplyKind.{ReplyKind}
use Rattle.reply_track.specs.declared.reply.ReplyKind.TheVariants as kinds
use Rattle.server_side.specs.Account.{Account as Login}
use Rattle.server_side.specs.Login.{opening}
use Rattle.private_model.specs.Commands.{Reply}
use Rattle.private_model.specs.Names.{LinkId}
use Rattle.private_model.specs.Story.{Heard, Question}
use Rattle.private_model.specs.View as view
use Rattle.private_model.specs.View.{Link, Setup, View, ran_by}
use Rattle.log_story.specs.Plan.{Plan}
use Rattle.log_story.specs.Servers as servers
use Rattle.log_story.specs.Servers.{entered_by, heard_by, hears, read_as, reads_on, reply_id, reply_in, reset_by, runs_first, with_run}
use Rattle.log_story.specs.Tale.{Tale, Wire, is_reset_step, tell, view_of, with_wire}
use Rattle.log_story.specs.Telling.{server_says, wire_with}
use Rattle.link_state.specs.Dones.{is_quiet}
use Rattle.link_state.specs.States.{answered_in, heard_in}
use Rattle.link_state.specs.declared.state.Stage.{Stage}
use Rattle.link_state.specs.declared.state.Stage.TheVariants.{Quiet, Asked, Answered}
use Rattle.link_laws.specs.Stands.{Codes}
use Rattle.lent_link.specs.Hears.{expecting, followed}
use Rattle.lent_link.specs.Reads.{end_of as code_end, more, taken_by, walked}
use Rattle.lent_link.specs.Rests.{is_resetting}
use Rattle.lent_link.specs.declared.link.LentLink.{LentLink}
use Rattle.lent_link.specs.declared.link.Step.TheVariants.{Other}
use Rattle.lent_link.specs.declared.reading.Reading.{Reading}
use Rattle.served_link.specs.Hears as code
use Rattle.served_link.specs.Hears.{link_in as code_link, made_in, news_by, news_of, news_whole, noted_if, number_read, part_news, row_by as code_row, seen as cell_seen, took_in}
use Rattle.served_link.specs.declared.news.News.{News}
use Rattle.served_link.specs.declared.news.News.TheVariants as news
use Rattle.served_link.specs.declared.row.Row.{Row}
use Rattle.row_laws.specs.Rows.{IsRowIn, Serves, is_asked}
use Rattle.row_laws.specs.Unread.{IsDry, IsUnreadBy, kind_answered}
use Rattle.row_laws.proofs.Beginning.{law_quiet, resets_as}
use Rattle.row_laws.proofs.Hearing.{IsAnswered, answered_so, answering, law_end, quiet_is, reset_kind, resets_other, step_plain, step_reset}
use Rattle.row_laws.proofs.Opening.{put_there, serves_in}
use Rattle.row_laws.proofs.Seeing.{quiet_same}
use Rattle.row_laws.proofs.Taking.{ended_same}
use Rattle.core_laws.proofs.OfHearing.Expected.{IsUndue, expected, undue}
use Rattle.core_laws.proofs.OfHearing.Numbered.{due_fine, due_stands}

-- The law's end, where code has one.

going_is : (f : Ending) (state : State) → SameEnd (Going state) f → (s : State) × (f ≡ Going s)
going_is (Going s) state same = (s, refl)
going_is (Ended e r) state same = absurd same
going_is (Failed r) state same = absurd same

failed_is : (f : Ending) (rest : List ℕ) → SameEnd (Failed rest) f → f ≡ Failed rest
failed_is (Failed r) rest same = ap (λ (xs : List ℕ). Failed xs) (sym same)
failed_is (Going s) rest same = absurd same
failed_is (Ended e r) rest same = absurd same

-- as a question runs, its link is the law's behind that
running : (setup : Setup) (tale : Tale) (l : LinkId) (there : view.Stage) → ((view_of setup tale).links l).stage ≡ there
    → (view_of setup (runs_first there l tale)).links l ≡ ran_by setup.reads ((view_of setup tale).links l).stage ((view_of setup tale).links l)
running setup tale l (view.Asked question) same =
    put_there (view_of setup tale).links l (ran_by setup.reads ((view_of setup tale).links l).stage ((view_of setup tale).links l))
running setup tale l view.Quiet same = ap (λ (there : view.Stage). ran_by setup.reads there ((view_of setup tale).links l)) (sym same)
running setup tale l (view.Answered question) same = ap (λ (there : view.Stage). ran_by setup.reads there ((view_of setup tale).links l)) (sym same)

module _ (setup : Setup) (codes : Codes) (plan : Plan) (tale : Tale) (l : LinkId) (row : Row) (bytes : List ℕ)
    (stands_row : IsRowIn setup codes plan tale l row) (entered : (tale.wires l).entered ≡ true) (fine : row.link.spoilt ≡ false)
    (are_bytes : AreBytes bytes) where
  abbrev login : Login
  login = plan.logins l

  abbrev wire : Wire
  wire = tale.wires l

  abbrev seen : View
  seen = view_of setup tale

  abbrev link : Link
  link = seen.links l

  abbrev fed : Wire
  fed = wire_with tale l bytes

  abbrev due : LentLink
  due = expecting row.link

  abbrev row_due : Row
  row_due = record row { link = due }

  abbrev ran_link : Link
  ran_link = ran_by setup.reads link.stage link

  abbrev ran_tale : Tale
  ran_tale = with_run setup l tale

  pub stands : Serves setup.reads codes login seen row wire link
  stands = serves_in setup.reads codes login seen row wire link entered stands_row

  pub dues : Serves setup.reads codes login seen row_due wire ran_link
  dues = due_stands setup codes plan tale l row bytes stands_row entered fine are_bytes

  pub well : due.spoilt ≡ false
  well = due_fine setup codes plan tale l row bytes stands_row entered fine are_bytes

  pub ran_is : (view_of setup ran_tale).links l ≡ ran_link
  ran_is = running setup tale l link.stage refl

  -- What the law makes of them.

  abbrev goal_tale : Tale
  goal_tale = server_says setup plan l bytes tale

  not_in : not wire.entered ≡ false
  not_in = ap not entered

  says_reset : is_reset_step wire.step ≡ true → goal_tale ≡ reset_by l fed (read_as kinds.Command fed) tale
  says_reset resets =
      ap (λ (is : Bool). if is then entered_by plan l fed (opening (plan.logins l) fed.unread) tale
      else if is_reset_step wire.step then reset_by l fed (read_as kinds.Command fed) tale else reads_on setup l fed tale) not_in
      ∙ ap (λ (is : Bool). if is then reset_by l fed (read_as kinds.Command fed) tale else reads_on setup l fed tale) resets

  says_read : is_reset_step wire.step ≡ false → goal_tale ≡ hears l fed ((view_of setup ran_tale).links l).stage ran_tale
  says_read plain =
      ap (λ (is : Bool). if is then entered_by plan l fed (opening (plan.logins l) fed.unread) tale
      else if is_reset_step wire.step then reset_by l fed (read_as kinds.Command fed) tale else reads_on setup l fed tale) not_in
      ∙ ap (λ (is : Bool). if is then reset_by l fed (read_as kinds.Command fed) tale else reads_on setup l fed tale) plain

  -- a STMT_RESET stands on a quiet link, which doesn't run
  reset_tale : is_resetting due.step ≡ true → ran_tale ≡ tale
  reset_tale resets = by link.stage (law_quiet link.stage quiet) where
    quiet : servers.is_quiet link.stage ≡ true
    quiet = sym (quiet_same setup.reads codes row.link.state link stands.state)
        ∙ stands.stepless (resets_other row.link.step (sym (ap is_resetting (expected row.link).step) ∙ resets))

    by : (there : view.Stage) → there ≡ view.Quiet → runs_first there l tale ≡ tale
    by view.Quiet same = refl
    by (view.Asked question) same = absurd (false≢true (ap servers.is_quiet same))
    by (view.Answered question) same = absurd (false≢true (ap servers.is_quiet same))

  -- The row behind them.

  abbrev spoilt_row : Row
  spoilt_row = record row { link = record due { spoilt = true } }

  module _ (r : Reading) (under_way : due.reading ≡ Some r) where
    abbrev made : List ℕ
    made = renumbered r.tracker.state bytes

    abbrev pub kind : ReplyKind
    kind = (answering setup.reads codes login seen row_due wire ran_link dues well bytes r under_way are_bytes).kind

    abbrev going_row : State → Row
    going_row state = cell_seen made (record row { link = record due { reading = Some (walked (length bytes) r (Going state)) } })

    module _ (end : track_end.ReplyEnd) (rest : List ℕ) where
      abbrev used : ℕ
      used = length bytes - length rest

      abbrev number : Option ℕ
      number = number_read (cell_seen (take used made) row).cell

      abbrev ending : LentLink
      ending = record due { reading = None; writing = None; step = Other; spoilt = due.spoilt || nat_lt used (length bytes) }

      abbrev ended_row : Stage → Row
      ended_row at = noted_if (answered_in at) (code_end end) number
          (record row { cell = None; link = record ending { state = heard_in at (code_end end) number due.state } })

      abbrev ended_news : Stage → News
      ended_news at = news_whole (answered_in at) (code_end end) number used

    -- of a question

    module _ (plain : is_resetting due.step ≡ false) where
      pub is : IsAnswered setup.reads codes kind due.state.stage ran_link.stage
      is = answered_so setup.reads codes login seen row_due wire ran_link dues well bytes r under_way are_bytes plain

      abbrev question : Question
      question = is.question

      pub stage_now : ((view_of setup ran_tale).links l).stage ≡ view.Answered question
      stage_now = ap (λ (k : Link). k.stage) ran_is ∙ is.there

      abbrev pub reply_with : List ℕ → Reply
      reply_with rest = reply_in fed question (take (length fed.unread - length rest) fed.unread)

      abbrev pub heard_tale : List ℕ → Tale
      heard_tale rest = tell (Heard l (reply_with rest)) (with_wire l (record fed { unread = rest; written = [] }) ran_tale)

  -- Whatever is to be shown of them.

  module _ (P : Tale → Row → News → List ℕ → Type 0)
      (spoils : (place : ℕ) (given : List ℕ) → P (with_wire l fed ran_tale) spoilt_row (news.Bad place) given)
      (goes : (r : Reading) (under_way : due.reading ≡ Some r) (state : State) → run r.tracker.state bytes ≡ Going state
      → P (with_wire l fed ran_tale) (going_row r under_way state) (part_news due.state.stage) (made r under_way))
      (resets_so : (r : Reading) (under_way : due.reading ≡ Some r) (end : track_end.ReplyEnd) (rest : List ℕ) → due.state.stage ≡ Quiet
      → P (with_wire l (record fed { unread = rest; written = []; step = None }) ran_tale) (ended_row r under_way end rest Quiet) news.ResetDone (made r under_way))
      (answers : (r : Reading) (under_way : due.reading ≡ Some r) (plain : is_resetting due.step ≡ false) (end : track_end.ReplyEnd) (rest : List ℕ)
      → run r.tracker.state bytes ≡ Ended end rest → read_as (kind r under_way) fed ≡ Ended end rest
      → P (heard_tale r under_way plain rest) (ended_row r under_way end rest (Answered (is r under_way plain).asking))
      (ended_news r under_way end rest (Answered (is r under_way plain).asking)) (made r under_way)) where
    abbrev Goal : Type 0
    Goal = P goal_tale (code.heard bytes row) (news_of bytes row) (made_in due.reading bytes)

    unasked_so : due.reading ≡ None → Goal
    unasked_so none_due =
        let none : IsUndue row.link = undue row.link row.link.reading refl none_due in
        let plain : is_reset_step wire.step ≡ false = step_plain row.link.step wire.step none.plain stands.step in
        subst (λ (reading : Option Reading). P goal_tale
        (code_row (took_in reading bytes) (made_in reading bytes) (record row { link = code_link reading bytes due }))
        (news_by (took_in reading bytes) (made_in reading bytes) (record row { link = code_link reading bytes due })) (made_in reading bytes)) (sym none_due)
        (subst (λ (t : Tale). P t spoilt_row (news.Bad 0) bytes)
        (sym (says_read plain ∙ quiet_hears ((view_of setup ran_tale).links l).stage (ap (λ (k : Link). k.stage) ran_is ∙ law_due none)))
        (spoils 0 bytes)) where
          dry : IsDry due.state.stage wire.unread
          dry =
              subst (λ (reading : Option Reading). IsUnreadBy reading due.step due.state.stage (reply_id wire) due.first due.number wire.unread) none_due
              (dues.unread well)

          quiet_stage : (stage : Stage) → is_asked stage ≡ false → kind_answered stage ≡ None → is_quiet stage ≡ true
          quiet_stage Quiet unasked unanswered = refl
          quiet_stage (Asked asking) unasked unanswered = absurd (true≢false unasked)
          quiet_stage (Answered asking) unasked unanswered = absurd (cc)

          law_due : IsUndue row.link → ran_link.stage ≡ view.Quiet
          law_due none =
              law_quiet ran_link.stage (sym (quiet_same setup.reads codes due.state ran_link dues.state)
              ∙ quiet_stage due.state.stage (ap (λ (at : LentLink). is_asked at.state.stage) none.same ∙ none.unasked) dry.unanswered)

          quiet_hears : (there : view.Stage) → there ≡ view.Quiet → hears l fed there ran_tale ≡ with_wire l fed ran_tale
          quiet_hears view.Quiet same = refl
          quiet_hears (view.Asked asked) same = refl
          quiet_hears (view.Answered asked) same = absurd (false≢true (ap servers.is_quiet same))

    module _ (r : Reading) (under_way : due.reading ≡ Some r) where
      abbrev end_of_piece : Ending
      end_of_piece = run r.tracker.state bytes

      abbrev row_with : Ending → Row
      row_with e = record row { link = followed (walked (length bytes) r e) (taken_by (length bytes) r.read e) (length bytes) due }

      abbrev RowOf : Ending → Row
      RowOf e = code_row (taken_by (length bytes) r.read e) (made r under_way) (row_with e)

      abbrev NewsOf : Ending → News
      NewsOf e = news_by (taken_by (length bytes) r.read e) (made r under_way) (row_with e)

      law_as : SameEnd end_of_piece (read_as (kind r under_way) fed)
      law_as = law_end setup.reads codes login seen row_due wire ran_link dues well bytes r under_way are_bytes

      -- of a STMT_RESET
      reset_by_end : is_resetting due.step ≡ true → (e : Ending) → end_of_piece ≡ e → SameEnd e (read_as (kind r under_way) fed)
          → P (reset_by l fed (read_as (kind r under_way) fed) tale) (RowOf e) (NewsOf e) (made r under_way)
      reset_by_end resets (Going state) same ends =
          let law = going_is (read_as (kind r under_way) fed) state ends in
          subst (λ (f : Ending). P (reset_by l fed f tale) (RowOf (Going state)) (NewsOf (Going state)) (made r under_way)) (sym law.1)
          (subst (λ (t : Tale). P (with_wire l fed t) (RowOf (Going state)) (NewsOf (Going state)) (made r under_way)) (reset_tale resets)
          (goes r under_way state same))
      reset_by_end resets (Failed rest) same ends =
          subst (λ (f : Ending). P (reset_by l fed f tale) (RowOf (Failed rest)) (NewsOf (Failed rest)) (made r under_way))
          (sym (failed_is (read_as (kind r under_way) fed) rest ends))
          (subst (λ (t : Tale). P (with_wire l fed t) (RowOf (Failed rest)) (NewsOf (Failed rest)) (made r under_way)) (reset_tale resets)
          (spoils (more r.read (length bytes - length rest)) (made r under_way)))
      reset_by_end resets (Ended end rest) same ends =
          let quiet : due.state.stage ≡ Quiet = quiet_is due.state.stage (dues.stepless (resets_other due.step resets)) in
          subst (λ (f : Ending). P (reset_by l fed f tale) (RowOf (Ended end rest)) (NewsOf (Ended end rest)) (made r under_way))
          (sym (ended_same (read_as (kind r under_way) fed) end rest ends))
          (subst (λ (at : Stage). P (with_wire l (record fed { unread = rest; written = []; step = None }) tale) (ended_row r under_way end rest at)
          (ended_news r under_way end rest at) (made r under_way)) (sym quiet)
          (subst (λ (x : Tale). P (with_wire l (record fed { unread = rest; written = []; step = None }) x) (ended_row r under_way end rest Quiet) news.ResetDone (made r under_way))
          (reset_tale resets) (resets_so r under_way end rest quiet)))

      -- of a question
      answer_by_end : (plain : is_resetting due.step ≡ false) (e : Ending) → end_of_piece ≡ e → SameEnd e (read_as (kind r under_way) fed)
          → P (heard_by l (question r under_way plain) fed (read_as (kind r under_way) fed) ran_tale) (RowOf e) (NewsOf e) (made r under_way)
      answer_by_end plain (Going state) same ends =
          let law = going_is (read_as (kind r under_way) fed) state ends in
          subst (λ (f : Ending). P (heard_by l (question r under_way plain) fed f ran_tale) (RowOf (Going state)) (NewsOf (Going state)) (made r under_way)) (sym law.1)
          (goes r under_way state same)
      answer_by_end plain (Failed rest) same ends =
          subst (λ (f : Ending). P (heard_by l (question r under_way plain) fed f ran_tale) (RowOf (Failed rest)) (NewsOf (Failed rest)) (made r under_way))
          (sym (failed_is (read_as (kind r under_way) fed) rest ends)) (spoils (more r.read (length bytes - length rest)) (made r under_way))
      answer_by_end plain (Ended end rest) same ends =
          let law : read_as (kind r under_way) fed ≡ Ended end rest = ended_same (read_as (kind r under_way) fed) end rest ends in
          subst (λ (f : Ending). P (heard_by l (question r under_way plain) fed f ran_tale) (RowOf (Ended end rest)) (NewsOf (Ended end rest)) (made r under_way)) (sym law)
          (subst (λ (at : Stage). P (heard_tale r under_way plain rest) (ended_row r under_way end rest at) (ended_news r under_way end rest at) (made r under_way))
          (sym (is r under_way plain).stage) (answers r under_way plain end rest same law))

      replied_so : Goal
      replied_so =
          subst (λ (reading : Option Reading). P goal_tale
          (code_row (took_in reading bytes) (made_in reading bytes) (record row { link = code_link reading bytes due }))
          (news_by (took_in reading bytes) (made_in reading bytes) (record row { link = code_link reading bytes due })) (made_in reading bytes)) (sym under_way)
          (by (is_resetting due.step) refl) where
            by : (resets : Bool) → is_resetting due.step ≡ resets → P goal_tale (RowOf end_of_piece) (NewsOf end_of_piece) (made r under_way)
            by true resets =
                let step = resets_as due.step resets in
                subst (λ (t : Tale). P t (RowOf end_of_piece) (NewsOf end_of_piece) (made r under_way))
                (sym (says_reset (step_reset due.step wire.step step.0 step.1 dues.step)
                ∙ ap (λ (k : ReplyKind). reset_by l fed (read_as k fed) tale)
                (sym (reset_kind setup.reads codes login seen row_due wire ran_link dues well bytes r under_way are_bytes resets))))
                (reset_by_end resets end_of_piece refl law_as)
            by false plain =
                subst (λ (t : Tale). P t (RowOf end_of_piece) (NewsOf end_of_piece) (made r under_way))
                (sym (says_read (step_plain due.step wire.step plain dues.step)
                ∙ ap (λ (s : view.Stage). hears l fed s ran_tale) (stage_now r under_way plain)
                ∙ ap (λ (k : ReplyKind). heard_by l (question r under_way plain) fed (read_as k fed) ran_tale) (is r under_way plain).is_kind))
                (answer_by_end plain end_of_piece refl law_as)

    pub read_so : Goal
    read_so = by due.reading refl where
      by : (reading : Option Reading) → due.reading ≡ reading → Goal
      by None none = unasked_so none
      by (Some r) under_way = replied_so r under_way
