-- A row stands for its link as bytes are read of an answer.
use Rattle.std.specs.Prelude.{◌≡◌, ◌<◌, ◌⊎◌, ℕ, ◌-◌, Bool, true, false, ◌||◌, if◌then◌else◌, fold, nat_lt, List, [], ◌∷◌, ◌++◌, length, take, Option, Some, None}
use Rattle.std.specs.Option.{option_map}
use Rattle.std.proofs.Common.{refl, sym, ap, ◌∙◌, subst, inl, inr, arith, length-append}
use Rattle.std.proofs.lemmas.Bool.{false≢true, true≢false}
use Rattle.mx_base.specs.Fields.{AreBytes}
use Rattle.reply_relay.specs.Cells.{CellRead, byte_taken}
use Rattle.reply_track.proofs.Finishing.{AreBytes-append}
use Rattle.reply_track.proofs.Replying.{SameEnd}
use Rattle.reply_track.specs.Replying.{payloads_in}
use Rattle.reply_track.specs.Runs.{Ending, renumbered, run}
use Rattle.reply_track.specs.Runs.Ending.{Going, Ended, Failed}
use Rattle.reply_track.specs.declared.place.State.{State}
use Rattle.reply_track.specs.declared.reply.ReplyEnd as track_end
use Rattle.reply_track.specs.declared.reply.ReplyKind.{ReplyKind}
use Rattle.reply_track.specs.declared.reply.ReplyKind.TheVariants as kinds
use Rattle.session_state.specs.declared.reply_end.ReplyEnd.{ReplyEnd}
use Rattle.server_rule.specs.Classes.{Reads}
use Rattle.server_rule.specs.Replies.{one_number}
use Rattle.server_side.specs.Account.{Account as Login}
use Rattle.private_model.specs.Commands.{Reply, end_of, is_prepare}
use Rattle.private_model.specs.Names.{SessionName}
use Rattle.private_model.specs.Story.{Question, command_of}
use Rattle.private_model.specs.View as view
use Rattle.private_model.specs.View.{Held, Link, View, held_by}
use Rattle.log_story.specs.Plan as plan
use Rattle.log_story.specs.Plan.{StepText}
use Rattle.log_story.specs.Honest.{IsStep}
use Rattle.log_story.specs.Said.{IsNothing}
use Rattle.log_story.specs.Servers as servers
use Rattle.log_story.specs.Servers.{kind_by, read_as, reply_id}
use Rattle.log_story.specs.Tale.{Wire, is_reset_step}
use Rattle.link_state.specs.Answers.{id_by}
use Rattle.link_state.specs.Asks.{kind_of}
use Rattle.link_state.specs.Behind.{pin_for}
use Rattle.link_state.specs.Dones.{is_quiet}
use Rattle.link_state.specs.States.{answered_in, heard_in}
use Rattle.link_state.specs.declared.asking.Asking.{Asking}
use Rattle.link_state.specs.declared.asking.Purpose.{Purpose}
use Rattle.link_state.specs.declared.asking.Purpose.TheVariants as purposes
use Rattle.link_state.specs.declared.state.Carried.{Carried}
use Rattle.link_state.specs.declared.state.Carried.TheVariants.{Nobody, Lent, Joined}
use Rattle.link_state.specs.declared.state.LinkState.{LinkState}
use Rattle.link_state.specs.declared.state.Stage.{Stage}
use Rattle.link_state.specs.declared.state.Stage.TheVariants.{Quiet, Asked, Answered}
use Rattle.link_state.specs.declared.writing.Writing.{Writing}
use Rattle.link_laws.proofs.Keeps.{heard_so}
use Rattle.link_laws.specs.Stands.{AreApart, Codes, IsAsking, IsLink, IsPurpose, IsStage}
use Rattle.lent_link.specs.Reads.{end_of as code_end, walked}
use Rattle.lent_link.specs.Rests.{is_resetting}
use Rattle.lent_link.specs.declared.link.Begins.{Begins}
use Rattle.lent_link.specs.declared.link.LentLink.{LentLink}
use Rattle.lent_link.specs.declared.link.Step.{Step}
use Rattle.lent_link.specs.declared.link.Step.TheVariants.{Other, Closes, Resets}
use Rattle.lent_link.specs.declared.reading.Reading.{Reading}
use Rattle.served_link.specs.Hears.{answered, noted_if, number_read, seen as cell_seen}
use Rattle.served_link.specs.Notes.{left_behind, left_for}
use Rattle.served_link.specs.declared.row.LeftSession.{LeftSession}
use Rattle.served_link.specs.declared.row.Row.{Row}
use Rattle.row_laws.specs.Rows.{Serves, IsShared, is_asked}
use Rattle.row_laws.specs.Unread.{IsAnswering, IsCellBy, IsDry, IsNumberFor, IsUnreadBy, has_bytes, is_bad, is_bad_at, is_bad_there, kind_answered, kind_due}
use Rattle.row_laws.specs.Whose.{IsFor, IsHolder, IsLeft, IsOwn, IsWhose, name_for, name_in}
use Rattle.row_laws.specs.Written.{IsOver, IsSpelt, IsStepOf, IsWrittenBy, is_other}
use Rattle.row_laws.proofs.Holding.{heard_numbered, held_own, held_there, left_heard}
use Rattle.row_laws.proofs.Seeing.{is_link, kind_same, quiet_same}
use Rattle.row_laws.proofs.Splitting.{none_whole}
use Rattle.row_laws.proofs.Taking.{bad_same, behind_bad, cell_read, end_told, ended_same, ends_as_law, goes_on}

-- Steps.

-- nothing stands there, but maybe a QUIT
abbrev is_own : Purpose → Bool
is_own purposes.Own = true
is_own _ = false

abbrev pub is_plain : view.Stage → Step → Bool
is_plain view.Quiet Other = true
is_plain _ _ = false

pub step_reset : (step : Step) (said : Option StepText) (number : ℕ) → step ≡ Resets number → IsStepOf step said → is_reset_step said ≡ true
step_reset step said number same is = by said (subst (λ (s : Step). IsStepOf s said) same is) where
  by : (text : Option StepText) → IsStepOf (Resets number) text → is_reset_step text ≡ true
  by (Some (plan.Resets n)) is = refl
  by _ is = absurd is

pub step_plain : (step : Step) (said : Option StepText) → is_resetting step ≡ false → IsStepOf step said → is_reset_step said ≡ false
step_plain Other None plain is = refl
step_plain Other (Some (plan.Asks command)) plain is = refl
step_plain (Closes number) (Some (plan.Closes n)) plain is = refl
step_plain (Resets number) said plain is = absurd (true≢false plain)
step_plain _ _ plain is = absurd is

-- where nothing is written, nothing stands
nothing_said : (said : Option StepText) → IsNothing view.Quiet said []
nothing_said None = refl
nothing_said (Some (plan.Asks command)) = refl
nothing_said (Some (plan.Closes number)) = tt
nothing_said (Some (plan.Resets number)) = tt

-- where no step stands, what is written is of none
step_free : (said : Option StepText) (written : List ℕ) → IsStepOf Other said → IsStep said written
step_free None written is = tt
step_free (Some (plan.Asks command)) written is = tt
step_free _ written is = absurd is

other_is : (step : Step) → is_other step ≡ true → step ≡ Other
other_is Other is = refl
other_is (Closes number) is = absurd (false≢true is)
other_is (Resets number) is = absurd (false≢true is)

pub quiet_is : (stage : Stage) → is_quiet stage ≡ true → stage ≡ Quiet
quiet_is Quiet is = refl
quiet_is (Asked asking) is = absurd (false≢true is)
quiet_is (Answered asking) is = absurd (false≢true is)

none_read : (bytes : List ℕ) → has_bytes bytes ≡ false → bytes ≡ []
none_read [] none = refl
none_read (byte ∷ bytes) none = absurd (true≢false none)

pub resets_other : (step : Step) → is_resetting step ≡ true → is_other step ≡ false
resets_other (Resets number) is = refl
resets_other Other is = absurd (false≢true is)
resets_other (Closes number) is = absurd (false≢true is)

pub other_plain : (step : Step) → is_other step ≡ true → is_resetting step ≡ false
other_plain Other is = refl
other_plain (Closes number) is = refl
other_plain (Resets number) is = absurd (false≢true is)

-- beside a question no step stands
pub plain_other : (step : Step) (quiet : Bool) → (is_other step ≡ false → quiet ≡ true) → quiet ≡ false → is_other step ≡ true
plain_other Other quiet stepless unquiet = refl
plain_other (Closes number) quiet stepless unquiet = absurd (true≢false (sym (stepless refl) ∙ unquiet))
plain_other (Resets number) quiet stepless unquiet = absurd (true≢false (sym (stepless refl) ∙ unquiet))

plain_stage : (there : view.Stage) (step : Step) → servers.is_quiet there ≡ false → is_plain there step ≡ false
plain_stage (view.Asked question) step unquiet = refl
plain_stage (view.Answered question) step unquiet = refl
plain_stage view.Quiet step unquiet = absurd (true≢false unquiet)

plain_step : (there : view.Stage) (step : Step) → is_resetting step ≡ true → is_plain there step ≡ false
plain_step view.Quiet (Resets number) resets = refl
plain_step view.Quiet Other resets = absurd (false≢true resets)
plain_step view.Quiet (Closes number) resets = absurd (false≢true resets)
plain_step (view.Asked question) step resets = refl
plain_step (view.Answered question) step resets = refl

-- nothing begins behind a QUIT, so where something stands none was told

spelt_stays : (there : view.Stage) (step : Step) (quits : Bool) (link : Link) (said : List ℕ) → IsSpelt there step quits link said
    → is_plain there step ≡ false → quits ≡ false
spelt_stays (view.Asked question) step false link said is some = refl
spelt_stays (view.Answered question) step false link said is some = refl
spelt_stays view.Quiet (Closes number) false link said is some = refl
spelt_stays view.Quiet (Resets number) false link said is some = refl
spelt_stays view.Quiet Other true link said is some = absurd (true≢false some)
spelt_stays _ _ _ link said is some = absurd is

-- the law has the same in the stage of an answer, and nothing in a quiet one

law_answered : (reads : Reads) (codes : Codes) (asking : Asking) (there : view.Stage) → IsStage reads codes (Answered asking) there
    → (question : Question) × (there ≡ view.Answered question) × IsAsking reads codes asking question
law_answered reads codes asking (view.Answered question) is = (question, refl, is)
law_answered reads codes asking view.Quiet is = absurd is
law_answered reads codes asking (view.Asked question) is = absurd is

-- what is answered, where that is a question
pub record IsAnswered (reads : Reads) (codes : Codes) (kind : ReplyKind) (at : Stage) (law : view.Stage) : Type 0 where
  pub asking : Asking
  pub question : Question
  pub stage : at ≡ Answered asking
  pub there : law ≡ view.Answered question
  pub asks : IsAsking reads codes asking question
  pub is_kind : kind_by (command_of question) ≡ kind
  pub form_kind : kind_of asking.form ≡ kind

-- of sessions the law knows now what the answer makes of them
pub record IsHeardIn (reads : Reads) (question : Question) (reply : Reply) (seen new : View) : Type 0 where
  pub held : (n : SessionName) → new.held n ≡ held_by reads question reply seen.held n
  pub lives : (n : SessionName) → new.lives n.client n.hostgroup ≡ seen.lives n.client n.hostgroup
  pub lasting : (n : SessionName) → new.lasting n ≡ seen.lasting n

module _ (reads : Reads) (codes : Codes) (login : Login) (seen : View) (row : Row) (wire : Wire) (link : Link)
    (stands : Serves reads codes login seen row wire link) (fine : row.link.spoilt ≡ false) (bytes : List ℕ) where
  abbrev all : List ℕ
  all = wire.unread ++ bytes

  abbrev fed : Wire
  fed = record wire { unread = all }

  -- where nothing is due
  pub nobody_asked : row.link.reading ≡ None → is_resetting row.link.step ≡ false → is_asked row.link.state.stage ≡ false → 0 < length bytes
      → Serves reads codes login seen (record row { link = record row.link { spoilt = true } }) fed link
  nobody_asked none plain unasked some = record {
    entered = stands.entered;
    inside = stands.inside;
    account = stands.account;
    server = stands.server;
    usable = stands.usable;
    state = stands.state;
    quits = stands.quits;
    step = stands.step;
    stepless = stands.stepless;
    written = stands.written;
    bad = ap (λ (reset : Bool). if reset then is_bad (read_as kinds.Command fed) else is_bad_at fed link.stage) (step_plain row.link.step wire.step plain stands.step)
        ∙ unasked_bad link.stage (law_quiet row.link.state.stage refl dry.unanswered);
    well = λ asked. absurd (true≢false (sym asked ∙ unasked));
    unread = λ well. absurd (true≢false well);
    cell = λ well. absurd (true≢false well);
    whose = stands.whose;
    own = stands.own;
    shared = stands.shared;
  } where
    dry : IsDry row.link.state.stage wire.unread
    dry =
        subst (λ (under_way : Option Reading). IsUnreadBy under_way row.link.step row.link.state.stage (reply_id wire) row.link.first row.link.number wire.unread)
        none (stands.unread fine)

    law_quiet : (stage : Stage) → row.link.state.stage ≡ stage → kind_answered stage ≡ None → servers.is_quiet link.stage ≡ true
    law_quiet Quiet same unanswered = sym (quiet_same reads codes row.link.state link stands.state) ∙ ap is_quiet same
    law_quiet (Answered asking) same unanswered = absurd (cc)
    law_quiet (Asked asking) same unanswered = absurd (true≢false (sym (ap is_asked same) ∙ unasked))

    has_some : (xs : List ℕ) → 0 < length xs → has_bytes xs ≡ true
    has_some [] more = absurd (omega (arith, more))
    has_some (x ∷ xs) more = refl

    unasked_bad : (there : view.Stage) → servers.is_quiet there ≡ true → is_bad_at fed there ≡ true
    unasked_bad view.Quiet quiet = has_some all (omega (arith, some, length-append wire.unread bytes))
    unasked_bad (view.Asked question) quiet = has_some all (omega (arith, some, length-append wire.unread bytes))
    unasked_bad (view.Answered question) quiet = absurd (false≢true quiet)

  -- where an answer is read

  module _ (r : Reading) (under_way : row.link.reading ≡ Some r) (are_bytes : AreBytes bytes) where
    pub answering : IsAnswering r (kind_due row.link.step row.link.state.stage) (reply_id wire) row.link.first row.link.number wire.unread
    answering =
        subst (λ (reading : Option Reading). IsUnreadBy reading row.link.step row.link.state.stage (reply_id wire) row.link.first row.link.number wire.unread)
        under_way (stands.unread fine)

    abbrev kind : ReplyKind
    kind = answering.kind

    pub law_end : SameEnd (run r.tracker.state bytes) (read_as kind fed)
    law_end = ends_as_law kind (reply_id wire) row.link.first row.link.number wire.unread bytes r answering.read

    are_all : AreBytes all
    are_all = AreBytes-append wire.unread bytes answering.are are_bytes

    abbrev pub made : List ℕ
    made = renumbered r.tracker.state bytes

    -- Its kind is the one of what stands there.

    same_kind : (a b : ReplyKind) → Some a ≡ Some b → a ≡ b
    same_kind a b same = cc

    bad_reset : (step : Step) → row.link.step ≡ step → is_resetting step ≡ true → is_bad_there fed link.stage ≡ is_bad (read_as kind fed)
    bad_reset (Resets number) same resets =
        ap (λ (reset : Bool). if reset then is_bad (read_as kinds.Command fed) else is_bad_at fed link.stage)
        (step_reset row.link.step wire.step number same stands.step)
        ∙ ap (λ (k : ReplyKind). is_bad (read_as k fed))
        (same_kind kinds.Command kind (sym (ap (λ (s : Step). kind_due s row.link.state.stage) same) ∙ answering.is_due))
    bad_reset Other same resets = absurd (false≢true resets)
    bad_reset (Closes number) same resets = absurd (false≢true resets)

    pub reset_kind : is_resetting row.link.step ≡ true → kind ≡ kinds.Command
    reset_kind resets = by row.link.step resets answering.is_due where
      by : (step : Step) → is_resetting step ≡ true → kind_due step row.link.state.stage ≡ Some kind → kind ≡ kinds.Command
      by (Resets number) resets due = sym (same_kind kinds.Command kind due)
      by Other resets due = absurd (false≢true resets)
      by (Closes number) resets due = absurd (false≢true resets)

    abbrev IsAsked : Type 0
    IsAsked = IsAnswered reads codes kind row.link.state.stage link.stage

    due_plain : is_resetting row.link.step ≡ false → kind_answered row.link.state.stage ≡ Some kind
    due_plain plain = by row.link.step plain answering.is_due where
      by : (step : Step) → is_resetting step ≡ false → kind_due step row.link.state.stage ≡ Some kind → kind_answered row.link.state.stage ≡ Some kind
      by Other plain due = due
      by (Closes number) plain due = due
      by (Resets number) plain due = absurd (true≢false plain)

    pub answered_so : is_resetting row.link.step ≡ false → IsAsked
    answered_so plain = by row.link.state.stage refl (due_plain plain) where
      by : (stage : Stage) → row.link.state.stage ≡ stage → kind_answered stage ≡ Some kind → IsAsked
      by (Answered asking) same due =
          let linked : IsLink reads codes row.link.state link = is_link reads codes row.link.state link (Answered asking) same refl stands.state in
          let law = law_answered reads codes asking link.stage (subst (λ (s : Stage). IsStage reads codes s link.stage) same linked.stage) in
          let form_kind : kind_of asking.form ≡ kind = same_kind (kind_of asking.form) kind due in
          record {
            asking = asking;
            question = law.0;
            stage = same;
            there = law.1;
            asks = law.2;
            is_kind = sym (kind_same reads asking.form (command_of law.0) law.2.form) ∙ form_kind;
            form_kind = form_kind;
          }
      by Quiet same due = absurd (cc)
      by (Asked asking) same due = absurd (cc)

    bad_question : IsAsked → is_resetting row.link.step ≡ false → is_bad_there fed link.stage ≡ is_bad (read_as kind fed)
    bad_question is plain =
        ap (λ (reset : Bool). if reset then is_bad (read_as kinds.Command fed) else is_bad_at fed link.stage) (step_plain row.link.step wire.step plain stands.step)
        ∙ ap (is_bad_at fed) is.there ∙ ap (λ (k : ReplyKind). is_bad (read_as k fed)) is.is_kind

    bad_is : (resets : Bool) → is_resetting row.link.step ≡ resets → is_bad_there fed link.stage ≡ is_bad (run r.tracker.state bytes)
    bad_is true resets = bad_reset row.link.step refl resets ∙ bad_same (run r.tracker.state bytes) (read_as kind fed) law_end
    bad_is false plain = bad_question (answered_so plain) plain ∙ bad_same (run r.tracker.state bytes) (read_as kind fed) law_end

    unasked : (resets : Bool) → is_resetting row.link.step ≡ resets → is_asked row.link.state.stage ≡ false
    unasked true resets = ap is_asked (quiet_is row.link.state.stage (stands.stepless (resets_other row.link.step resets)))
    unasked false plain = ap is_asked (answered_so plain).stage

    -- It goes on.

    cell_on : IsCellBy row.link.state.stage (option_map (λ (c : CellRead). fold byte_taken c made) row.cell) (reply_id wire) row.link.first row.link.number all
    cell_on = by (is_resetting row.link.step) refl where
      by : (resets : Bool) → is_resetting row.link.step ≡ resets
          → IsCellBy row.link.state.stage (option_map (λ (c : CellRead). fold byte_taken c made) row.cell) (reply_id wire) row.link.first row.link.number all
      by true resets =
          let quiet : row.link.state.stage ≡ Quiet = quiet_is row.link.state.stage (stands.stepless (resets_other row.link.step resets)) in
          subst (λ (s : Stage). IsCellBy s (option_map (λ (c : CellRead). fold byte_taken c made) row.cell) (reply_id wire) row.link.first row.link.number all)
          (sym quiet) tt
      by false plain =
          let is : IsAsked = answered_so plain in
          subst (λ (s : Stage). IsCellBy s (option_map (λ (c : CellRead). fold byte_taken c made) row.cell) (reply_id wire) row.link.first row.link.number all)
          (sym is.stage)
          (cell_read kind (reply_id wire) row.link.first row.link.number wire.unread bytes r answering.read is.asking.form row.cell is.form_kind
          (subst (λ (s : Stage). IsCellBy s row.cell (reply_id wire) row.link.first row.link.number wire.unread) is.stage (stands.cell fine)))

    abbrev walking : State → LentLink
    walking state = record row.link { reading = Some (walked (length bytes) r (Going state)) }

    pub goes_so : (state : State) → run r.tracker.state bytes ≡ Going state
        → Serves reads codes login seen (cell_seen made (record row { link = walking state })) fed link
    goes_so state goes = record {
      entered = stands.entered;
      inside = stands.inside;
      account = stands.account;
      server = stands.server;
      usable = stands.usable;
      state = stands.state;
      quits = stands.quits;
      step = stands.step;
      stepless = stands.stepless;
      written = stands.written;
      bad = bad_is (is_resetting row.link.step) refl ∙ ap is_bad goes ∙ sym fine;
      well = stands.well;
      unread = λ well. record {
        kind = kind;
        is_due = answering.is_due;
        are = are_all;
        read = goes_on kind (reply_id wire) row.link.first row.link.number wire.unread bytes r answering.read state goes;
      };
      cell = λ well. cell_on;
      whose = stands.whose;
      own = stands.own;
      shared = stands.shared;
    }

    -- It fails.
    pub fails_so : (rest : List ℕ) → run r.tracker.state bytes ≡ Failed rest
        → Serves reads codes login seen (record row { link = record row.link { spoilt = true } }) fed link
    fails_so rest fails = record {
      entered = stands.entered;
      inside = stands.inside;
      account = stands.account;
      server = stands.server;
      usable = stands.usable;
      state = stands.state;
      quits = stands.quits;
      step = stands.step;
      stepless = stands.stepless;
      written = stands.written;
      bad = bad_is (is_resetting row.link.step) refl ∙ ap is_bad fails;
      well = λ asked. absurd (true≢false (sym asked ∙ unasked (is_resetting row.link.step) refl));
      unread = λ well. absurd (true≢false well);
      cell = λ well. absurd (true≢false well);
      whose = stands.whose;
      own = stands.own;
      shared = stands.shared;
    }

    -- It ends.

    module _ (end : track_end.ReplyEnd) (rest : List ℕ) (ended : run r.tracker.state bytes ≡ Ended end rest) where
      abbrev used : ℕ
      used = length bytes - length rest

      abbrev ending : LentLink
      ending = record row.link { reading = None; writing = None; step = Other; spoilt = row.link.spoilt || nat_lt used (length bytes) }

      law_ended : read_as kind fed ≡ Ended end rest
      law_ended = ended_same (read_as kind fed) end rest (subst (λ (e : Ending). SameEnd e (read_as kind fed)) ended law_end)

      spoilt_so : has_bytes rest ≡ ending.spoilt
      spoilt_so = behind_bad bytes rest end r.tracker.state ended ∙ ap (λ (was : Bool). was || nat_lt used (length bytes)) (sym fine)

      nothing_behind : ending.spoilt ≡ false → rest ≡ []
      nothing_behind well = none_read rest (spoilt_so ∙ well)

      -- something stood there, so nothing is to begin, and no QUIT was told

      abbrev Stood : Type 0
      Stood = (is_quiet row.link.state.stage ≡ false) ⊎ (is_resetting row.link.step ≡ true)

      not_over : Stood → IsOver row.link.state.stage row.link.step row.link.quits wire.step wire.written → ⊥
      not_over (inl unquiet) is = true≢false (sym is.quiet ∙ unquiet)
      not_over (inr resets) is = true≢false (sym resets ∙ is.answered)

      not_plain : Stood → is_plain link.stage row.link.step ≡ false
      not_plain (inl unquiet) =
          plain_stage link.stage row.link.step (sym (quiet_same reads codes row.link.state link stands.state) ∙ unquiet)
      not_plain (inr resets) = plain_step link.stage row.link.step resets

      stood : Stood → (row.link.next ≡ None) × (row.link.quits ≡ false)
      stood some = by row.link.next row.link.writing refl refl stands.written where
        by : (next : Option Begins) (writing : Option Writing) → row.link.next ≡ next → row.link.writing ≡ writing
            → IsWrittenBy next writing row.link.state.stage row.link.step row.link.quits wire.step wire.written link → (row.link.next ≡ None) × (row.link.quits ≡ false)
        by None None same writes is = absurd (not_over some is)
        by None (Some w) same writes is = (same, spelt_stays link.stage row.link.step row.link.quits link w.bytes is.spelt_so (not_plain some))
        by (Some next) writing same writes is = absurd (not_over some is.0)

      over_now : (stage : Stage) (said : Option StepText) (there : Link) → is_quiet stage ≡ true → IsStep said [] → Stood
          → IsWrittenBy row.link.next None stage Other row.link.quits said [] there
      over_now stage said there quiet is_step some =
          subst (λ (next : Option Begins). IsWrittenBy next None stage Other row.link.quits said [] there) (sym (stood some).0)
          (record { quiet = quiet; answered = refl; stays = (stood some).1; is_step = is_step; whole = none_whole; nothing = nothing_said said })

      -- a STMT_RESET, of which no story tells

      abbrev reset_wire : Wire
      reset_wire = record wire { unread = rest; written = []; step = None }

      abbrev RowBehind : Stage → Row
      RowBehind stage = noted_if (answered_in stage) (code_end end) (number_read (cell_seen (take used made) row).cell)
          (record row { cell = None; link = record ending { state = heard_in stage (code_end end) (number_read (cell_seen (take used made) row).cell) row.link.state } })

      pub reset_so : is_resetting row.link.step ≡ true
          → Serves reads codes login seen (answered (code_end end) (cell_seen (take used made) (record row { link = ending }))) reset_wire link
      reset_so resets =
          subst (λ (s : Stage). Serves reads codes login seen (RowBehind s) reset_wire link) (sym quiet) (record {
            entered = stands.entered;
            inside = stands.inside;
            account = stands.account;
            server = stands.server;
            usable = stands.usable;
            state = stands.state;
            quits = stands.quits;
            step = tt;
            stepless = λ other. absurd (true≢false other);
            written = over_now row.link.state.stage None link is_quiet_so tt (inr resets);
            well = λ asked. absurd (true≢false (sym asked ∙ ap is_asked quiet));
            bad = law_fine link.stage (sym (quiet_same reads codes row.link.state link stands.state) ∙ is_quiet_so) ∙ spoilt_so;
            unread = λ well. record { none = nothing_behind well; unanswered = ap kind_answered quiet };
            cell = λ well. subst (λ (s : Stage). IsCellBy s None (reply_id reset_wire) row.link.first row.link.number rest) (sym quiet) tt;
            whose = stands.whose;
            own = stands.own;
            shared = stands.shared;
          }) where
            is_quiet_so : is_quiet row.link.state.stage ≡ true
            is_quiet_so = stands.stepless (resets_other row.link.step resets)

            quiet : row.link.state.stage ≡ Quiet
            quiet = quiet_is row.link.state.stage is_quiet_so

            law_fine : (there : view.Stage) → servers.is_quiet there ≡ true → is_bad_at reset_wire there ≡ has_bytes rest
            law_fine view.Quiet is = refl
            law_fine (view.Asked question) is = absurd (false≢true is)
            law_fine (view.Answered question) is = absurd (false≢true is)

      -- the answer to a question

      module _ (apart : AreApart codes) (is : IsAsked) (plain : is_resetting row.link.step ≡ false) (new : View) where
        abbrev payloads : List (List ℕ)
        payloads = payloads_in (reply_id wire) (take (length all - length rest) all)

        abbrev reply : Reply
        reply = record { to_prepare = is_prepare (command_of is.question); payloads = payloads }

        abbrev heard_wire : Wire
        heard_wire = record wire { unread = rest; written = [] }

        abbrev number : Option ℕ
        number = number_read (cell_seen (take used made) row).cell

        end_is : code_end end ≡ end_of reply
        end_is = end_told (command_of is.question) (reply_id wire) all rest end (omega arith) are_all
            (subst (λ (k : ReplyKind). read_as k fed ≡ Ended end rest) (sym is.is_kind) law_ended)

        module _ (heard_in_so : IsHeardIn reads is.question reply seen new) (numbered : IsNumberFor is.asking.form number payloads) where
          other : row.link.step ≡ Other
          other = other_is row.link.step (plain_other row.link.step (is_quiet row.link.state.stage) stands.stepless (ap is_quiet is.stage))

          linked : IsLink reads codes row.link.state link
          linked = is_link reads codes row.link.state link (Answered is.asking) is.stage refl stands.state

          said_other : IsStepOf Other wire.step
          said_other = subst (λ (s : Step). IsStepOf s wire.step) other stands.step

          state_so : IsLink reads codes (heard_in (Answered is.asking) (code_end end) number row.link.state) (view.heard reads is.question reply link)
          state_so =
              subst (λ (state : LinkState). IsLink reads codes state (view.heard reads is.question reply link))
              (ap (λ (s : Stage). heard_in s (end_of reply) (one_number payloads) row.link.state) is.stage
              ∙ sym (heard_numbered is.asking (end_of reply) number payloads row.link.state numbered)
              ∙ ap (λ (e : ReplyEnd). heard_in (Answered is.asking) e number row.link.state) (sym end_is))
              (heard_so reads codes row.link.state link is.question reply apart linked is.there)

          -- the session that it carries

          for : IsFor is.asking.purpose row.link.state.carries
          for = subst (λ (s : Stage). IsOwn s row.link.state.carries) is.stage stands.own

          shared : IsShared (view.Answered is.question) row.multiplex
          shared = subst (λ (there : view.Stage). IsShared there row.multiplex) is.there stands.shared

          named : (n : SessionName) (purpose : Purpose) → is_own purpose ≡ false → IsFor purpose row.link.state.carries → name_in row.link.state.carries ≡ Some n
              → name_for purpose ≡ Some n
          named n (purposes.Statement name ordinal key) not_own of carried = sym (of name refl) ∙ carried
          named n (purposes.Prep name ordinal key) not_own of carried = sym (of name refl) ∙ carried
          named n (purposes.Sync name) not_own of carried = sym (of name refl) ∙ carried
          named n purposes.Own not_own of carried = absurd (true≢false not_own)
          named n (purposes.End name) not_own of carried = sym (of name refl) ∙ carried
          named n (purposes.Capture name) not_own of carried = sym (of name refl) ∙ carried

          abbrev behind : LeftSession → LeftSession
          behind left = left_behind is.asking row.multiplex (code_end end) number left

          left_asked : (left : LeftSession) (n : SessionName) → is_own is.asking.purpose ≡ false → name_in row.link.state.carries ≡ Some n → IsLeft seen n left
              → IsLeft new n (record left {
                pin = pin_for is.asking.purpose is.asking.form row.multiplex (code_end end) left.pin;
                id = id_by is.asking (code_end end) number left.id;
              })
          left_asked left n not_own carried was =
              subst (λ (e : ReplyEnd). IsLeft new n (record left { pin = pin_for is.asking.purpose is.asking.form row.multiplex e left.pin; id = id_by is.asking e number left.id }))
              (sym end_is)
              (left_heard reads codes seen new is.question payloads row.multiplex is.asking number left n is.asks shared numbered
              (heard_in_so.held n ∙ held_there reads codes is.asking.purpose is.question reply seen.held n is.asks.purpose (named n is.asking.purpose not_own for carried))
              (heard_in_so.lives n) (heard_in_so.lasting n) was)

          left_own : (left : LeftSession) (n : SessionName) → is.asking.purpose ≡ purposes.Own → IsLeft seen n left → IsLeft new n left
          left_own left n own was =
              let held : new.held n ≡ seen.held n =
              heard_in_so.held n ∙ held_own reads codes is.question reply seen.held n (subst (λ (p : Purpose). IsPurpose codes p is.question) own is.asks.purpose) in
              record {
                earlier = subst (λ (life : ℕ). n.life < life) (sym (heard_in_so.lives n)) was.earlier;
                pin = ap (λ (h : Held). h.pin) held ∙ was.pin;
                id = ap (λ (h : Held). h.id) held ∙ was.id;
                lasting = heard_in_so.lasting n ∙ was.lasting;
              }

          left_now : (left : LeftSession) (n : SessionName) → name_in row.link.state.carries ≡ Some n → IsLeft seen n left → IsLeft new n (behind left)
          left_now left n carried was = by is.asking.purpose refl where
            by : (purpose : Purpose) → is.asking.purpose ≡ purpose → IsLeft new n (left_for purpose is.asking row.multiplex (code_end end) number left)
            by purposes.Own own = left_own left n own was
            by (purposes.Statement name ordinal key) same = left_asked left n (ap is_own same) carried was
            by (purposes.Prep name ordinal key) same = left_asked left n (ap is_own same) carried was
            by (purposes.Sync name) same = left_asked left n (ap is_own same) carried was
            by (purposes.End name) same = left_asked left n (ap is_own same) carried was
            by (purposes.Capture name) same = left_asked left n (ap is_own same) carried was

          holder_now : (n : SessionName) (left : Option LeftSession) → name_in row.link.state.carries ≡ Some n → IsHolder seen n left
              → IsHolder new n (option_map behind left)
          holder_now n None carried holds = holds ∙ sym (heard_in_so.lives n)
          holder_now n (Some left) carried holds = left_now left n carried holds

          whose_now : (carries : Carried) → row.link.state.carries ≡ carries → IsWhose seen carries row.left → IsWhose new carries (option_map behind row.left)
          whose_now Nobody same none = ap (option_map behind) none
          whose_now (Lent n) same holds = holder_now n row.left (ap name_in same) holds
          whose_now (Joined n) same holds = holder_now n row.left (ap name_in same) holds

          pub answer_so : Serves reads codes login new (answered (code_end end) (cell_seen (take used made) (record row { link = ending }))) heard_wire
              (view.heard reads is.question reply link)
          answer_so =
              subst (λ (s : Stage). Serves reads codes login new (RowBehind s) heard_wire (view.heard reads is.question reply link)) (sym is.stage) (record {
                entered = stands.entered;
                inside = stands.inside;
                account = stands.account;
                server = stands.server;
                usable = stands.usable;
                state = inl state_so;
                quits = stands.quits;
                step = said_other;
                stepless = λ other_not. absurd (true≢false other_not);
                written = over_now Quiet wire.step (view.heard reads is.question reply link) refl (step_free wire.step [] said_other) (inl (ap is_quiet is.stage));
                bad = ap (λ (reset : Bool). if reset then is_bad (read_as kinds.Command heard_wire) else has_bytes rest)
                    (step_plain row.link.step wire.step plain stands.step) ∙ spoilt_so;
                well = λ asked. absurd (false≢true asked);
                unread = λ well. record { none = nothing_behind well; unanswered = refl };
                cell = λ well. tt;
                whose = λ here. whose_now row.link.state.carries refl (stands.whose here);
                own = tt;
                shared = tt;
              })
