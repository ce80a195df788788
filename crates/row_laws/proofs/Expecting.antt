-- With the first byte of an answer what stands there runs, and the row stands for the link as before.
use Rattle.std.specs.Prelude.{◌≡◌, ◌⊎◌, ℕ, ◌%◌, ◌^◌, Bool, true, false, if◌then◌else◌, List, [], ◌∷◌, length, Option, Some, None}
use Rattle.std.proofs.Common.{refl, sym, ap, ◌∙◌, subst, inl, inr, arith}
use Rattle.std.proofs.lemmas.Bool.{false≢true, true≢false}
use Rattle.mx_base.specs.Fields.{AreBytes}
use Rattle.reply_relay.specs.Cells.{CellRead}
use Rattle.reply_track.specs.Runs.{run}
use Rattle.reply_track.specs.Runs.Ending.{Going}
use Rattle.reply_track.specs.Tracking.{started}
use Rattle.reply_track.specs.declared.reply.ReplyKind.{ReplyKind}
use Rattle.reply_track.specs.declared.reply.ReplyKind.TheVariants as kinds
use Rattle.server_rule.specs.Classes.{Reads}
use Rattle.server_side.specs.Account.{Account as Login}
use Rattle.private_model.specs.Names.{SessionName}
use Rattle.private_model.specs.Story.{command_of}
use Rattle.private_model.specs.View as view
use Rattle.private_model.specs.View.{Link, View, ran_by}
use Rattle.log_story.specs.Honest.{number_for}
use Rattle.log_story.specs.Servers.{kind_by, read_as, reply_id}
use Rattle.log_story.specs.Tale.{Wire, is_reset_step}
use Rattle.link_state.specs.Asks.{joined_for, kind_of}
use Rattle.link_state.specs.Dones.{is_quiet}
use Rattle.link_state.specs.States.{ran_in}
use Rattle.link_state.specs.declared.asking.Asking.{Asking}
use Rattle.link_state.specs.declared.asking.Purpose.{Purpose}
use Rattle.link_state.specs.declared.asking.Purpose.TheVariants as purposes
use Rattle.link_state.specs.declared.state.Carried.{Carried}
use Rattle.link_state.specs.declared.state.Carried.TheVariants.{Nobody, Lent, Joined}
use Rattle.link_state.specs.declared.state.LinkState.{LinkState}
use Rattle.link_state.specs.declared.state.Stage.{Stage}
use Rattle.link_state.specs.declared.state.Stage.TheVariants.{Quiet, Asked, Answered}
use Rattle.link_state.specs.Ids.{id_behind}
use Rattle.link_state.specs.declared.writing.Writing.{Writing}
use Rattle.link_laws.specs.Stands.{Codes, IsLink}
use Rattle.lent_link.specs.Hears.{expecting, expecting_at, expecting_by, expecting_if, id_written}
use Rattle.lent_link.specs.Pieces.{IsRead}
use Rattle.lent_link.specs.Reads.{reading}
use Rattle.lent_link.specs.Rests.{is_resetting}
use Rattle.lent_link.specs.declared.link.Begins.{Begins}
use Rattle.lent_link.specs.declared.link.LentLink.{LentLink}
use Rattle.lent_link.specs.declared.link.Step.{Step}
use Rattle.lent_link.specs.declared.link.Step.TheVariants.{Other, Closes, Resets}
use Rattle.lent_link.specs.declared.reading.Reading.{Reading}
use Rattle.served_link.specs.declared.row.LeftSession.{LeftSession}
use Rattle.served_link.specs.declared.row.Row.{Row}
use Rattle.row_laws.specs.Rows.{Serves, IsShared, is_asked}
use Rattle.row_laws.specs.Unread.{IsCellBy, IsDry, IsUnreadBy, has_bytes, is_bad, is_bad_at, is_bad_there, kind_answered, kind_due, sought}
use Rattle.row_laws.specs.Whose.{IsFor, IsHolder, IsOwn, IsWhose, name_in}
use Rattle.row_laws.specs.Written.{IsGoing, IsOver, IsSpelt, IsWrittenBy, is_other, spelt_as}
use Rattle.row_laws.proofs.Seeing.{IsRan, asked_seen, is_asked_law, ran_parts, ran_stage, run_so}

-- Whose it is, as a statement of its session runs.

joined_name : (purpose : Purpose) (carries : Carried) → IsFor purpose carries → IsFor purpose (joined_for purpose carries)
joined_name (purposes.Statement name ordinal key) carries for n same = same
joined_name (purposes.Prep name ordinal key) carries for n same = for n same
joined_name (purposes.Sync name) carries for n same = for n same
joined_name purposes.Own carries for n same = for n same
joined_name (purposes.End name) carries for n same = for n same
joined_name (purposes.Capture name) carries for n same = for n same

same_name : (a b : SessionName) → Some a ≡ Some b → a ≡ b
same_name a b same = cc

holder_of : (seen : View) (carries : Carried) (left : Option LeftSession) (n : SessionName) → name_in carries ≡ Some n → IsWhose seen carries left
    → IsHolder seen n left
holder_of seen Nobody left n same whose = absurd (cc)
holder_of seen (Lent m) left n same whose = subst (λ (name : SessionName). IsHolder seen name left) (same_name m n same) whose
holder_of seen (Joined m) left n same whose = subst (λ (name : SessionName). IsHolder seen name left) (same_name m n same) whose

joined_whose : (seen : View) (purpose : Purpose) (carries : Carried) (left : Option LeftSession) → IsFor purpose carries → IsWhose seen carries left
    → IsWhose seen (joined_for purpose carries) left
joined_whose seen (purposes.Statement name ordinal key) carries left for whose = holder_of seen carries left name (for name refl) whose
joined_whose seen (purposes.Prep name ordinal key) carries left for whose = whose
joined_whose seen (purposes.Sync name) carries left for whose = whose
joined_whose seen purposes.Own carries left for whose = whose
joined_whose seen (purposes.End name) carries left for whose = whose
joined_whose seen (purposes.Capture name) carries left for whose = whose

-- What is written is of the same command.

spelt_ran : (there : view.Stage) (step : Step) (quits : Bool) (old new : Link) (said : List ℕ) → new.live ≡ old.live → IsSpelt there step quits old said
    → IsSpelt (ran_stage there) step quits new said
spelt_ran (view.Asked question) step false old new said live is =
    subst (λ (of : (key : ℕ) → Option ℕ). said ≡ spelt_as (command_of question) (number_for question of)) (sym live) is
spelt_ran (view.Answered question) step false old new said live is =
    subst (λ (of : (key : ℕ) → Option ℕ). said ≡ spelt_as (command_of question) (number_for question of)) (sym live) is
spelt_ran (view.Asked question) step true old new said live is = absurd is
spelt_ran (view.Answered question) step true old new said live is = absurd is
spelt_ran view.Quiet (Closes number) false old new said live is = is
spelt_ran view.Quiet (Closes number) true old new said live is = absurd is
spelt_ran view.Quiet (Resets number) false old new said live is = is
spelt_ran view.Quiet (Resets number) true old new said live is = absurd is
spelt_ran view.Quiet Other true old new said live is = is
spelt_ran view.Quiet Other false old new said live is = absurd is

shared_ran : (there : view.Stage) (multiplex : Option Bool) → IsShared there multiplex → IsShared (ran_stage there) multiplex
shared_ran view.Quiet multiplex is = is
shared_ran (view.Asked question) multiplex is = is
shared_ran (view.Answered question) multiplex is = is

-- Nothing was read before it ran, so nothing of that was bad.

none_read : (bytes : List ℕ) → has_bytes bytes ≡ false → bytes ≡ []
none_read [] none = refl
none_read (byte ∷ bytes) none = absurd (true≢false none)

fine_ran : (wire : Wire) (there : view.Stage) → is_bad_at wire there ≡ false → is_bad_at wire (ran_stage there) ≡ false
fine_ran wire view.Quiet fine = fine
fine_ran wire (view.Answered question) fine = fine
fine_ran wire (view.Asked question) fine =
    ap (λ (unread : List ℕ). is_bad (run (started (record { kind = kind_by (command_of question); server = reply_id wire; client = 0; number = 0 })) unread))
    (none_read wire.unread fine)

fine_there : (wire : Wire) (there : view.Stage) (reset : Bool) → (if reset then is_bad (read_as kinds.Command wire) else is_bad_at wire there) ≡ false
    → (if reset then is_bad (read_as kinds.Command wire) else is_bad_at wire (ran_stage there)) ≡ false
fine_there wire there true fine = fine
fine_there wire there false fine = fine_ran wire there fine

pub cell_quiet : (stage : Stage) (cell : Option CellRead) (id first number : ℕ) (unread : List ℕ) → is_quiet stage ≡ true → IsCellBy stage cell id first number unread
cell_quiet Quiet cell id first number unread quiet = tt
cell_quiet (Asked asking) cell id first number unread quiet = absurd (false≢true quiet)
cell_quiet (Answered asking) cell id first number unread quiet = absurd (false≢true quiet)

-- An answer begins with the sequence id that code has: that behind what is written.

abbrev IsAwaited : LentLink → Type 0
IsAwaited at = (is_resetting at.step ≡ true) ⊎ (is_asked at.state.stage ≡ true)

abbrev IsTimely : LentLink → Wire → Type 0
IsTimely at wire = at.reading ≡ None → IsAwaited at → reply_id wire ≡ id_written at.writing

asked_unquiet : (stage : Stage) → is_asked stage ≡ true → is_quiet stage ≡ true → ⊥
asked_unquiet Quiet asked quiet = false≢true asked
asked_unquiet (Asked asking) asked quiet = false≢true quiet
asked_unquiet (Answered asking) asked quiet = false≢true asked

over_unawaited : (at : LentLink) (wire : Wire) → IsAwaited at → IsOver at.state.stage at.step at.quits wire.step wire.written → ⊥
over_unawaited at wire (inl resets) over = true≢false (sym resets ∙ over.answered)
over_unawaited at wire (inr asked) over = asked_unquiet at.state.stage asked over.quiet

timely_by : (at : LentLink) (wire : Wire) (link : Link) (next : Option Begins) (writing : Option Writing) → IsAwaited at
    → IsWrittenBy next writing at.state.stage at.step at.quits wire.step wire.written link → reply_id wire ≡ id_written writing
timely_by at wire link None (Some w) awaited is = ap id_behind is.front
timely_by at wire link None None awaited is = absurd (over_unawaited at wire awaited is)
timely_by at wire link (Some next) writing awaited is = absurd (over_unawaited at wire awaited is.0)

-- a reply of which nothing was read
begins_read : (kind : ReplyKind) (id other first number : ℕ) (unread : List ℕ) → unread ≡ [] → id ≡ other
    → IsRead (sought kind id first number) unread (reading kind other first number)
begins_read kind id other first number unread none timely = record {
  goes = ap (run (started (sought kind id first number))) none ∙ ap (λ (n : ℕ). Going (started (sought kind n first number))) timely;
  count = ap (λ (bytes : List ℕ). length bytes % 2 ^ 64) none;
}

no_bytes : (bytes : List ℕ) → bytes ≡ [] → AreBytes bytes
no_bytes bytes none = subst (λ (xs : List ℕ). AreBytes xs) (sym none) (λ i. omega arith)

module _ (reads : Reads) (codes : Codes) (login : Login) (seen : View) (row : Row) (wire : Wire) (link : Link)
    (stands : Serves reads codes login seen row wire link) where
  abbrev runs : Link
  runs = ran_by reads link.stage link

  parts : IsRan link runs
  parts = ran_parts reads link

  abbrev Goal : LentLink → Type 0
  Goal at = Serves reads codes login seen (record row { link = at }) wire runs

  going_ran : (writing : Option Writing) → IsGoing writing row.link.state.stage row.link.step row.link.quits wire.step wire.written link
      → IsGoing writing row.link.state.stage row.link.step row.link.quits wire.step wire.written runs
  going_ran None is = is
  going_ran (Some w) is = record {
    some = is.some;
    within = is.within;
    spelt_so = subst (λ (there : view.Stage). IsSpelt there row.link.step row.link.quits runs w.bytes) (sym parts.stage)
        (spelt_ran link.stage row.link.step row.link.quits link runs w.bytes parts.live is.spelt_so);
    front = is.front;
  }

  written_ran : (next : Option Begins) → IsWrittenBy next row.link.writing row.link.state.stage row.link.step row.link.quits wire.step wire.written link
      → IsWrittenBy next row.link.writing row.link.state.stage row.link.step row.link.quits wire.step wire.written runs
  written_ran None is = going_ran row.link.writing is
  written_ran (Some next) is = is

  bad_ran : is_bad_there wire runs.stage ≡ row.link.spoilt
  bad_ran = ap (is_bad_there wire) parts.stage ∙ by link.stage refl where
    by : (there : view.Stage) → link.stage ≡ there → is_bad_there wire (ran_stage there) ≡ row.link.spoilt
    by view.Quiet same = ap (is_bad_there wire) (sym same) ∙ stands.bad
    by (view.Answered question) same = ap (is_bad_there wire) (sym same) ∙ stands.bad
    by (view.Asked question) same =
        let fine : row.link.spoilt ≡ false = stands.well (asked_seen reads codes row.link.state link stands.state (ap is_asked_law same)) in
        fine_there wire (view.Asked question) (is_reset_step wire.step) (ap (is_bad_there wire) (sym same) ∙ stands.bad ∙ fine) ∙ sym fine

  shared_so : IsShared runs.stage row.multiplex
  shared_so = subst (λ (there : view.Stage). IsShared there row.multiplex) (sym parts.stage) (shared_ran link.stage row.multiplex stands.shared)

  -- it may run unseen: nothing is new in code
  pub keeps : Goal row.link
  keeps = record {
    entered = stands.entered;
    inside = stands.inside;
    account = parts.account ∙ stands.account;
    server = parts.server ∙ stands.server;
    usable = parts.usable ∙ stands.usable;
    state = inr (run_so reads codes row.link.state link stands.state);
    quits = stands.quits;
    step = stands.step;
    stepless = stands.stepless;
    written = written_ran row.link.next stands.written;
    bad = bad_ran;
    well = stands.well;
    unread = stands.unread;
    cell = stands.cell;
    whose = stands.whose;
    own = stands.own;
    shared = shared_so;
  }

  module _ (fine : row.link.spoilt ≡ false) where
    timely : IsTimely row.link wire
    timely = λ none awaited. timely_by row.link wire link row.link.next row.link.writing awaited stands.written

    dry : (none : row.link.reading ≡ None) → IsDry row.link.state.stage wire.unread
    dry none =
        subst (λ (under_way : Option Reading). IsUnreadBy under_way row.link.step row.link.state.stage (reply_id wire) row.link.first row.link.number wire.unread)
        none (stands.unread fine)

    -- a STMT_RESET is answered

    abbrev resetting : LentLink
    resetting = record row.link { reading = Some (reading kinds.Command (id_written row.link.writing) row.link.first row.link.number) }

    resets : (number : ℕ) → row.link.step ≡ Resets number → row.link.reading ≡ None → Goal resetting
    resets number step none = record {
      entered = stands.entered;
      inside = stands.inside;
      account = parts.account ∙ stands.account;
      server = parts.server ∙ stands.server;
      usable = parts.usable ∙ stands.usable;
      state = inr (run_so reads codes row.link.state link stands.state);
      quits = stands.quits;
      step = stands.step;
      stepless = stands.stepless;
      written = written_ran row.link.next stands.written;
      bad = bad_ran;
      well = stands.well;
      unread = λ well. record {
        kind = kinds.Command;
        is_due = ap (λ (at : Step). kind_due at row.link.state.stage) step;
        are = no_bytes wire.unread (dry none).none;
        read = begins_read kinds.Command (reply_id wire) (id_written row.link.writing) row.link.first row.link.number wire.unread (dry none).none
            (timely none (inl (ap is_resetting step)));
      };
      cell = λ well. cell_quiet row.link.state.stage row.cell (reply_id wire) row.link.first row.link.number wire.unread (stands.stepless (ap is_other step));
      whose = stands.whose;
      own = stands.own;
      shared = shared_so;
    }

    -- a question is answered

    module _ (asking : Asking) (step : (stage : Stage) → kind_due row.link.step stage ≡ kind_answered stage)
        (asked : row.link.state.stage ≡ Asked asking) (none : row.link.reading ≡ None) where
      abbrev running : LinkState
      running = ran_in (Asked asking) row.link.state

      abbrev answering : LentLink
      answering = record row.link {
        state = running;
        reading = Some (reading (kind_of asking.form) (id_written row.link.writing) row.link.first row.link.number);
      }

      unquiet : is_quiet row.link.state.stage ≡ false
      unquiet = ap is_quiet asked

      for : IsFor asking.purpose row.link.state.carries
      for = subst (λ (stage : Stage). IsOwn stage row.link.state.carries) asked stands.own

      written_on : (next : Option Begins) → IsWrittenBy next row.link.writing row.link.state.stage row.link.step row.link.quits wire.step wire.written runs
          → IsWrittenBy next row.link.writing running.stage row.link.step row.link.quits wire.step wire.written runs
      written_on (Some next) is = absurd (true≢false (sym is.0.quiet ∙ unquiet))
      written_on None is = over row.link.writing is where
        over : (writing : Option Writing) → IsGoing writing row.link.state.stage row.link.step row.link.quits wire.step wire.written runs
            → IsGoing writing running.stage row.link.step row.link.quits wire.step wire.written runs
        over None is = absurd (true≢false (sym is.quiet ∙ unquiet))
        over (Some w) is = is

      begins : Goal answering
      begins = record {
        entered = stands.entered;
        inside = stands.inside;
        account = parts.account ∙ stands.account;
        server = parts.server ∙ stands.server;
        usable = parts.usable ∙ stands.usable;
        state = inl (subst (λ (stage : Stage). IsLink reads codes (ran_in stage row.link.state) runs) asked (run_so reads codes row.link.state link stands.state));
        quits = stands.quits;
        step = stands.step;
        stepless = λ other. absurd (true≢false (sym (stands.stepless other) ∙ unquiet));
        written = written_on row.link.next (written_ran row.link.next stands.written);
        bad = bad_ran;
        well = λ asked_so. absurd (false≢true asked_so);
        unread = λ well. record {
          kind = kind_of asking.form;
          is_due = step (Answered asking);
          are = no_bytes wire.unread (dry none).none;
          read = begins_read (kind_of asking.form) (reply_id wire) (id_written row.link.writing) row.link.first row.link.number wire.unread
              (dry none).none (timely none (inr (ap is_asked asked)));
        };
        cell = λ well. subst (λ (stage : Stage). IsCellBy stage row.cell (reply_id wire) row.link.first row.link.number wire.unread) asked (stands.cell fine);
        whose = λ here. joined_whose seen asking.purpose row.link.state.carries row.left for (stands.whose here);
        own = joined_name asking.purpose row.link.state.carries for;
        shared = shared_so;
      }

    by_stage : (stage : Stage) → row.link.state.stage ≡ stage → ((at : Stage) → kind_due row.link.step at ≡ kind_answered at)
        → row.link.reading ≡ None → Goal (expecting_at stage row.link)
    by_stage (Asked asking) same step none =
        subst (λ (stage : Stage). Goal (record row.link {
          state = ran_in stage row.link.state;
          reading = Some (reading (kind_of asking.form) (id_written row.link.writing) row.link.first row.link.number);
        })) (sym same) (begins asking step same none)
    by_stage Quiet same step none = keeps
    by_stage (Answered asking) same step none = keeps

    by_step : (step : Step) → row.link.step ≡ step → row.link.reading ≡ None → Goal (expecting_by step row.link)
    by_step (Resets number) same none = resets number same none
    by_step Other same none =
        by_stage row.link.state.stage refl (λ at. ap (λ (s : Step). kind_due s at) same) none
    by_step (Closes number) same none =
        by_stage row.link.state.stage refl (λ at. ap (λ (s : Step). kind_due s at) same) none

    by_reading : (under_way : Option Reading) → row.link.reading ≡ under_way → Goal (expecting_if under_way row.link)
    by_reading (Some r) same = keeps
    by_reading None same = by_step row.link.step refl same

    pub expect_so : Goal (expecting row.link)
    expect_so = by_reading row.link.reading refl
