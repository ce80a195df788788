-- A row stands for its link as something begins there, and as its bytes go on.
use Rattle.std.specs.Prelude.{◌≡◌, ◌<◌, ◌≤◌, ℕ, ◌+◌, Bool, true, false, ◌||◌, if◌then◌else◌, fold, List, [], ◌++◌, drop, length, take, Option, Some, None}
use Rattle.std.proofs.Common.{refl, sym, ap, ◌∙◌, subst, inl, arith}
use Rattle.std.proofs.lemmas.Bool.{false≢true, true≢false}
use Rattle.std.proofs.lemmas.Option.{none-some}
use Rattle.packet_frame.specs.Packets.{spelling}
use Rattle.reply_relay.specs.Cells.{CellRead, byte_taken, new_cell}
use Rattle.reply_track.specs.Runs.{renumbered, run}
use Rattle.reply_track.specs.Tracking.{started}
use Rattle.reply_track.specs.declared.reply.ReplyKind.{ReplyKind}
use Rattle.reply_track.specs.declared.reply.ReplyKind.TheVariants as kinds
use Rattle.server_rule.specs.Classes.{Reads}
use Rattle.server_side.specs.Account.{Account as Login}
use Rattle.private_model.specs.Names.{SessionName}
use Rattle.private_model.specs.Commands.{Quit}
use Rattle.private_model.specs.Story.{Question, command_of}
use Rattle.private_model.specs.View as view
use Rattle.private_model.specs.View.{Link, View}
use Rattle.log_story.specs.Plan as plan
use Rattle.log_story.specs.Honest.{number_for}
use Rattle.log_story.specs.Plan.{StepText, step_payload, text_payload}
use Rattle.log_story.specs.Servers as servers
use Rattle.log_story.specs.Servers.{kind_by, read_as, reply_id}
use Rattle.log_story.specs.Tale.{Wire, is_reset_step}
use Rattle.link_state.specs.Asks.{kind_of}
use Rattle.link_state.specs.Dones.{is_quiet}
use Rattle.link_state.specs.States as states
use Rattle.link_state.specs.Spells.{spelt}
use Rattle.link_state.specs.Writes as writes
use Rattle.link_state.specs.declared.asking.Asking.{Asking}
use Rattle.link_state.specs.declared.asking.Form.{Form}
use Rattle.link_state.specs.declared.asking.Form.TheVariants.{Text, Fields, Prepare, SetId, ReadId, Reset}
use Rattle.link_state.specs.declared.state.Stage.{Stage}
use Rattle.link_state.specs.declared.state.Stage.TheVariants.{Quiet, Asked, Answered}
use Rattle.link_state.specs.declared.writing.Writing.{Writing}
use Rattle.link_laws.proofs.Keeps.{asked_so, closed_so}
use Rattle.link_laws.specs.Stands.{Codes, IsLink}
use Rattle.lent_link.specs.Rests.{is_resetting}
use Rattle.lent_link.specs.declared.link.Step.{Step}
use Rattle.lent_link.specs.declared.link.Step.TheVariants.{Other, Closes, Resets}
use Rattle.lent_link.specs.declared.reading.Reading.{Reading}
use Rattle.served_link.specs.declared.row.Row.{Row}
use Rattle.row_laws.specs.Begins.{IsAsked, IsCellNext, IsNext, IsNoStep, wire_begun}
use Rattle.row_laws.specs.Rows.{IsShared, Serves, is_asked}
use Rattle.row_laws.specs.Unread.{IsCellBy, IsCellFor, IsUnreadBy, has_bytes, is_bad, is_bad_at, is_bad_there, kind_answered, kind_due, sought}
use Rattle.row_laws.specs.Whose.{IsUntouched, IsWhose, name_in}
use Rattle.row_laws.specs.Written.{IsBegun, IsOver, IsSpelt, IsStepOf, is_other, spelt_as}
use Rattle.row_laws.proofs.Expecting.{cell_quiet}
use Rattle.row_laws.proofs.Framing.{whose_lent, whose_on}
use Rattle.row_laws.proofs.Hearing.{other_plain, plain_other, quiet_is, step_plain, step_reset}
use Rattle.row_laws.proofs.Seeing.{is_link, quiet_same}
use Rattle.row_laws.proofs.Splitting.{id_short, take_on}

no_step_of : (step : Option StepText) → IsNoStep step → IsStepOf Other step
no_step_of None is = tt
no_step_of (Some (plan.Asks command)) is = tt
no_step_of _ is = absurd is

no_step_resets : (step : Option StepText) → IsNoStep step → is_reset_step step ≡ false
no_step_resets None is = refl
no_step_resets (Some (plan.Asks command)) is = refl
no_step_resets _ is = absurd is

-- nothing is read of an answer of which nothing came
cell_next : (form : Form) (cell : Option CellRead) (id first number : ℕ) (unread : List ℕ) → unread ≡ [] → IsCellNext form cell
    → IsCellFor form cell id first number unread
cell_next ReadId cell id first number unread none next =
    next ∙ ap (λ (bytes : List ℕ). Some (fold byte_taken new_cell (renumbered (started (sought kinds.Command id first number)) bytes))) (sym none)
cell_next (Text class) cell id first number unread none next = tt
cell_next Fields cell id first number unread none next = tt
cell_next (Prepare class) cell id first number unread none next = tt
cell_next (SetId n) cell id first number unread none next = tt
cell_next Reset cell id first number unread none next = tt

-- nothing was read, so the id doesn't matter
cell_any : (form : Form) (cell : Option CellRead) (id other first number : ℕ) (unread : List ℕ) → unread ≡ [] → IsCellFor form cell id first number unread
    → IsCellFor form cell other first number unread
cell_any ReadId cell id other first number unread none was =
    was ∙ ap (λ (bytes : List ℕ). Some (fold byte_taken new_cell (renumbered (started (sought kinds.Command id first number)) bytes))) none
    ∙ ap (λ (bytes : List ℕ). Some (fold byte_taken new_cell (renumbered (started (sought kinds.Command other first number)) bytes))) (sym none)
cell_any (Text class) cell id other first number unread none was = tt
cell_any Fields cell id other first number unread none was = tt
cell_any (Prepare class) cell id other first number unread none was = tt
cell_any (SetId n) cell id other first number unread none was = tt
cell_any Reset cell id other first number unread none was = tt

pub resets_as : (step : Step) → is_resetting step ≡ true → (number : ℕ) × (step ≡ Resets number)
resets_as (Resets number) is = (number, refl)
resets_as Other is = absurd (false≢true is)
resets_as (Closes number) is = absurd (false≢true is)

pub law_quiet : (there : view.Stage) → servers.is_quiet there ≡ true → there ≡ view.Quiet
law_quiet view.Quiet is = refl
law_quiet (view.Asked question) is = absurd (false≢true is)
law_quiet (view.Answered question) is = absurd (false≢true is)

-- what stands there is no answer, nor does a STMT_RESET, so no reply is under way
due_none : (step : Step) (stage : Stage) → is_resetting step ≡ false → kind_answered stage ≡ None → kind_due step stage ≡ None
due_none Other stage plain unanswered = unanswered
due_none (Closes number) stage plain unanswered = unanswered
due_none (Resets number) stage plain unanswered = absurd (true≢false plain)

some_none : (k : ReplyKind) (due : Option ReplyKind) → due ≡ Some k → due ≡ None → ⊥
some_none k due some none = none-some k (sym none ∙ some)

pub quiet_unanswered : (stage : Stage) → is_quiet stage ≡ true → kind_answered stage ≡ None
quiet_unanswered Quiet quiet = refl
quiet_unanswered (Asked asking) quiet = absurd (false≢true quiet)
quiet_unanswered (Answered asking) quiet = absurd (false≢true quiet)

asked_unanswered : (stage : Stage) → is_quiet stage ≡ false → kind_answered stage ≡ None → is_asked stage ≡ true
asked_unanswered (Asked asking) unquiet unanswered = refl
asked_unanswered Quiet unquiet unanswered = absurd (true≢false unquiet)
asked_unanswered (Answered asking) unquiet unanswered = absurd (none-some (kind_of asking.form) (sym unanswered))

module _ (reads : Reads) (codes : Codes) (login : Login) (seen : View) (row : Row) (wire : Wire) (link : Link)
    (stands : Serves reads codes login seen row wire link) where
  abbrev IsUnreadNow : Option Reading → Step → Stage → (id : ℕ) → Type 0
  IsUnreadNow reading step stage id = IsUnreadBy reading step stage id row.link.first row.link.number wire.unread

  -- where no answer is read, nothing is unread, and no reply is under way
  dry_by : (reading : Option Reading) → is_resetting row.link.step ≡ false → kind_answered row.link.state.stage ≡ None
      → IsUnreadNow reading row.link.step row.link.state.stage (reply_id wire) → (wire.unread ≡ []) × (reading ≡ None)
  dry_by None plain unanswered is = (is.none, refl)
  dry_by (Some r) plain unanswered is =
      absurd (some_none is.kind (kind_due row.link.step row.link.state.stage) is.is_due (due_none row.link.step row.link.state.stage plain unanswered))

  pub dry : is_resetting row.link.step ≡ false → kind_answered row.link.state.stage ≡ None → row.link.spoilt ≡ false → (wire.unread ≡ []) × (row.link.reading ≡ None)
  dry plain unanswered fine = dry_by row.link.reading plain unanswered (stands.unread fine)

  not_reset : is_resetting row.link.step ≡ false → is_reset_step wire.step ≡ false
  not_reset plain = step_plain row.link.step wire.step plain stands.step

  module _ (w : Writing) (count : ℕ) (some : 0 < count) where
    abbrev wrote : Writing
    wrote = writes.wrote count w

    -- What began goes on.

    module _ (going : IsBegun row.link.step row.link.quits w wire.written link) (more : w.sent + count ≤ length w.bytes)
        (unanswered : kind_answered row.link.state.stage ≡ None) where
      abbrev onward : Wire
      onward = record wire { written = wire.written ++ take count (drop w.sent w.bytes) }

      begun_on : IsBegun row.link.step row.link.quits wrote onward.written link
      begun_on = record {
        some = omega (arith, going.some);
        within = more;
        spelt_so = going.spelt_so;
        front = ap (λ (front : List ℕ). front ++ take count (drop w.sent w.bytes)) going.front ∙ take_on w.sent count w.bytes;
      }

      reset_said : (number : ℕ) → row.link.step ≡ Resets number → w.bytes ≡ spelt (step_payload (plan.Resets number))
      reset_said number step =
          by link.stage row.link.quits
          (law_quiet link.stage (sym (quiet_same reads codes row.link.state link stands.state) ∙ stands.stepless (ap is_other step)))
          (subst (λ (s : Step). IsSpelt link.stage s row.link.quits link w.bytes) step going.spelt_so) where
            by : (there : view.Stage) (quits : Bool) → there ≡ view.Quiet → IsSpelt there (Resets number) quits link w.bytes → w.bytes ≡ spelt (step_payload (plan.Resets number))
            by view.Quiet false quiet is = is
            by view.Quiet true quiet is = absurd is
            by (view.Asked question) quits quiet is = absurd (false≢true (ap servers.is_quiet quiet))
            by (view.Answered question) quits quiet is = absurd (false≢true (ap servers.is_quiet quiet))

      id_kept : is_resetting row.link.step ≡ true → reply_id onward ≡ reply_id wire
      id_kept resets =
          let step = resets_as row.link.step resets in
          let bytes : w.bytes ≡ spelling 0 (step_payload (plan.Resets step.0)) = reset_said step.0 step.1 in
          id_short (step_payload (plan.Resets step.0)) wrote (omega arith) bytes onward.written begun_on.front (omega arith)
          ∙ sym (id_short (step_payload (plan.Resets step.0)) w (omega arith) bytes wire.written going.front (omega arith))

      bad_on : (resets : Bool) → is_resetting row.link.step ≡ resets → is_bad_there onward link.stage ≡ row.link.spoilt
      bad_on true resets =
          let step = resets_as row.link.step resets in
          let reset : is_reset_step wire.step ≡ true = step_reset row.link.step wire.step step.0 step.1 stands.step in
          ap (λ (is : Bool). if is then is_bad (read_as kinds.Command onward) else is_bad_at onward link.stage) reset
          ∙ ap (λ (id : ℕ). is_bad (run (started (record { kind = kinds.Command; server = id; client = 0; number = 0 })) wire.unread)) (id_kept resets)
          ∙ ap (λ (is : Bool). if is then is_bad (read_as kinds.Command wire) else is_bad_at wire link.stage) (sym reset) ∙ stands.bad
      bad_on false plain =
          ap (λ (is : Bool). if is then is_bad (read_as kinds.Command onward) else is_bad_at onward link.stage) (not_reset plain)
          ∙ by link.stage refl
          (sym (ap (λ (is : Bool). if is then is_bad (read_as kinds.Command wire) else is_bad_at wire link.stage) (not_reset plain)) ∙ stands.bad) where
            by : (there : view.Stage) → link.stage ≡ there → is_bad_at wire there ≡ row.link.spoilt → is_bad_at onward there ≡ row.link.spoilt
            by view.Quiet same was = was
            by (view.Asked question) same was = was
            by (view.Answered question) same was =
                let unquiet : is_quiet row.link.state.stage ≡ false = quiet_same reads codes row.link.state link stands.state ∙ ap servers.is_quiet same in
                let fine : row.link.spoilt ≡ false = stands.well (asked_unanswered row.link.state.stage unquiet unanswered) in
                ap (λ (bytes : List ℕ). is_bad (run (started (record { kind = kind_by (command_of question); server = reply_id onward; client = 0; number = 0 })) bytes))
                (dry plain unanswered fine).0 ∙ sym fine

      unread_on : (reading : Option Reading) → IsUnreadNow reading row.link.step row.link.state.stage (reply_id wire)
          → IsUnreadNow reading row.link.step row.link.state.stage (reply_id onward)
      unread_on None is = is
      unread_on (Some r) is = by (is_resetting row.link.step) refl where
        by : (resets : Bool) → is_resetting row.link.step ≡ resets → IsUnreadNow (Some r) row.link.step row.link.state.stage (reply_id onward)
        by true resets = subst (λ (id : ℕ). IsUnreadNow (Some r) row.link.step row.link.state.stage id) (sym (id_kept resets)) is
        by false plain =
            absurd (some_none is.kind (kind_due row.link.step row.link.state.stage) is.is_due (due_none row.link.step row.link.state.stage plain unanswered))

      cell_on : row.link.spoilt ≡ false → IsCellBy row.link.state.stage row.cell (reply_id onward) row.link.first row.link.number wire.unread
      cell_on fine = by row.link.state.stage refl (stands.cell fine) where
        by : (stage : Stage) → row.link.state.stage ≡ stage → IsCellBy stage row.cell (reply_id wire) row.link.first row.link.number wire.unread
            → IsCellBy stage row.cell (reply_id onward) row.link.first row.link.number wire.unread
        by Quiet same is = tt
        by (Answered asking) same is = absurd (none-some (kind_of asking.form) (sym unanswered ∙ ap kind_answered same))
        by (Asked asking) same is =
            let plain : is_resetting row.link.step ≡ false =
            other_plain row.link.step (plain_other row.link.step (is_quiet row.link.state.stage) stands.stepless (ap is_quiet same)) in
            cell_any asking.form row.cell (reply_id wire) (reply_id onward) row.link.first row.link.number wire.unread (dry plain unanswered fine).0 is

      pub going_so : Serves reads codes login seen (record row { link = record row.link { next = None; writing = Some wrote } }) onward link
      going_so = record {
        entered = stands.entered;
        inside = stands.inside;
        account = stands.account;
        server = stands.server;
        usable = stands.usable;
        state = stands.state;
        quits = stands.quits;
        step = stands.step;
        stepless = stands.stepless;
        written = begun_on;
        bad = bad_on (is_resetting row.link.step) refl;
        well = stands.well;
        unread = λ fine. unread_on row.link.reading (stands.unread fine);
        cell = cell_on;
        whose = stands.whose;
        own = stands.own;
        shared = stands.shared;
      }

    -- Something begins.

    module _ (over : IsOver row.link.state.stage row.link.step row.link.quits wire.step wire.written) (unsent : w.sent ≡ 0) (within : count ≤ length w.bytes)
        (new : View) (untouched : (n : SessionName) → name_in row.link.state.carries ≡ Some n → IsUntouched seen new n row.left) where
      begun_with : (step : Step) (quits : Bool) (there : Link) → IsSpelt there.stage step quits there w.bytes → IsBegun step quits wrote (take count w.bytes) there
      begun_with step quits there said = record {
        some = omega (arith, some);
        within = omega (arith, unsent, within);
        spelt_so = said;
        front = let same : count ≡ w.sent + count = omega (arith, unsent) in ap (λ (n : ℕ). take n w.bytes) same;
      }

      law_quiet_now : link.stage ≡ view.Quiet
      law_quiet_now = law_quiet link.stage (sym (quiet_same reads codes row.link.state link stands.state) ∙ over.quiet)

      linked : IsLink reads codes row.link.state link
      linked = is_link reads codes row.link.state link Quiet (quiet_is row.link.state.stage over.quiet) refl stands.state

      unanswered_now : kind_answered row.link.state.stage ≡ None
      unanswered_now = quiet_unanswered row.link.state.stage over.quiet

      whose_now : row.lost ≡ false → IsWhose new row.link.state.carries row.left
      whose_now here = whose_on seen new row.link.state.carries row.left untouched (stands.whose here)

      quits_now : (quits : Bool) → (wire.quits || quits) ≡ quits
      quits_now quits = ap (λ (was : Bool). was || quits) (stands.quits ∙ over.stays)

      -- nothing is read yet
      dry_now : (reading : Option Reading) (step : Step) (stage : Stage) (id : ℕ) → row.link.spoilt ≡ false → row.link.reading ≡ reading → kind_answered stage ≡ None
          → IsUnreadNow reading step stage id
      dry_now None step stage id fine same unanswered = record { none = (dry over.answered unanswered_now fine).0; unanswered = unanswered }
      dry_now (Some r) step stage id fine same unanswered = absurd (none-some r (sym (dry over.answered unanswered_now fine).1 ∙ same))

      fine_bytes : row.link.spoilt ≡ false → has_bytes wire.unread ≡ row.link.spoilt
      fine_bytes fine = ap has_bytes (dry over.answered unanswered_now fine).0 ∙ sym fine

      -- a question

      pub asks_so : (asking : Asking) (question : Question) (step : Option StepText) → row.link.writing ≡ Some w → row.link.spoilt ≡ false
          → IsAsked reads codes new row link asking question step
          → Serves reads codes login new (record row {
            link = record row.link {
              next = None;
              writing = Some wrote;
              step = Other;
              state = states.asked asking row.link.state;
            };
          }) (wire_begun (take count w.bytes) step false wire) (view.asked question link)
      asks_so asking question step writes_so fine is = record {
        entered = stands.entered;
        inside = stands.inside;
        account = stands.account;
        server = stands.server;
        usable = stands.usable;
        state = inl (asked_so reads codes row.link.state link asking question linked is.said.asks);
        quits = quits_now false ∙ sym over.stays;
        step = no_step_of step is.step_none;
        stepless = λ other. absurd (true≢false other);
        written = begun_with Other row.link.quits (view.asked question link)
            (subst (λ (quits : Bool). IsSpelt (view.Asked question) Other quits (view.asked question link) w.bytes) (sym over.stays)
            (subst (λ (writing : Option Writing). IsNext writing (spelt_as (command_of question) (number_for question link.live))) writes_so is.said.spelt_so));
        bad = ap (λ (reset : Bool). if reset then is_bad (read_as kinds.Command (wire_begun (take count w.bytes) step false wire)) else has_bytes wire.unread)
            (no_step_resets step is.step_none) ∙ fine_bytes fine;
        well = λ asked. fine;
        unread = λ well. dry_now row.link.reading Other (Asked asking) (reply_id (wire_begun (take count w.bytes) step false wire)) fine refl refl;
        cell = λ well. cell_next asking.form row.cell (reply_id (wire_begun (take count w.bytes) step false wire)) row.link.first row.link.number wire.unread
            (dry over.answered unanswered_now fine).0 is.said.cell_so;
        whose = λ here. whose_lent new asking.purpose row.link.state.carries row.left is.lender (whose_now here);
        own = is.for;
        shared = is.said.shared;
      }

      -- a STMT_CLOSE

      pub closes_so : (number : ℕ) → row.link.spoilt ≡ false → w.bytes ≡ spelt (step_payload (plan.Closes number))
          → Serves reads codes login new (record row {
            link = record row.link {
              next = None;
              writing = Some wrote;
              step = Closes number;
              state = states.closed_number number row.link.state;
            };
          }) (wire_begun (take count w.bytes) (Some (plan.Closes number)) false wire) (view.closed_number number link)
      closes_so number fine said = record {
        entered = stands.entered;
        inside = stands.inside;
        account = stands.account;
        server = stands.server;
        usable = stands.usable;
        state = inl (closed_so reads codes row.link.state link number linked);
        quits = quits_now false ∙ sym over.stays;
        step = refl;
        stepless = λ other. over.quiet;
        written = begun_with (Closes number) row.link.quits (view.closed_number number link)
            (subst (λ (there : view.Stage). IsSpelt there (Closes number) row.link.quits (view.closed_number number link) w.bytes) (sym law_quiet_now)
            (subst (λ (quits : Bool). IsSpelt view.Quiet (Closes number) quits (view.closed_number number link) w.bytes) (sym over.stays) said));
        bad = ap (is_bad_at (wire_begun (take count w.bytes) (Some (plan.Closes number)) false wire)) law_quiet_now ∙ fine_bytes fine;
        well = stands.well;
        unread = λ well. dry_now row.link.reading (Closes number) row.link.state.stage
            (reply_id (wire_begun (take count w.bytes) (Some (plan.Closes number)) false wire)) fine refl unanswered_now;
        cell = λ well. cell_quiet row.link.state.stage row.cell (reply_id (wire_begun (take count w.bytes) (Some (plan.Closes number)) false wire))
            row.link.first row.link.number wire.unread over.quiet;
        whose = whose_now;
        own = stands.own;
        shared = subst (λ (there : view.Stage). IsShared there row.multiplex) (sym law_quiet_now) tt;
      }

      -- a STMT_RESET

      pub resets_so : (number : ℕ) → row.link.spoilt ≡ false → w.bytes ≡ spelt (step_payload (plan.Resets number))
          → Serves reads codes login new (record row { link = record row.link { next = None; writing = Some wrote; step = Resets number } })
          (wire_begun (take count w.bytes) (Some (plan.Resets number)) false wire) link
      resets_so number fine said = record {
        entered = stands.entered;
        inside = stands.inside;
        account = stands.account;
        server = stands.server;
        usable = stands.usable;
        state = inl linked;
        quits = quits_now false ∙ sym over.stays;
        step = refl;
        stepless = λ other. over.quiet;
        written = begun_with (Resets number) row.link.quits link
            (subst (λ (there : view.Stage). IsSpelt there (Resets number) row.link.quits link w.bytes) (sym law_quiet_now)
            (subst (λ (quits : Bool). IsSpelt view.Quiet (Resets number) quits link w.bytes) (sym over.stays) said));
        bad = ap (λ (bytes : List ℕ). is_bad (run (started (record {
          kind = kinds.Command;
          server = reply_id (wire_begun (take count w.bytes) (Some (plan.Resets number)) false wire);
          client = 0;
          number = 0;
        })) bytes))
            (dry over.answered unanswered_now fine).0 ∙ sym fine;
        well = stands.well;
        unread = λ well. dry_now row.link.reading (Resets number) row.link.state.stage
            (reply_id (wire_begun (take count w.bytes) (Some (plan.Resets number)) false wire)) fine refl unanswered_now;
        cell = λ well. cell_quiet row.link.state.stage row.cell (reply_id (wire_begun (take count w.bytes) (Some (plan.Resets number)) false wire))
            row.link.first row.link.number wire.unread over.quiet;
        whose = whose_now;
        own = stands.own;
        shared = stands.shared;
      }

      -- QUIT, also where bytes came that nobody asked for

      pub quits_so : (step : Option StepText) → IsNoStep step → w.bytes ≡ spelt (text_payload Quit)
          → Serves reads codes login new (record row { link = record row.link { next = None; writing = Some wrote; step = Other; quits = true } })
          (wire_begun (take count w.bytes) step true wire) link
      quits_so step none said = record {
        entered = stands.entered;
        inside = stands.inside;
        account = stands.account;
        server = stands.server;
        usable = stands.usable;
        state = inl linked;
        quits = quits_now true;
        step = no_step_of step none;
        stepless = λ other. absurd (true≢false other);
        written = begun_with Other true link
            (subst (λ (there : view.Stage). IsSpelt there Other true link w.bytes) (sym law_quiet_now) said);
        bad = ap (λ (reset : Bool). if reset then is_bad (read_as kinds.Command (wire_begun (take count w.bytes) step true wire))
            else is_bad_at (wire_begun (take count w.bytes) step true wire) link.stage) (no_step_resets step none)
            ∙ ap (is_bad_at (wire_begun (take count w.bytes) step true wire)) law_quiet_now
            ∙ sym (ap (is_bad_at wire) law_quiet_now)
            ∙ ap (λ (reset : Bool). if reset then is_bad (read_as kinds.Command wire) else is_bad_at wire link.stage) (sym (not_reset over.answered)) ∙ stands.bad;
        well = stands.well;
        unread = λ fine. dry_now row.link.reading Other row.link.state.stage (reply_id (wire_begun (take count w.bytes) step true wire)) fine refl unanswered_now;
        cell = λ fine. cell_quiet row.link.state.stage row.cell (reply_id (wire_begun (take count w.bytes) step true wire)) row.link.first row.link.number
            wire.unread over.quiet;
        whose = whose_now;
        own = stands.own;
        shared = stands.shared;
      }
