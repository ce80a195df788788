-- What is written on a link is a front of what there is to say there, as its row has it.
use Rattle.std.specs.Prelude.{◌≡◌, ℕ, Bool, true, false, List, [], ◌++◌, drop, take, Option, Some, None}
use Rattle.std.proofs.Common.{refl, sym, ap, ◌∙◌, subst, append-nil}
use Rattle.std.proofs.lemmas.Bool.{true≢false}
use Rattle.std.proofs.lemmas.List.{take-append-drop}
use Rattle.packet_frame.specs.Packets.{spelling}
use Rattle.server_rule.specs.Classes.{Reads}
use Rattle.server_side.specs.Account.{Account as Login}
use Rattle.server_side.specs.Login.{opening, said_of}
use Rattle.private_model.specs.Commands.{Command, FieldList, InitDb, Prepare, Query, Quit, ReadId, Reset, Run, SetId}
use Rattle.private_model.specs.Names.{LinkId}
use Rattle.private_model.specs.Story.{command_of}
use Rattle.private_model.specs.View as view
use Rattle.private_model.specs.View.{Link, Setup, View}
use Rattle.log_story.specs.Honest.{IsExecute, IsFront, IsStep, IsWritten, number_for}
use Rattle.log_story.specs.Plan.{Asks, Closes, Plan, Resets, StepText, step_payload, text_payload}
use Rattle.log_story.specs.Said.{Begins, IsNothing, IsQuestion, IsSaid, IsSaidBehind, IsStepText, SaysThere}
use Rattle.log_story.specs.Tale.{Tale, Wire, view_of}
use Rattle.run_laws.specs.Reads.{ReadsAsked, ReadsRun}
use Rattle.link_laws.specs.Stands.{Codes}
use Rattle.link_state.specs.Dones.{is_quiet}
use Rattle.link_state.specs.declared.writing.Writing.{Writing}
use Rattle.lent_link.specs.declared.link.Begins as code
use Rattle.lent_link.specs.declared.link.Step.{Step}
use Rattle.lent_link.specs.declared.link.Step.TheVariants as steps
use Rattle.served_link.specs.declared.row.Row.{Row}
use Rattle.row_laws.specs.Rows.{Enters, IsPartBy, IsRowIn, Serves, part_of}
use Rattle.row_laws.specs.Written.{IsBegun, IsOver, IsSpelt, IsStepOf, IsWrittenBy, is_other, spelt_as}
use Rattle.row_laws.proofs.Beginning.{law_quiet}
use Rattle.row_laws.proofs.Seeing.{quiet_same}

-- A command that is spelt so is written so, where an execute reads as it is spelt.
pub written_so : (command : Command) (number : Option ℕ) (said : List ℕ) → ReadsRun command number → said ≡ spelt_as command number
    → IsWritten command number said
written_so (Run text schema settings args) None said reads is = subst (λ (bytes : List ℕ). IsExecute None args bytes) (sym is) reads
written_so (Run text schema settings args) (Some number) said reads is = subst (λ (bytes : List ℕ). IsExecute (Some number) args bytes) (sym is) reads
written_so (Query text) number said plain is = is
written_so (InitDb schema) number said plain is = is
written_so (FieldList rest) number said plain is = is
written_so (SetId n) number said plain is = is
written_so ReadId number said plain is = is
written_so (Prepare text) number said plain is = is
written_so Reset number said plain is = is
written_so Quit number said plain is = is

begins_so : (command : Command) (number : Option ℕ) (said written : List ℕ) → ReadsRun command number → said ≡ spelt_as command number
    → IsFront written said → Begins command number written
begins_so command number said written reads is front = record {
  more = front.rest;
  all = subst (IsWritten command number) (sym front.is) (written_so command number said reads is);
}

front_of : (n : ℕ) (said written : List ℕ) → written ≡ take n said → IsFront written said
front_of n said written is = record {
  rest = drop n said;
  is = ap (λ (front : List ℕ). front ++ drop n said) is ∙ take-append-drop n said;
}

front_all : (written said : List ℕ) → written ≡ said → IsFront written said
front_all written said is = record { rest = []; is = append-nil written ∙ is }

-- What began, and of which these bytes are written.

question_by : (stage : view.Stage) (step : Step) (quits : Bool) (link : Link) (said written : List ℕ) → IsSpelt stage step quits link said
    → ReadsAsked stage link.live → IsFront written said → IsQuestion stage link.live written
question_by view.Quiet step quits link said written is reads front = tt
question_by (view.Asked question) step false link said written is reads front =
    begins_so (command_of question) (number_for question link.live) said written reads is front
question_by (view.Answered question) step false link said written is reads front =
    begins_so (command_of question) (number_for question link.live) said written reads is front
question_by (view.Asked question) step true link said written is reads front = absurd is
question_by (view.Answered question) step true link said written is reads front = absurd is

-- a step that stands there
step_by : (stage : view.Stage) (step : Step) (quits : Bool) (link : Link) (text : Option StepText) (said written : List ℕ)
    → IsSpelt stage step quits link said → IsStepOf step text → (is_other step ≡ false → stage ≡ view.Quiet) → IsFront written said
    → IsStepText text written
step_by stage step quits link None said written is same quiet front = tt
step_by stage step quits link (Some (Asks command)) said written is same quiet front = tt
step_by stage (steps.Closes number) quits link (Some (Closes n)) said written is same quiet front =
    by quits (subst (λ (s : view.Stage). IsSpelt s (steps.Closes number) quits link said) (quiet refl) is) where
      by : (quits : Bool) → IsSpelt view.Quiet (steps.Closes number) quits link said → IsFront written (spelling 0 (step_payload (Closes n)))
      by false is = subst (IsFront written) (is ∙ ap (λ (k : ℕ). spelling 0 (step_payload (Closes k))) same) front
      by true is = absurd is
step_by stage (steps.Resets number) quits link (Some (Resets n)) said written is same quiet front =
    by quits (subst (λ (s : view.Stage). IsSpelt s (steps.Resets number) quits link said) (quiet refl) is) where
      by : (quits : Bool) → IsSpelt view.Quiet (steps.Resets number) quits link said → IsFront written (spelling 0 (step_payload (Resets n)))
      by false is = subst (IsFront written) (is ∙ ap (λ (k : ℕ). spelling 0 (step_payload (Resets k))) same) front
      by true is = absurd is
step_by stage steps.Other quits link (Some (Closes n)) said written is same quiet front = absurd same
step_by stage steps.Other quits link (Some (Resets n)) said written is same quiet front = absurd same
step_by stage (steps.Resets number) quits link (Some (Closes n)) said written is same quiet front = absurd same
step_by stage (steps.Closes number) quits link (Some (Resets n)) said written is same quiet front = absurd same

quit_by : (stage : view.Stage) (step : Step) (link : Link) (said written : List ℕ) → IsSpelt stage step true link said → IsFront written said
    → IsFront written (spelling 0 (text_payload Quit))
quit_by view.Quiet steps.Other link said written is front = subst (IsFront written) is front
quit_by view.Quiet (steps.Closes number) link said written is front = absurd is
quit_by view.Quiet (steps.Resets number) link said written is front = absurd is
quit_by (view.Asked question) step link said written is front = absurd is
quit_by (view.Answered question) step link said written is front = absurd is

nothing_by : (stage : view.Stage) (step : Step) (link : Link) (text : Option StepText) (said written : List ℕ) → IsSpelt stage step false link said
    → IsStepOf step text → IsNothing stage text written
nothing_by (view.Asked question) step link text said written is same = tt
nothing_by (view.Answered question) step link text said written is same = tt
nothing_by view.Quiet (steps.Closes number) link (Some (Closes n)) said written is same = tt
nothing_by view.Quiet (steps.Closes number) link _ said written is same = absurd same
nothing_by view.Quiet (steps.Resets number) link (Some (Resets n)) said written is same = tt
nothing_by view.Quiet (steps.Resets number) link _ said written is same = absurd same
nothing_by view.Quiet steps.Other link text said written is same = absurd is

quiet_question : (stage : view.Stage) (live : ℕ → Option ℕ) (written : List ℕ) → stage ≡ view.Quiet → IsQuestion stage live written
quiet_question stage live written is = subst (λ (s : view.Stage). IsQuestion s live written) (sym is) tt

-- what is whole is a front of itself
step_whole : (text : Option StepText) (written : List ℕ) → IsStep text written → IsStepText text written
step_whole None written is = tt
step_whole (Some (Asks command)) written is = tt
step_whole (Some (Closes n)) written is = front_all written (spelling 0 (step_payload (Closes n))) is
step_whole (Some (Resets n)) written is = front_all written (spelling 0 (step_payload (Resets n))) is

module _ (reads : Reads) (codes : Codes) (login : Login) (seen : View) (row : Row) (wire : Wire) (link : Link)
    (stands : Serves reads codes login seen row wire link) (reads_so : ReadsAsked link.stage link.live) where
  quiet_law : is_quiet row.link.state.stage ≡ true → link.stage ≡ view.Quiet
  quiet_law quiet = law_quiet link.stage (sym (quiet_same reads codes row.link.state link stands.state) ∙ quiet)

  over_says : IsOver row.link.state.stage row.link.step row.link.quits wire.step wire.written → IsSaidBehind wire link
  over_says over =
      let quiet : link.stage ≡ view.Quiet = quiet_law over.quiet in
      record {
        question = quiet_question link.stage link.live wire.written quiet;
        step = step_whole wire.step wire.written over.is_step;
        quit = λ quits. absurd (true≢false (sym quits ∙ stands.quits ∙ over.stays));
        nothing = λ stays. subst (λ (s : view.Stage). IsNothing s wire.step wire.written) (sym quiet) over.nothing;
      }

  begun_says : (w : Writing) → IsBegun row.link.step row.link.quits w wire.written link → IsSaidBehind wire link
  begun_says w going =
      let front : IsFront wire.written w.bytes = front_of w.sent w.bytes wire.written going.front in
      let spelt_if : (quits : Bool) → row.link.quits ≡ quits → IsSpelt link.stage row.link.step quits link w.bytes =
      λ quits is. subst (λ (b : Bool). IsSpelt link.stage row.link.step b link w.bytes) is going.spelt_so in
      record {
        question = question_by link.stage row.link.step row.link.quits link w.bytes wire.written going.spelt_so reads_so front;
        step = step_by link.stage row.link.step row.link.quits link wire.step w.bytes wire.written going.spelt_so stands.step
            (λ other. quiet_law (stands.stepless other)) front;
        quit = λ quits. quit_by link.stage row.link.step link w.bytes wire.written (spelt_if true (sym stands.quits ∙ quits)) front;
        nothing = λ stays. nothing_by link.stage row.link.step link wire.step w.bytes wire.written (spelt_if false (sym stands.quits ∙ stays)) stands.step;
      }

  says_by : (next : Option code.Begins) (writing : Option Writing)
      → IsWrittenBy next writing row.link.state.stage row.link.step row.link.quits wire.step wire.written link → IsSaidBehind wire link
  says_by None None is = over_says is
  says_by None (Some w) is = begun_says w is
  says_by (Some next) writing is = over_says is.0

  pub serving_says : IsSaidBehind wire link
  serving_says = says_by row.link.next row.link.writing stands.written

entering_says : (login : Login) (row : Row) (wire : Wire) (link : Link) → Enters login row wire link → row.link.spoilt ≡ false
    → IsFront wire.written (said_of (opening login wire.unread))
entering_says login row wire link stands fine = record { rest = row.link.login.own; is = ap said_of (sym (stands.going fine).goes) }

part_says : (entered : Bool) (reads : Reads) (codes : Codes) (login : Login) (seen : View) (row : Row) (wire : Wire) (link : Link)
    → IsPartBy entered reads codes login seen (part_of row) wire link → ReadsAsked link.stage link.live → (entered ≡ false → row.link.spoilt ≡ false)
    → IsSaid entered login wire link
part_says false reads codes login seen row wire link stands plain fine = entering_says login row wire link stands (fine refl)
part_says true reads codes login seen row wire link stands plain fine = serving_says reads codes login seen row wire link stands plain

-- by the row of the link
pub row_says : (setup : Setup) (codes : Codes) (plan : Plan) (tale : Tale) (l : LinkId) (row : Row) → IsRowIn setup codes plan tale l row
    → ReadsAsked ((view_of setup tale).links l).stage ((view_of setup tale).links l).live → ((tale.wires l).entered ≡ false → row.link.spoilt ≡ false)
    → SaysThere setup plan tale l
row_says setup codes plan tale l row stands plain fine =
    part_says (tale.wires l).entered setup.reads codes (plan.logins l) (view_of setup tale) row (tale.wires l) ((view_of setup tale).links l)
    stands.is plain fine
