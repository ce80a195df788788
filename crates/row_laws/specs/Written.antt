-- What is written on a link: the first bytes of what began there.
use Rattle.std.specs.Prelude.{◌≡◌, ◌<◌, ◌≤◌, ℕ, Bool, true, false, List, [], length, take, Option, Some, None}
use Rattle.session_vars.specs.declared.long_part.LongPart.{LongPart}
use Rattle.private_model.specs.Commands.{Command, Quit, Run}
use Rattle.private_model.specs.Story.{command_of}
use Rattle.private_model.specs.View as view
use Rattle.private_model.specs.View.{Link}
use Rattle.log_story.specs.Honest.{IsStep, number_for}
use Rattle.log_story.specs.Plan as plan
use Rattle.log_story.specs.Plan.{StepText, step_payload, text_payload}
use Rattle.log_story.specs.Said.{IsNothing}
use Rattle.log_story.specs.Servers.{written_in}
use Rattle.log_story.specs.Tale.{Wire}
use Rattle.link_state.specs.Dones.{is_quiet}
use Rattle.link_state.specs.Spells.{executes, spelt}
use Rattle.link_state.specs.declared.state.Stage.{Stage}
use Rattle.link_state.specs.declared.writing.Writing.{Writing}
use Rattle.lent_link.specs.Rests.{is_resetting}
use Rattle.lent_link.specs.declared.link.Begins.{Begins}
use Rattle.lent_link.specs.declared.link.LentLink.{LentLink}
use Rattle.lent_link.specs.declared.link.Step.{Step}
use Rattle.lent_link.specs.declared.link.Step.TheVariants.{Other, Closes, Resets}

-- The one spelling of a command, by the number of what it executes.

abbrev pub run_spelt : (number : Option ℕ) → (types : Option (List ℕ)) → (nulls values : List ℕ) → List LongPart → List ℕ
run_spelt None types nulls values long = []
run_spelt (Some number) types nulls values long = executes number nulls types values long

abbrev pub spelt_as : Command → (number : Option ℕ) → List ℕ
spelt_as (Run text schema settings args) number = run_spelt number args.types args.nulls args.values args.long
spelt_as command number = spelt (text_payload command)

-- what stands there, as it is spelt: a question, a STMT_CLOSE, a STMT_RESET or the QUIT, behind which nothing begins
abbrev pub IsSpelt : view.Stage → Step → (quits : Bool) → Link → List ℕ → Type 0
IsSpelt (view.Asked question) step false link said = said ≡ spelt_as (command_of question) (number_for question link.live)
IsSpelt (view.Answered question) step false link said = said ≡ spelt_as (command_of question) (number_for question link.live)
IsSpelt view.Quiet (Closes number) false link said = said ≡ spelt (step_payload (plan.Closes number))
IsSpelt view.Quiet (Resets number) false link said = said ≡ spelt (step_payload (plan.Resets number))
IsSpelt view.Quiet Other true link said = said ≡ spelt (text_payload Quit)
IsSpelt _ _ _ link said = ⊥

-- It began, and so many of its bytes are written.
pub record IsBegun (step : Step) (quits : Bool) (w : Writing) (written : List ℕ) (link : Link) : Type 0 where
  pub some : 0 < w.sent
  pub within : w.sent ≤ length w.bytes
  pub spelt_so : IsSpelt link.stage step quits link w.bytes
  pub front : written ≡ take w.sent w.bytes

-- nothing stands there, or a STMT_CLOSE that is whole
pub record IsOver (stage : Stage) (step : Step) (quits : Bool) (said : Option StepText) (written : List ℕ) : Type 0 where
  pub quiet : is_quiet stage ≡ true
  pub answered : is_resetting step ≡ false
  pub stays : quits ≡ false
  pub is_step : IsStep said written
  pub whole : (written_in written).rest ≡ []
  pub nothing : IsNothing view.Quiet said written

abbrev pub IsGoing : Option Writing → Stage → Step → (quits : Bool) → (said : Option StepText) → (written : List ℕ) → Link → Type 0
IsGoing None stage step quits said written link = IsOver stage step quits said written
IsGoing (Some w) stage step quits said written link = IsBegun step quits w written link

-- and something is to begin, of which nothing is written

abbrev pub IsUnsent : Option Writing → Type 0
IsUnsent None = ⊥
IsUnsent (Some w) = w.sent ≡ 0

abbrev pub IsWrittenBy : Option Begins → Option Writing → Stage → Step → (quits : Bool) → (said : Option StepText) → (written : List ℕ) → Link → Type 0
IsWrittenBy None writing stage step quits said written link = IsGoing writing stage step quits said written link
IsWrittenBy (Some next) writing stage step quits said written link = IsOver stage step quits said written × IsUnsent writing

abbrev pub IsWritten : LentLink → Wire → Link → Type 0
IsWritten row wire link = IsWrittenBy row.next row.writing row.state.stage row.step row.quits wire.step wire.written link

-- which step stands there, beside a question none

abbrev pub is_other : Step → Bool
is_other Other = true
is_other _ = false

abbrev pub IsStepOf : Step → Option StepText → Type 0
IsStepOf (Closes number) (Some (plan.Closes n)) = number ≡ n
IsStepOf (Resets number) (Some (plan.Resets n)) = number ≡ n
IsStepOf Other None = Unit {0}
IsStepOf Other (Some (plan.Asks command)) = Unit {0}
IsStepOf _ _ = ⊥
