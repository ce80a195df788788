-- Executes read as they are spelt: as bytes of a statement with some number of parameters, these are its own arguments.
use Rattle.std.specs.Prelude.{◌<◌, ℕ, List, [], ◌∷◌, Option, Some, None}
use Rattle.session_state.specs.declared.reply_end.ReplyEnd.{ReplyEnd}
use Rattle.private_model.specs.Commands.{Args, Command, Run, end_of}
use Rattle.private_model.specs.Names.{SessionName}
use Rattle.private_model.specs.Story.{Due, Heard, Story, command_of}
use Rattle.private_model.specs.View.{Answered, Asked, Quiet, Stage}
use Rattle.log_story.specs.Honest.{IsExecute, number_for}
use Rattle.link_state.specs.Spells.{executes}
use Rattle.run_laws.specs.Wholes.{AreWhole}

-- an execute in its one spelling, by the number of its statement, where that is prepared
abbrev pub execute_spelt : (number : Option ℕ) → Args → List ℕ
execute_spelt None args = []
execute_spelt (Some number) args = executes number args.nulls args.types args.values args.long

abbrev pub ReadsRun : Command → (number : Option ℕ) → Type 0
ReadsRun (Run text schema settings args) number = IsExecute number args (execute_spelt number args)
ReadsRun command number = Unit {0}

abbrev pub ReadsAsked : Stage → (live : ℕ → Option ℕ) → Type 0
ReadsAsked Quiet live = Unit {0}
ReadsAsked (Asked question) live = ReadsRun (command_of question) (number_for question live)
ReadsAsked (Answered question) live = ReadsRun (command_of question) (number_for question live)

-- An execute has the arguments of a statement with some number of parameters.

abbrev pub HasArgs : Command → Type 0
HasArgs (Run text schema settings args) = (params : ℕ) × AreWhole params args
HasArgs _ = Unit {0}

abbrev pub HasItsArgs : SessionName → Due → Type 0
HasItsArgs n due = HasArgs due.command

-- What servers told of what they prepared are numbers of the protocol: of 32 bits, and counts of parameters of 16.

pub record IsSmall (end : ReplyEnd) : Type 0 where
  pub number : end.server_number < 4294967296
  pub params : end.params < 65536

abbrev pub AllHeard : Story → Type 0
AllHeard [] = Unit {0}
AllHeard (Heard link reply ∷ past) = IsSmall (end_of reply) × AllHeard past
AllHeard (e ∷ past) = AllHeard past
