-- What happens on a link, by value.
use Rattle.std.specs.Prelude.{ℕ, ◌||◌, false, [], Option, Some, None}
use Rattle.session_vars.specs.Settings.{defaults}
use Rattle.session_state.specs.declared.reply_end.ReplyEnd.{ReplyEnd}
use Rattle.link_state.specs.declared.asking.Asking.{Asking}
use Rattle.link_state.specs.declared.state.Carried.TheVariants.{Nobody}
use Rattle.link_state.specs.declared.state.LinkState.{LinkState}
use Rattle.link_state.specs.declared.state.Stage.{Stage}
use Rattle.link_state.specs.declared.state.Stage.TheVariants.{Quiet, Asked, Answered}
use Rattle.link_state.specs.Answers.{id_by, live_by, told_by}
use Rattle.link_state.specs.Asks.{joined_for, lent_for, marks_by}
use Rattle.link_state.specs.Stood as stood

-- behind the login
abbrev pub fresh : LinkState
fresh = record { told = record { schema = Some []; settings = defaults }; id = Some 0; live = []; carries = Nobody; marked = false; stage = Quiet }

abbrev pub asked : Asking → LinkState → LinkState
asked asking state = record state { carries = lent_for asking.purpose state.carries; stage = Asked asking }

abbrev pub joined : Asking → LinkState → LinkState
joined asking state =
    record state { carries = joined_for asking.purpose state.carries; marked = marks_by asking.purpose asking.form || state.marked }

abbrev pub ran_in : Stage → LinkState → LinkState
ran_in (Asked asking) state = record (joined asking state) { stage = Answered asking }
ran_in _ state = state

abbrev pub ran : LinkState → LinkState
ran state = ran_in state.stage state

abbrev pub answered_in : Stage → Option Asking
answered_in (Answered asking) = Some asking
answered_in _ = None

abbrev pub heard_in : Stage → ReplyEnd → (number : Option ℕ) → LinkState → LinkState
heard_in (Answered asking) end number state = record state {
  told = told_by asking.form end state.told;
  id = id_by asking end number state.id;
  live = live_by asking end state.live;
  stage = Quiet;
}
heard_in _ end number state = state

abbrev pub heard : ReplyEnd → (number : Option ℕ) → LinkState → LinkState
heard end number state = heard_in state.stage end number state

abbrev pub closed_number : (number : ℕ) → LinkState → LinkState
closed_number number state = record state { live = stood.closed state.live number }

abbrev pub freed : LinkState → LinkState
freed state = record state { carries = Nobody; marked = false }
