-- What may be taken of what stands on a link.
use Rattle.std.specs.Prelude.{ℕ, Some}
use Rattle.mx_base.specs.Sent.{MayTake}
use Rattle.link_state.specs.Writes as writes
use Rattle.link_state.specs.declared.state.Stage.{Stage}
use Rattle.link_state.specs.declared.state.Stage.TheVariants.{Quiet, Asked, Answered}
use Rattle.link_state.specs.declared.writing.Writing.{Writing}
use Rattle.lent_link.specs.Links.{left_at}

pub may_take : (stage : Stage) (writing : Writing) (count : ℕ) → MayTake (left_at stage (Some writing)) count → MayTake (writes.left_of writing) count
may_take Quiet writing count may = may
may_take (Asked asking) writing count may = may
may_take (Answered asking) writing count may = absurd may
