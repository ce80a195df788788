use Rattle.step_laws.proofs.Likewise.{like_itself, like_on}
use Rattle.step_laws.proofs.Onward.{like_log, like_step, like_told}
use Rattle.step_laws.proofs.always.likes_go_on.Goals as goal

pub returns : goal.returns
returns c = record {
  told = λ setup plan e old new like. like_told setup plan e old new like;
  step = λ setup plan e old new like. like_step setup plan e old new like;
  log = λ setup plan log old new like. like_log setup plan log old new like;
  itself = λ setup tale. like_itself setup tale;
  along = λ setup old mid new first next. like_on setup old mid new first next;
}
