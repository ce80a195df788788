use Rattle.std.proofs.Common.{ap, ◌∙◌}
use Rattle.step_laws.specs.Steps.{leave}
use Rattle.step_laws.proofs.Leaving.{ended_leave, none_ended, one_ended}
use Rattle.step_laws.proofs.ended.ends_one.Goals as goal

pub returns : goal.returns
returns c = record {
  one = λ plan client tale only. one_ended plan client tale only;
  leaves = λ plan client tale only. ended_leave plan tale ∙ ap (λ cs. leave cs tale) (one_ended plan client tale only);
  none = λ plan tale none. none_ended plan tale none;
  stays = λ plan tale none. ended_leave plan tale ∙ ap (λ cs. leave cs tale) (none_ended plan tale none);
}
