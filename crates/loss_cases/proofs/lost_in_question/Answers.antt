use Rattle.loss_cases.specs.Lost.{in_question, question_log}
use Rattle.loss_cases.proofs.Computed.{question_right}
use Rattle.loss_cases.proofs.lost_in_question.Goals as goal

pub returns : goal.returns
returns c = c.kept_by_test.ensures in_question question_log question_right
