use Rattle.shared_cases.proofs.Computed.{question_so}
use Rattle.shared_cases.proofs.makes_question.Goals as goal

pub returns : goal.returns
returns c = question_so
