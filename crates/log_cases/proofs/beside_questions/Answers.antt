use Rattle.log_cases.specs.Aside.{beside_log, beside_plan, beside_story}
use Rattle.log_cases.proofs.Computed.{beside_lawful, computed, worked_so}
use Rattle.log_cases.proofs.beside_questions.Goals as goal

pub returns : goal.returns
returns c = worked_so c.honest_bytes.ensures beside_plan beside_log beside_story computed.beside beside_lawful
