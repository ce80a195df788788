use Rattle.log_cases.specs.Aside.{copy_log, copy_plan, copy_story}
use Rattle.log_cases.proofs.Computed.{computed, copy_lawful, worked_so}
use Rattle.log_cases.proofs.copies.Goals as goal

pub returns : goal.returns
returns c = worked_so c.honest_bytes.ensures copy_plan copy_log copy_story computed.copies copy_lawful
