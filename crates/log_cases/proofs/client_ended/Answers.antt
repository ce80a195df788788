use Rattle.log_cases.specs.Aside.{ended_log, ended_plan, ended_story}
use Rattle.log_cases.proofs.Computed.{computed, ended_lawful, worked_so}
use Rattle.log_cases.proofs.client_ended.Goals as goal

pub returns : goal.returns
returns c = worked_so c.honest_bytes.ensures ended_plan ended_log ended_story computed.ended ended_lawful
