use Rattle.log_cases.specs.Executed.{execute_log, execute_plan, execute_story}
use Rattle.log_cases.proofs.Computed.{computed, execute_lawful, worked_so}
use Rattle.log_cases.proofs.executes.Goals as goal

pub returns : goal.returns
returns c = record {
  worked = worked_so c.honest_bytes.ensures execute_plan execute_log execute_story computed.executes execute_lawful;
  owed = computed.preparer_owed;
}
