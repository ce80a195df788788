use Rattle.small_server.specs.Stories.{shared}
use Rattle.small_server.proofs.Told.{shared_lawful}
use Rattle.log_cases.specs.Worked.{log, plan}
use Rattle.log_cases.proofs.Computed.{computed, worked_so}
use Rattle.log_cases.proofs.worked_log.Goals as goal

pub returns : goal.returns
returns c = record {
  worked = worked_so c.honest_bytes.ensures plan log shared computed.worked shared_lawful;
  owed = computed.second_owed;
}
