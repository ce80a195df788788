use Rattle.log_cases.specs.Aside.{farewell_log, farewell_story}
use Rattle.log_cases.specs.Worked.{plan}
use Rattle.log_cases.proofs.Computed.{computed, farewell_lawful, worked_so}
use Rattle.log_cases.proofs.breaches.Goals as goal

pub returns : goal.returns
returns c = record {
  farewell = worked_so c.honest_bytes.ensures plan farewell_log farewell_story computed.farewell farewell_lawful;
  behind = computed.sent_behind;
  late = computed.sent_late;
  unlawful = λ story lawful. lawful.1;
}
