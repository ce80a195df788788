use Rattle.log_cases.specs.Aside.{given_up, goes_on, own_plan}
use Rattle.log_cases.proofs.Computed.{computed, own_lawful, worked_so}
use Rattle.log_cases.proofs.own_answers.Goals as goal

pub returns : goal.returns
returns c = record {
  waits = computed.waits;
  waits_for_an_event = computed.waits_on;
  becomes_due = computed.becomes_due;
  is_given_up = computed.is_given_up;
  worked = worked_so c.honest_bytes.ensures own_plan goes_on given_up computed.own own_lawful;
  owed = computed.asker_owed;
}
