use Rattle.mem_rule.proofs.Lawful.{runs}
use Rattle.mem_rule.proofs.Storing.{stored_again, tables_again}
use Rattle.mem_rule.proofs.laws.stored_again.Goals as goal

pub returns-clause-read : goal.returns-clause-read
returns-clause-read c = tables_again

pub returns-clause-done : goal.returns-clause-done
returns-clause-done c = stored_again

pub returns-clause-run : goal.returns-clause-run
returns-clause-run c = runs
