use Rattle.mem_rule.proofs.Keeping.{keeps_tests}
use Rattle.mem_rule.proofs.laws.keeps_tests_law.Goals as goal

pub returns : goal.returns
returns c = keeps_tests
