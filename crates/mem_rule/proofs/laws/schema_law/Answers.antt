use Rattle.mem_rule.proofs.Choosing.{schemas}
use Rattle.mem_rule.proofs.laws.schema_law.Goals as goal

pub returns : goal.returns
returns c = schemas
