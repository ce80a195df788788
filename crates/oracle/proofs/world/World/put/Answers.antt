use Rattle.std.proofs.Common.{Some}
use Rattle.oracle.proofs.Naming.{name_turned, put_at}
use Rattle.oracle.proofs.world.World.put.Goals as goal

pub returns-clause-own : goal.returns-clause-own
returns-clause-own c = λ n. put_at _ _ (Some c.args.own) _ _ (c.in_ok-insert.ensures.updates.0 n) (name_turned c.args.name n)
