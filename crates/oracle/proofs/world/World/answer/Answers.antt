use Rattle.std.proofs.Common.{Some}
use Rattle.oracle.proofs.Naming.{message_turned, put_at}
use Rattle.oracle.proofs.world.World.answer.Goals as goal

pub returns-clause-answer : goal.returns-clause-answer
returns-clause-answer c = λ m. put_at _ _ (Some c.args.answer) _ _ (c.in_ok-insert.ensures.updates.0 m) (message_turned c.args.name m)
