use Rattle.std.proofs.Common.{refl}
use Rattle.marked_tables.proofs.Calls.{left_goes}
use Rattle.marked_tables.proofs.marked.MarkedTables.leave.Goals as goal

pub returns-clause-goes : goal.returns-clause-goes
returns-clause-goes c =
    left_goes c.args.self.now c.leave.new.self c.mark_client.new.marks c.args.client (λ seat. seat) c.mark_client.ensures (λ seat. refl) c.leave.ensures
