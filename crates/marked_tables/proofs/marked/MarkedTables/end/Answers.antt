use Rattle.std.proofs.Common.{refl}
use Rattle.client_seat.specs.Seats.{ended}
use Rattle.marked_tables.proofs.Calls.{left_goes}
use Rattle.marked_tables.proofs.marked.MarkedTables.end.Goals as goal

pub returns-clause-goes : goal.returns-clause-goes
returns-clause-goes c =
    left_goes c.args.self.now c.end.new.self c.mark_client.new.marks c.args.client ended c.mark_client.ensures (λ seat. refl) c.end.ensures
