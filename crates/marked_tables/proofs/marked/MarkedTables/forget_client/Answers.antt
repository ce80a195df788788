use Rattle.marked_tables.proofs.Calls.{forgotten_goes}
use Rattle.marked_tables.proofs.marked.MarkedTables.forget_client.Goals as goal

pub returns-clause-goes : goal.returns-clause-goes
returns-clause-goes c = forgotten_goes c.args.self.now c.forget_client-note.new.self c.mark_client.new.marks c.leaves.new.marks c.args.client _
    c.mark_client.ensures c.leaves.ensures c.forget_client-note.ensures.is
