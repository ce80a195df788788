use Rattle.marked_tables.proofs.Calls.{unlinked_goes}
use Rattle.marked_tables.proofs.marked.MarkedTables.forget_link.Goals as goal

pub returns-clause-goes : goal.returns-clause-goes
returns-clause-goes c = unlinked_goes c.args.self.now c.forget.new.self c.leaves.new.marks c.args.link c.leaves.ensures c.forget.ensures
