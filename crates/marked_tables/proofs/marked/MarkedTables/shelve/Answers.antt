use Rattle.marked_tables.proofs.Calls.{link_goes}
use Rattle.marked_tables.proofs.marked.MarkedTables.shelve.Goals as goal

pub returns-clause-goes : goal.returns-clause-goes
returns-clause-goes c =
    link_goes c.args.self.now c.shelve.new.self c.mark_link.new.marks c.args.link _ c.mark_link.ensures c.shelve.ensures
