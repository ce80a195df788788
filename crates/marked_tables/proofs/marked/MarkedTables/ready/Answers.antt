use Rattle.marked_tables.proofs.Calls.{changed_on_same, link_goes}
use Rattle.marked_tables.proofs.Going.{goes_along}
use Rattle.marked_tables.proofs.marked.MarkedTables.ready.Goals as goal

pub returns-clause-goes : goal.returns-clause-goes
returns-clause-goes c = goes_along c.args.self.now (record { tables = c.ready.new.self; changed = c.mark_link.new.marks }) c.note_readied.new.self
    (link_goes c.args.self.now c.ready.new.self c.mark_link.new.marks c.args.link _ c.mark_link.ensures c.ready.ensures) c.note_readied.ensures.goes

pub returns-clause-is : goal.returns-clause-is
returns-clause-is c = changed_on_same _ _ _ c.args.client _ c.note_readied.ensures.is c.ready.ensures
