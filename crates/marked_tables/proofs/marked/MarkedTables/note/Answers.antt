use Rattle.marked_tables.proofs.Calls.{note_goes}
use Rattle.marked_tables.proofs.marked.MarkedTables.note.Goals as goal

pub returns-clause-goes : goal.returns-clause-goes
returns-clause-goes c =
    note_goes c.args.self.now c.note.new.self c.mark_client.new.marks c.mark_at.new.marks c.args.client c.args.note c.mark_client.ensures c.mark_at.ensures
    c.note.ensures
