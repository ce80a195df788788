use Rattle.marked_tables.proofs.Going.{goes_by}
use Rattle.marked_tables.proofs.Marking.{marks_both}
use Rattle.marked_tables.proofs.Prepared.{lent_quiet}
use Rattle.marked_tables.proofs.Staying.{client_rows}
use Rattle.marked_tables.proofs.marked.MarkedTables.lend.Goals as goal

pub returns-clause-goes : goal.returns-clause-goes
returns-clause-goes c = goes_by _ c.args.self.now c.lend.new.self c.mark_client.new.marks _
    (marks_both _ _ c.args.self.now.changed c.mark_link.new.marks c.mark_client.new.marks c.mark_link.ensures c.mark_client.ensures) c.lend.ensures
    (λ link so. lent_quiet _ c.args.link c.args.name link so.0 so.1) (client_rows _ c.args.name.client _)
