use Rattle.marked_tables.proofs.Going.{goes_by}
use Rattle.marked_tables.proofs.Marking.{marks_both}
use Rattle.marked_tables.proofs.Questions.{text_quiet}
use Rattle.marked_tables.proofs.Staying.{text_rows}
use Rattle.marked_tables.proofs.marked.MarkedTables.begin_text.Goals as goal

pub returns-clause-goes : goal.returns-clause-goes
returns-clause-goes c = goes_by _ c.args.self.now c.begin_text.new.self c.mark_client.new.marks _
    (marks_both _ _ c.args.self.now.changed c.mark_link.new.marks c.mark_client.new.marks c.mark_link.ensures c.mark_client.ensures) c.begin_text.ensures
    (λ link so. text_quiet _ c.args.link c.args.name link so.0 so.1) (text_rows _ c.args.link c.args.name)
