use Rattle.marked_tables.proofs.Going.{goes_by}
use Rattle.marked_tables.proofs.Questions.{back_quiet}
use Rattle.marked_tables.proofs.Staying.{back_rows}
use Rattle.marked_tables.proofs.marked.MarkedTables.take_back.Goals as goal

pub returns-clause-goes : goal.returns-clause-goes
returns-clause-goes c = goes_by _ c.args.self.now c.take_back.new.self c.mark_asked.new.marks _ c.mark_asked.ensures c.take_back.ensures
    (λ link un. back_quiet _ c.args.link link un) (back_rows _ c.args.link)
