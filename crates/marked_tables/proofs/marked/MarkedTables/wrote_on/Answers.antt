use Rattle.marked_tables.proofs.Going.{goes_by}
use Rattle.marked_tables.proofs.Questions.{wrote_quiet}
use Rattle.marked_tables.proofs.Staying.{wrote_rows}
use Rattle.marked_tables.proofs.marked.MarkedTables.wrote_on.Goals as goal

pub returns-clause-goes : goal.returns-clause-goes
returns-clause-goes c = goes_by _ c.args.self.now c.wrote_on.new.self c.mark_asked.new.marks _ c.mark_asked.ensures c.wrote_on.ensures.tables
    (λ link un. wrote_quiet _ c.args.link c.args.n c.args.now link un) (wrote_rows _ c.args.link c.args.n c.args.now)
