use Rattle.marked_tables.proofs.Going.{goes_by}
use Rattle.marked_tables.proofs.Questions.{lost_quiet}
use Rattle.marked_tables.proofs.Staying.{lost_rows}
use Rattle.marked_tables.proofs.marked.MarkedTables.lose.Goals as goal

pub returns-clause-goes : goal.returns-clause-goes
returns-clause-goes c = goes_by _ c.args.self.now c.lose.new.self c.mark_carried.new.marks _ c.mark_carried.ensures c.lose.ensures
    (λ link un. lost_quiet _ c.args.link link un) (lost_rows _ c.args.link)
