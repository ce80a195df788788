use Rattle.marked_tables.proofs.Going.{goes_by}
use Rattle.marked_tables.proofs.Questions.{freed_quiet}
use Rattle.marked_tables.proofs.Staying.{freed_rows}
use Rattle.marked_tables.proofs.marked.MarkedTables.free_if_done.Goals as goal

pub returns-clause-goes : goal.returns-clause-goes
returns-clause-goes c = goes_by _ c.args.self.now c.free_if_done.new.self c.mark_carried.new.marks _ c.mark_carried.ensures c.free_if_done.ensures.freed
    (λ link un. freed_quiet _ c.args.link link un) (freed_rows _ c.args.link)
