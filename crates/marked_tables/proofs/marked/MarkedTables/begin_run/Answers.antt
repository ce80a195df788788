use Rattle.std.proofs.lemmas.Result.{on_ok_weaker}
use Rattle.marked_tables.proofs.Going.{goes_by}
use Rattle.marked_tables.proofs.Marking.{marks_both}
use Rattle.marked_tables.proofs.Prepared.{run_quiet, run_rows}
use Rattle.marked_tables.proofs.marked.MarkedTables.begin_run.Goals as goal

pub returns-clause-goes : goal.returns-clause-goes
returns-clause-goes c = on_ok_weaker c.begin_run.result
    (λ is. goes_by _ c.args.self.now c.begin_run.new.self c.mark_client.new.marks _
    (marks_both _ _ c.args.self.now.changed c.mark_link.new.marks c.mark_client.new.marks c.mark_link.ensures c.mark_client.ensures) is
    (λ link so. run_quiet _ c.args.link c.args.name link so.0 so.1) (run_rows _ c.args.link c.args.name))
    c.begin_run.ensures
