use Rattle.std.proofs.lemmas.Result.{on_ok_weaker}
use Rattle.marked_tables.proofs.Calls.{quit_goes}
use Rattle.marked_tables.proofs.marked.MarkedTables.quit.Goals as goal

pub returns-clause-goes : goal.returns-clause-goes
returns-clause-goes c = on_ok_weaker c.quit.result
    (λ is. quit_goes c.args.self.now c.quit.new.self c.mark_client.new.marks c.args.client c.args.flag c.mark_client.ensures is)
    c.quit.ensures
