use Rattle.std.proofs.lemmas.Result.{on_ok_weaker}
use Rattle.marked_tables.proofs.Prepared.{keep_goes}
use Rattle.marked_tables.proofs.marked.MarkedTables.keep.Goals as goal

pub returns-clause-goes : goal.returns-clause-goes
returns-clause-goes c = on_ok_weaker c.keep.result
    (λ is. keep_goes c.args.self.now c.keep.new.self c.mark_client.new.marks c.args.client c.args.prepared c.mark_client.ensures is)
    c.keep.ensures
