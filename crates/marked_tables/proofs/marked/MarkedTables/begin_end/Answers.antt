use Rattle.std.proofs.lemmas.Result.{on_ok_weaker}
use Rattle.marked_tables.proofs.Calls.{link_goes}
use Rattle.marked_tables.proofs.marked.MarkedTables.begin_end.Goals as goal

pub returns-clause-goes : goal.returns-clause-goes
returns-clause-goes c = on_ok_weaker c.begin_end.result
    (λ is. link_goes c.args.self.now c.begin_end.new.self c.mark_link.new.marks c.args.link _ c.mark_link.ensures is)
    c.begin_end.ensures
