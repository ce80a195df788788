use Rattle.std.proofs.lemmas.Result.{on_ok_weaker}
use Rattle.marked_tables.proofs.Calls.{open_goes}
use Rattle.marked_tables.proofs.marked.MarkedTables.open.Goals as goal

pub returns-clause-goes : goal.returns-clause-goes
returns-clause-goes c = on_ok_weaker c.open.result
    (λ is. open_goes c.args.self.now c.open.new.self c.comes.new.self c.args.link _ c.in_ok-comes.ensures.known c.in_ok-comes.ensures.marked is)
    c.open.ensures
