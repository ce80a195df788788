use Rattle.std.proofs.lemmas.Result.{on_ok_weaker}
use Rattle.marked_tables.proofs.Calls.{come_goes}
use Rattle.marked_tables.proofs.marked.MarkedTables.come.Goals as goal

pub returns-clause-goes : goal.returns-clause-goes
returns-clause-goes c = on_ok_weaker c.come.result
    (λ is. come_goes c.args.self.now c.come.new.self c.mark_client.new.marks c.mark_at.new.marks c.mark_at-2.new.marks c.comes.new.self
    c.args.client c.args.link c.args.seat c.args.note c.mark_client.ensures c.mark_at.ensures c.mark_at-2.ensures c.in_ok-comes.ensures.known
    c.in_ok-comes.ensures.marked is)
    c.come.ensures
