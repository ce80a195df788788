use Rattle.std.proofs.lemmas.Result.{on_ok_weaker}
use Rattle.marked_tables.proofs.Calls.{anew_goes}
use Rattle.marked_tables.proofs.marked.MarkedTables.begin_anew.Goals as goal

pub returns-clause-goes : goal.returns-clause-goes
returns-clause-goes c = on_ok_weaker c.begin_anew.result
    (λ is. anew_goes c.args.self.now c.begin_anew.new.self c.mark_client.new.marks c.args.client c.args.flag c.args.packets.now c.mark_client.ensures is)
    c.begin_anew.ensures
