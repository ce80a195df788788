use Rattle.std.proofs.lemmas.Result.{on_ok_weaker}
use Rattle.marked_tables.proofs.Calls.{told_goes}
use Rattle.marked_tables.proofs.marked.MarkedTables.last_word.Goals as goal

pub returns-clause-goes : goal.returns-clause-goes
returns-clause-goes c = on_ok_weaker c.last_word.result
    (λ is. told_goes c.args.self.now c.last_word.new.self c.mark_client.new.marks c.args.client c.args.payload.now c.mark_client.ensures is)
    c.last_word.ensures
