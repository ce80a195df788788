use Rattle.std.proofs.lemmas.Result.{on_ok_weaker}
use Rattle.marked_tables.proofs.Calls.{changed_goes}
use Rattle.marked_tables.proofs.Clearing.{got_spares}
use Rattle.marked_tables.proofs.marked.MarkedTables.client_says.Goals as goal

pub returns-clause-goes : goal.returns-clause-goes
returns-clause-goes c = on_ok_weaker c.client_says.result
    (λ is. changed_goes c.args.self.now c.client_says.new.self c.mark_client.new.marks c.args.client _ c.mark_client.ensures (λ link. got_spares c.args.bytes.now link) is)
    c.client_says.ensures
