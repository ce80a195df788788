use Rattle.std.proofs.lemmas.Result.{on_ok_weaker}
use Rattle.marked_tables.proofs.Calls.{changed_goes}
use Rattle.marked_tables.proofs.Clearing.{given_spares}
use Rattle.marked_tables.proofs.marked.MarkedTables.give_up.Goals as goal

pub returns-clause-goes : goal.returns-clause-goes
returns-clause-goes c = on_ok_weaker c.give_up.result
    (λ is. changed_goes c.args.self.now c.give_up.new.self c.mark_client.new.marks c.args.client _ c.mark_client.ensures (λ link. given_spares c.args.payload.now link) is)
    c.give_up.ensures
