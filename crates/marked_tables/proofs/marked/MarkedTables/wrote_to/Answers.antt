use Rattle.marked_tables.proofs.Calls.{changed_goes}
use Rattle.marked_tables.proofs.Clearing.{wrote_spares}
use Rattle.marked_tables.proofs.marked.MarkedTables.wrote_to.Goals as goal

pub returns-clause-goes : goal.returns-clause-goes
returns-clause-goes c =
    changed_goes c.args.self.now c.wrote_to.new.self c.mark_client.new.marks c.args.client _ c.mark_client.ensures (λ link. wrote_spares c.args.n link) c.wrote_to.ensures
