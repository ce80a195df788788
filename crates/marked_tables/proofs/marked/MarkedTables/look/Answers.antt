use Rattle.std.proofs.lemmas.Result.{on_ok_weaker}
use Rattle.marked_tables.proofs.Calls.{changed_goes}
use Rattle.marked_tables.proofs.Clearing.{turn_spares}
use Rattle.marked_tables.proofs.marked.MarkedTables.look.Goals as goal

pub returns-clause-goes : goal.returns-clause-goes
returns-clause-goes c = on_ok_weaker c.look.result
    (λ is. changed_goes c.args.self.now c.look.new.self c.mark_client.new.marks c.args.client _ c.mark_client.ensures (λ link. turn_spares c.args.setup.now c.args.default_schema.now link) is)
    c.look.ensures.is
