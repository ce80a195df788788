use Rattle.std.specs.Prelude.{true}
use Rattle.std.proofs.lemmas.Result.{on_ok_weaker}
use Rattle.marked_tables.proofs.Calls.{taken_goes}
use Rattle.marked_tables.proofs.Clearing.{passes_spares}
use Rattle.marked_tables.proofs.marked.MarkedTables.pass.Goals as goal

pub returns-clause-goes : goal.returns-clause-goes
returns-clause-goes c = on_ok_weaker c.pass.result
    (λ is. taken_goes true c.args.self.now c.pass.new.self c.mark_client.new.marks c.args.client _ c.mark_client.ensures (λ statements link. passes_spares c.args.flag statements link) is)
    c.pass.ensures
