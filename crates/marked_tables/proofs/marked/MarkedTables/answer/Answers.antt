use Rattle.std.specs.Prelude.{true}
use Rattle.std.proofs.lemmas.Result.{on_ok_weaker}
use Rattle.marked_tables.proofs.Calls.{taken_goes}
use Rattle.marked_tables.proofs.Clearing.{answers_spares}
use Rattle.marked_tables.proofs.marked.MarkedTables.answer.Goals as goal

pub returns-clause-goes : goal.returns-clause-goes
returns-clause-goes c = on_ok_weaker c.answer.result
    (λ is. taken_goes true c.args.self.now c.answer.new.self c.mark_client.new.marks c.args.client _ c.mark_client.ensures (λ statements link. answers_spares c.args.flag c.args.packets.now statements link) is)
    c.answer.ensures
