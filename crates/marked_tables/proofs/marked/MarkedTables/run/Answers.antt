use Rattle.marked_tables.proofs.Calls.{if_ok_so}
use Rattle.marked_tables.proofs.Prepared.{run_goes}
use Rattle.marked_tables.proofs.marked.MarkedTables.run.Goals as goal

pub returns-clause-goes : goal.returns-clause-goes
returns-clause-goes c = if_ok_so c.run.result _ _ c.run.ensures
    (λ is_due due is. run_goes c.args.self.now c.run.new.self c.mark_client.new.marks c.args.client c.args.flag _ c.mark_client.ensures (due is))
