use Rattle.marked_tables.proofs.Calls.{due_goes, if_ok_so}
use Rattle.marked_tables.proofs.marked.MarkedTables.due_as.Goals as goal

pub returns-clause-goes : goal.returns-clause-goes
returns-clause-goes c = if_ok_so c.due_as.result _ _ c.due_as.ensures
    (λ is_due due is. due_goes c.args.self.now c.due_as.new.self c.mark_client.new.marks c.args.client c.args.flag _ _ c.mark_client.ensures (due is))
