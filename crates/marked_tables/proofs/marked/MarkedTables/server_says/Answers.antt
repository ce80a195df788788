use Rattle.marked_tables.proofs.Calls.{heard_goes, if_ok_on}
use Rattle.marked_tables.proofs.marked.MarkedTables.server_says.Goals as goal

pub returns-clause-goes : goal.returns-clause-goes
returns-clause-goes c = if_ok_on c.server_says.result _ _ c.server_says.ensures
    (λ said heard. heard_goes c.args.self.now c.server_says.new.self c.mark_asked.new.marks c.args.link _ c.args.now said c.mark_asked.ensures heard)
