use Rattle.std.proofs.lemmas.Result.{on_ok_weaker}
use Rattle.marked_tables.proofs.Prepared.{prep_goes}
use Rattle.marked_tables.proofs.marked.MarkedTables.begin_prep.Goals as goal

pub returns-clause-goes : goal.returns-clause-goes
returns-clause-goes c = on_ok_weaker c.begin_prep.result
    (λ is. prep_goes c.args.self.now c.begin_prep.new.self c.mark_link.new.marks c.args.link c.args.name c.args.text.now c.mark_link.ensures is)
    c.begin_prep.ensures
