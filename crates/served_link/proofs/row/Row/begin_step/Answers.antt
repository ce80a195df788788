use Rattle.served_link.proofs.row.Row.begin_step.Goals as goal

pub returns-in-Closes-clause-ok : goal.returns-in-Closes-clause-ok
returns-in-Closes-clause-ok c = rw c.in-Closes.is (c.begin_close.ensures.ok c.args.purpose)

pub returns-in-Resets-clause-ok : goal.returns-in-Resets-clause-ok
returns-in-Resets-clause-ok c = rw c.in-Resets.is (c.begin_reset.ensures.ok c.args.purpose)
