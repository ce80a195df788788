use Rattle.core_turns.proofs.Transactions.{when-first, when-other}
use Rattle.core_turns.proofs.judged.transaction_of.Goals as goal

pub returns-in-Some : goal.returns-in-Some
returns-in-Some c = λ book situation listed pins. when-first c.args.desk.now c.args.hostgroups.now book situation listed pins c.in-Some.hostgroup c.in-Some.ensures

pub returns-in-None : goal.returns-in-None
returns-in-None c = λ book situation listed pins.
    when-other c.args.desk.now c.args.hostgroups.now book situation listed pins c.in-None.ensures c.any_transaction.result
    c.any_transaction.ensures.in_transaction c.any_transaction.ensures.none
