use Rattle.admin_port.proofs.Answered.{tested}
use Rattle.admin_port.proofs.answer.answered.Goals as goal

pub returns-clause-said : goal.returns-clause-said
returns-clause-said c =
    tested c.args.text.now c.args.staged.now c.answer_statement.new.staged c.args.running.now c.args.statement.now c.in_ok-patterned.patterned c.answer_statement.result
    c.in_ok-patterned.ensures c.answer_statement.ensures.said
