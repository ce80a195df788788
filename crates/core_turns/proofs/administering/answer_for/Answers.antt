use Rattle.std.proofs.lemmas.Result.{IfOk-weaker}
use Rattle.admin_port.specs.Answers.{reply_of}
use Rattle.core_service.specs.Serves.{rules_in}
use Rattle.core_turns.proofs.Administered.{statement-so}
use Rattle.core_turns.proofs.administering.answer_for.Goals as goal

pub returns-clause-said : goal.returns-clause-said
returns-clause-said c =
    IfOk-weaker c.carry_out.result _ _
    (λ done carries. statement-so (rules_in c.args.service.now) c.args.text.now c.args.running.now (reply_of c.in_ok-answer.answer) (reply_of done)
    c.args.admin.now c.answer_text.new.staged c.carry_out.new.admin c.in_ok-answer.ensures.said (carries (rules_in c.args.service.now)))
    c.carry_out.ensures.done
