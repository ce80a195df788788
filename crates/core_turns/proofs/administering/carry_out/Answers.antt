use Rattle.std.specs.Prelude.{IfOk, List}
use Rattle.std.proofs.Common.{subst, sym}
use Rattle.admin_port.specs.Answers.{reply_of}
use Rattle.admin_port.specs.declared.answer.Answer.{Answer}
use Rattle.query_rules.specs.declared.rule.Rule.{Rule}
use Rattle.core_turns.specs.Administering.{CarriesOut}
use Rattle.core_turns.proofs.administering.carry_out.Goals as goal

pub returns-in-Load-clause-done : goal.returns-in-Load-clause-done
returns-in-Load-clause-done c =
    subst (λ (answer : Answer). IfOk c.load.result (λ done. (force : List Rule) → CarriesOut (reply_of answer) (reply_of done) force c.args.admin.now
    c.load.new.admin)) (sym c.in-Load.is) c.load.ensures.done
