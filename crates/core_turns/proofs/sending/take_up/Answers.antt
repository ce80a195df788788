use Rattle.std.proofs.lemmas.Result.{IfOk-weaker}
use Rattle.core_promises.specs.Ruled.{book_of}
use Rattle.core_service.specs.Serves.{rules_in}
use Rattle.core_texts.specs.Texts.{key_at}
use Rattle.core_turns.specs.Administering.{administered}
use Rattle.core_turns.proofs.sending.take_up.Goals as goal

pub returns-then-is_administrators-clause-is : goal.returns-then-is_administrators-clause-is
returns-then-is_administrators-clause-is c =
    IfOk-weaker c.administer.result _ _ (λ turn is. is (book_of c.args.service.now) c.args.texts.now.since (key_at c.args.texts.now) c.args.ordinal) c.administer.ensures.is

pub returns-else-is_administrators-clause-is : goal.returns-else-is_administrators-clause-is
returns-else-is_administrators-clause-is c =
    IfOk-weaker c.serve.result _ _ (λ turn is. is (administered (rules_in c.args.service.now) c.args.admin.now)) c.serve.ensures.is
