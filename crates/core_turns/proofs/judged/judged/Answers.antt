use Rattle.std.specs.Prelude.{Option}
use Rattle.std.proofs.Common.{subst}
use Rattle.std.proofs.lemmas.Result.{IfOk-weaker}
use Rattle.core_service.specs.Serves.{rules_in}
use Rattle.core_promises.specs.Ruled.{book_of, situation_at}
use Rattle.core_texts.specs.Texts.{key_at}
use Rattle.core_turns.specs.Judged.{IsVerdictOn}
use Rattle.core_turns.specs.declared.judged.Named.{Named}
use Rattle.core_turns.proofs.judged.judged.Goals as goal

pub returns-clause-is : goal.returns-clause-is
returns-clause-is c =
    subst (λ (named : Option Named). IsVerdictOn named c.args.payload.now c.in_ok-verdict.verdict) c.in_ok-named.ensures
    (c.in_ok-verdict.ensures.is (book_of c.args.service.now) (key_at c.args.texts.now) c.args.client (c.in_ok-draft.ensures.known c.args.texts.now c.in_ok-named.ensures))

pub returns-clause-own : goal.returns-clause-own
returns-clause-own c = c.in_ok-verdict.ensures.own (rules_in c.args.service.now) c.in_ok-draft.ensures.own

pub returns-clause-promised : goal.returns-clause-promised
returns-clause-promised c =
    c.in_ok-verdict.ensures.promised (book_of c.args.service.now) (key_at c.args.texts.now) c.args.client (c.in_ok-draft.ensures.known c.args.texts.now c.in_ok-named.ensures)
