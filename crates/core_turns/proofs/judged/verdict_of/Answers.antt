use Rattle.std.specs.Prelude.{Option}
use Rattle.std.proofs.Common.{subst}
use Rattle.std.proofs.lemmas.Result.{IfOk-weaker}
use Rattle.message_judge.specs.declared.draft.Draft.{Draft}
use Rattle.core_promises.specs.Ruled.{situation_at}
use Rattle.stmt_map.specs.Client.{next_number}
use Rattle.core_turns.specs.Judged.{IsDraftFor}
use Rattle.core_turns.specs.Preparing.{prepared_of}
use Rattle.core_turns.proofs.Promised.{answers-so, quits-so}
use Rattle.core_turns.proofs.judged.verdict_of.Goals as goal

pub returns-in-Ends-clause-is : goal.returns-in-Ends-clause-is
returns-in-Ends-clause-is c = λ book keys client by.
    quits-so book (situation_at keys c.args.desk.now) (next_number c.args.desk.now.seat.statements) client c.args.payload.now (prepared_of c.args.named)
    (subst (λ (draft : Draft). IsDraftFor book (situation_at keys c.args.desk.now) (next_number c.args.desk.now.seat.statements) client c.args.payload.now (prepared_of c.args.named) draft)
    c.in-Ends.is by)

pub returns-in-Answers-clause-promised : goal.returns-in-Answers-clause-promised
returns-in-Answers-clause-promised c = λ book keys client by.
    answers-so book (situation_at keys c.args.desk.now) (next_number c.args.desk.now.seat.statements) client c.args.payload.now (prepared_of c.args.named) c.in-Answers.told
    (subst (λ (draft : Draft). IsDraftFor book (situation_at keys c.args.desk.now) (next_number c.args.desk.now.seat.statements) client c.args.payload.now (prepared_of c.args.named) draft)
    c.in-Answers.is by)

pub returns-in-Sends-clause-is : goal.returns-in-Sends-clause-is
returns-in-Sends-clause-is c = IfOk-weaker c.sent.result _ _
    (λ verdict is. λ book keys client by. is book keys client
    (subst (λ (draft : Draft). IsDraftFor book (situation_at keys c.args.desk.now) (next_number c.args.desk.now.seat.statements) client c.args.payload.now (prepared_of c.args.named) draft)
    c.in-Sends.is by)) c.sent.ensures.is
