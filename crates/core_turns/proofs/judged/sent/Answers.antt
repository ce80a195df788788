use Rattle.std.specs.Option.{option_copied}
use Rattle.std.specs.Prelude.{◌≡◌, ℕ, Option, Some, is_some}
use Rattle.std.proofs.Common.{ap, subst, sym, ◌∙◌}
use Rattle.std.proofs.lemmas.Result.{IfOk-weaker}
use Rattle.client_desk.specs.declared.session.Session.{Session}
use Rattle.core_promises.specs.Judges.{IsVerdictFor, Rulebook}
use Rattle.core_promises.specs.Ruled.{situation_at}
use Rattle.message_judge.specs.Drafts.{class_in, verdict_by, wanted_of}
use Rattle.message_judge.specs.Told.{payload_of}
use Rattle.message_judge.specs.declared.caller.Prepared.{Prepared}
use Rattle.message_judge.specs.declared.draft.Draft.TheVariants as drafts
use Rattle.message_judge.specs.declared.told.OwnError.{OwnError}
use Rattle.mx_base.specs.declared.names.ClientNo.{ClientNo}
use Rattle.own_words.specs.Own.{Refuses}
use Rattle.stmt_map.specs.Client.{next_number}
use Rattle.core_turns.specs.Judged.{IsAsPromised, IsDraftFor, IsOwnVerdict, IsVerdictOn}
use Rattle.core_turns.specs.Preparing.{prepared_of}
use Rattle.core_turns.specs.Taken.{Keys}
use Rattle.core_turns.specs.declared.judged.Verdict.{Verdict}
use Rattle.core_turns.proofs.Promised.{admitted-so, sent-is, sent-own, sent-promised}
use Rattle.core_turns.proofs.judged.sent.Goals as goal

pub returns-in-Some-clause-own : goal.returns-in-Some-clause-own
returns-in-Some-clause-own c = λ rules number. Refuses (payload_of c.in-Some.why) (c.in-Some.ensures.own rules)

pub returns-in-Some-clause-promised : goal.returns-in-Some-clause-promised
returns-in-Some-clause-promised c = λ book keys client by.
    let is = admitted-so book (situation_at keys c.args.desk.now) (next_number c.args.desk.now.seat.statements) client c.args.payload.now c.args.going
    (prepared_of c.args.named) by (option_copied c.class_of.result) (c.class_of.ensures ∙ ap (λ (p : Option Prepared). class_in p c.args.going.class) c.prepared_in.ensures)
    c.session-session.result.pin (ap (λ (s : Session). s.pin) c.session-session.ensures) c.is_there-is_there.result
    (λ has. c.is_there-is_there.ensures (ap (λ (s : Session). is_some s.home) c.session-session.ensures ∙ has))
    c.admit.result c.admit.ensures.is in
    subst (λ (w : Option OwnError). IsVerdictFor book (situation_at keys c.args.desk.now) client c.args.payload.now (verdict_by (wanted_of by.caller (prepared_of c.args.named) c.args.going) w))
    c.in-Some.is is

pub returns-clause-is : goal.returns-clause-is
returns-clause-is c = IfOk-weaker c.goes.result _ _
    (λ verdict same. λ book keys client by.
    subst (λ (v : Verdict). IsVerdictOn c.args.named c.args.payload.now v) (sym same)
    (sent-is book (situation_at keys c.args.desk.now) (next_number c.args.desk.now.seat.statements) client c.args.payload.now c.args.going c.args.named by)) c.goes.ensures

pub returns-clause-own : goal.returns-clause-own
returns-clause-own c = IfOk-weaker c.goes.result _ _
    (λ verdict same. λ rules. subst (λ (v : Verdict). IsOwnVerdict rules v) (sym same) (sent-own rules c.args.payload.now c.args.going c.args.named)) c.goes.ensures

pub returns-clause-promised : goal.returns-clause-promised
returns-clause-promised c = IfOk-weaker c.goes.result _ _
    (λ verdict same. λ book keys client by.
    let is = admitted-so book (situation_at keys c.args.desk.now) (next_number c.args.desk.now.seat.statements) client c.args.payload.now c.args.going
    (prepared_of c.args.named) by (option_copied c.class_of.result) (c.class_of.ensures ∙ ap (λ (p : Option Prepared). class_in p c.args.going.class) c.prepared_in.ensures)
    c.session-session.result.pin (ap (λ (s : Session). s.pin) c.session-session.ensures) c.is_there-is_there.result
    (λ has. c.is_there-is_there.ensures (ap (λ (s : Session). is_some s.home) c.session-session.ensures ∙ has))
    c.admit.result c.admit.ensures.is in
    let goes = subst (λ (w : Option OwnError). IsVerdictFor book (situation_at keys c.args.desk.now) client c.args.payload.now (verdict_by (wanted_of by.caller (prepared_of c.args.named) c.args.going) w))
    c.in_default.is is in
    subst (λ (v : Verdict). IsAsPromised book (situation_at keys c.args.desk.now) (next_number c.args.desk.now.seat.statements) client c.args.payload.now v) (sym same)
    (sent-promised book (situation_at keys c.args.desk.now) (next_number c.args.desk.now.seat.statements) client c.args.payload.now c.args.going c.args.named by goes)) c.goes.ensures
