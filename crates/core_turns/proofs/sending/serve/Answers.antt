use Rattle.std.specs.Prelude.{Some}
use Rattle.std.proofs.Common.{refl, subst, sym}
use Rattle.mx_base.specs.declared.names.Port.{Port}
use Rattle.stmt_map.specs.Client.{next_number}
use Rattle.message_judge.specs.Told.{payloads_of}
use Rattle.core_service.specs.Serves.{rules_in}
use Rattle.core_promises.specs.Administers.{Makes}
use Rattle.core_promises.specs.Judges.{IsToldAt}
use Rattle.core_promises.specs.Ruled.{book_of, ruling_of, situation_at}
use Rattle.core_tables.specs.Tables.{tables_of}
use Rattle.core_texts.specs.Texts.{key_at}
use Rattle.core_turns.specs.Judged.{IsAsPromised, IsOwnVerdict, IsVerdictOn}
use Rattle.core_turns.specs.Preparing.{named_in}
use Rattle.core_turns.specs.declared.judged.Verdict.{Verdict}
use Rattle.core_turns.proofs.Prepared.{due_prepared}
use Rattle.core_turns.proofs.Ran.{due_run}
use Rattle.core_turns.proofs.Named.{runs-classed}
use Rattle.core_turns.proofs.Turning.{still-same}
use Rattle.core_turns.proofs.Ups.{up-fact}
use Rattle.core_turns.proofs.sending.serve.Goals as goal

pub returns-in-Quits-clause-is : goal.returns-in-Quits-clause-is
returns-in-Quits-clause-is c = λ made row there message found.
    let says = subst (λ (v : Verdict). IsVerdictOn (named_in c.args.texts.now row.desk.seat.statements message.payload) message.payload v) c.in-Quits.is
    (c.in_ok-flag.ensures.is row there message found) in
    (record { quits_only = says.0; says = says.1; same = still-same (tables_of c.args.marked.now.tables) }, refl)

pub returns-in_ok-answer-in-Answers-clause-is : goal.returns-in_ok-answer-in-Answers-clause-is
returns-in_ok-answer-in-Answers-clause-is c = λ made row there message found.
    c.in_ok-answer-in-Answers.ensures.is (ruling_of c.args.service.now c.args.texts.now.since (key_at c.args.texts.now) made made)
    (subst (λ (v : Verdict). IsOwnVerdict (rules_in c.args.service.now) v) c.in-Answers.is (c.in_ok-flag.ensures.own row there message found))
    row there message found
    (subst (λ (port : Port). IsToldAt port (book_of c.args.service.now) (situation_at (key_at c.args.texts.now) row.desk) c.args.client message.payload
    (payloads_of c.args.client.0 c.in-Answers.told)) (sym (c.requires.port row there message found))
    (subst (λ (v : Verdict). IsAsPromised (book_of c.args.service.now) (situation_at (key_at c.args.texts.now) row.desk) (next_number row.desk.seat.statements) c.args.client message.payload v)
    c.in-Answers.is (c.in_ok-flag.ensures.promised row there message found)))
    (subst (λ (port : Port). Makes port message.payload (Some (payloads_of c.args.client.0 c.in-Answers.told)) made made) (sym (c.requires.port row there message found)) refl)

pub returns-in_ok-becomes_due-in-Sends-clause-is : goal.returns-in_ok-becomes_due-in-Sends-clause-is
returns-in_ok-becomes_due-in-Sends-clause-is c = λ made row there message found.
    c.in_ok-becomes_due-in-Sends.ensures.is (ruling_of c.args.service.now c.args.texts.now.since (key_at c.args.texts.now) made made) refl row there message found
    (c.requires.port row there message found)
    (subst (λ (v : Verdict). IsAsPromised (book_of c.args.service.now) (situation_at (key_at c.args.texts.now) row.desk) (next_number row.desk.seat.statements) c.args.client message.payload v)
    c.in-Sends.is (c.in_ok-flag.ensures.promised row there message found))

-- it is prepared

pub becomes_prepared-requires-clause-class : goal.becomes_prepared-requires-clause-class
becomes_prepared-requires-clause-class c =
    up-fact (tables_of c.args.marked.now.tables) c.args.client _ c.requires.up
    (λ row there message found. (subst (λ (v : Verdict). IsVerdictOn (named_in c.args.texts.now row.desk.seat.statements message.payload) message.payload v) c.in-Prepares.is
    (c.in_ok-flag.ensures.is row there message found)).1)

pub returns-in_ok-becomes_prepared-in-Prepares-clause-is : goal.returns-in_ok-becomes_prepared-in-Prepares-clause-is
returns-in_ok-becomes_prepared-in-Prepares-clause-is c = λ made row there message found.
    due_prepared (book_of c.args.service.now) made c.args.texts.now c.becomes_prepared.new.texts c.in_ok-becomes_prepared-in-Prepares.ensures.more
    c.args.ordinal c.in_ok-flag.field-0.flag c.args.clock c.in-Prepares.hostgroup c.in-Prepares.text c.in-Prepares.multiplex c.in-Prepares.class c.args.client (tables_of c.args.marked.now.tables)
    (tables_of c.becomes_prepared.new.marked.tables)
    (λ r at m up. subst (λ (v : Verdict). IsVerdictOn (named_in c.args.texts.now r.desk.seat.statements m.payload) m.payload v) c.in-Prepares.is (c.in_ok-flag.ensures.is r at m up))
    c.in_ok-flag.ensures.memory c.in_ok-becomes_prepared-in-Prepares.ensures.is row there message found (c.requires.port row there message found)
    (subst (λ (v : Verdict). IsAsPromised (book_of c.args.service.now) (situation_at (key_at c.args.texts.now) row.desk) (next_number row.desk.seat.statements) c.args.client message.payload v)
    c.in-Prepares.is (c.in_ok-flag.ensures.promised row there message found))

-- it is executed

pub becomes_run-requires-clause-class : goal.becomes_run-requires-clause-class
becomes_run-requires-clause-class c =
    up-fact (tables_of c.args.marked.now.tables) c.args.client _ c.requires.up
    (λ row there message found. runs-classed c.args.texts.now row.desk.seat.statements message.payload c.in-Runs.named
    (subst (λ (v : Verdict). IsVerdictOn (named_in c.args.texts.now row.desk.seat.statements message.payload) message.payload v) c.in-Runs.is
    (c.in_ok-flag.ensures.is row there message found)).0)

pub returns-in_ok-becomes_run-in-Runs-clause-is : goal.returns-in_ok-becomes_run-in-Runs-clause-is
returns-in_ok-becomes_run-in-Runs-clause-is c = λ made row there message found.
    due_run (book_of c.args.service.now) made c.args.texts.now c.becomes_run.new.texts c.in_ok-becomes_run-in-Runs.ensures.more
    c.args.ordinal c.in_ok-flag.field-0.flag c.args.clock c.in-Runs.hostgroup c.in-Runs.multiplex c.in-Runs.named c.args.client (tables_of c.args.marked.now.tables)
    (tables_of c.becomes_run.new.marked.tables)
    (λ r at m up. subst (λ (v : Verdict). IsVerdictOn (named_in c.args.texts.now r.desk.seat.statements m.payload) m.payload v) c.in-Runs.is (c.in_ok-flag.ensures.is r at m up))
    c.in_ok-flag.ensures.memory c.in_ok-becomes_run-in-Runs.ensures.is row there message found (c.requires.port row there message found)
    (subst (λ (v : Verdict). IsAsPromised (book_of c.args.service.now) (situation_at (key_at c.args.texts.now) row.desk) (next_number row.desk.seat.statements) c.args.client message.payload v)
    c.in-Runs.is (c.in_ok-flag.ensures.promised row there message found))
