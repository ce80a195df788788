use Rattle.std.specs.Prelude.{slice_index_or, Err, Ok}
use Rattle.std.specs.Option.{option_copied}
use Rattle.std.proofs.Common.{◌∙◌, ap, arith, subst}
use Rattle.std.proofs.lemmas.Result.{IfOk-weaker}
use Rattle.command_parse.specs.Meaning.{meaning_of}
use Rattle.mx_base.specs.Fields.{AreBytes}
use Rattle.query_rules.specs.Passing.{rules_of}
use Rattle.message_judge.specs.Drafts.{value_of}
use Rattle.message_judge.specs.Judging.{still}
use Rattle.message_judge.proofs.Answering.{IsSmall, found-so, parsed-small}
use Rattle.message_judge.proofs.message.judge.Goals as goal

pub returns-in-Ok-clause-own : goal.returns-in-Ok-clause-own
returns-in-Ok-clause-own c =
    let bytes : AreBytes c.args.payload.now = λ i. omega (arith, c.type_inv.payload i) in
    IfOk-weaker c.by_command.result _ _
    (λ found is. found-so (rules_of c.args.rules.now) c.args.caller.now c.args.standing (option_copied c.args.prepared) (slice_index_or c.args.payload.now 0 0)
    (Ok (meaning_of c.in-Ok.command)) found (subst IsSmall c.in-Ok.ensures (parsed-small c.known_of.result c.args.payload.now bytes)) is) c.by_command.ensures

pub returns-in-Err-clause-own : goal.returns-in-Err-clause-own
returns-in-Err-clause-own c =
    let bytes : AreBytes c.args.payload.now = λ i. omega (arith, c.type_inv.payload i) in
    found-so (rules_of c.args.rules.now) c.args.caller.now c.args.standing (option_copied c.args.prepared) (slice_index_or c.args.payload.now 0 0) (Err c.in-Err.fault)
    c.still.result (subst IsSmall c.in-Err.ensures (parsed-small c.known_of.result c.args.payload.now bytes))
    (ap (value_of c.args.caller.now (option_copied c.args.prepared)) c.still.ensures
    ∙ ap (still c.args.caller.now) (c.faulty.ensures c.args.caller.now (option_copied c.args.prepared)))
