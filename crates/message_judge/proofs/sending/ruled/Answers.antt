use Rattle.std.proofs.Common.{ap, sym, ◌∙◌}
use Rattle.std.proofs.lemmas.Result.{IfOk-weaker}
use Rattle.server_rule.specs.Classes.{router_reads}
use Rattle.message_judge.specs.Judging.{ruled}
use Rattle.message_judge.proofs.sending.ruled.Goals as goal

pub returns-in-Some : goal.returns-in-Some
returns-in-Some c = λ prepared. c.stopped.ensures prepared c.args.routed c.args.number
    ∙ ap (ruled router_reads c.args.caller.now c.args.standing c.args.routed c.args.number) (sym c.in-Some.is)

pub returns-in-None : goal.returns-in-None
returns-in-None c = IfOk-weaker c.classified.result _ _
    (λ draft is prepared. is prepared c.args.routed.next_flag c.args.routed.stop
    ∙ ap (ruled router_reads c.args.caller.now c.args.standing c.args.routed c.args.number) (sym c.in-None.is))
    c.classified.ensures
