use Rattle.oracle.proofs.Leading.{leads_statement}
use Rattle.oracle.proofs.world.World.statement.Goals as goal

pub returns-clause-turn : goal.returns-clause-turn
returns-clause-turn g c = leads_statement g.R.TameServer.step c.args.who.now c.args.self.now c.take.new.self c.answer.new.self c.put.new.self c.in_ok-own.own c.statement.new.self
    (g.R.TameServer.stored c.args.server.now) (g.R.TameServer.stored c.statement.new.server) c.args.asked c.is_prepare-to_prepare.result c.in_ok-payloads.payloads
    c.in_ok-own.ensures.session c.in_ok-own.ensures.prepared c.take.ensures.others c.take.ensures.answers c.is_prepare-to_prepare.ensures c.in_ok-payloads.ensures.statement
    c.in_ok-answer.ensures.answer c.answer.ensures.owns c.in_ok-put.ensures.own c.put.ensures.answers
