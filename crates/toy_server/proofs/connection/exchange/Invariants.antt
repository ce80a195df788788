use Rattle.toy_server.specs.Talks.{IsAfter, begun, talked}
use Rattle.toy_server.proofs.connection.exchange.Given as goal

abbrev pub invariant-loop-turn : goal.invariant-loop-turn
invariant-loop-turn g l =
    IsAfter (talked g.R.TameServer.step (begun l.fn.link l.fn.hosts)) (g.I.Read.remaining l.fn.input) (g.I.Read.remaining l.input) (g.O.Write.contents l.fn.output) (g.O.Write.contents l.output) l.link l.hosts
