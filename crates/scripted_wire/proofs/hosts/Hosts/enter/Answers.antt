use Rattle.std.proofs.lemmas.List.Elements.{All-push}
use Rattle.scripted_wire.specs.Hosts.{IsTaken}
use Rattle.scripted_wire.proofs.hosts.Hosts.enter.Goals as goal

pub invariant_of-self-2 : goal.invariant_of-self-2
invariant_of-self-2 g c = (
  c.self.invariant.0,
  rw c.in_ok-push.ensures.items (All-push (IsTaken g.R.TameServer.tests) _ _ c.self.invariant.1 (rw c.in_ok-session.ensures c.tame.ensures.tests_kept.accepts_fresh)),
)
