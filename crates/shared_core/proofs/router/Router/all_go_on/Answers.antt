use Rattle.std.proofs.Common.{ap, arith}
use Rattle.shared_core.specs.Stands.{tables}
use Rattle.shared_core.specs.declared.came.Came.{Came}
use Rattle.shared_core.proofs.Goings.{gone-all, gone-first, gone-next}
use Rattle.shared_core.proofs.Keeping.{but_along, keeps_along, keeps_but, keeps_still}
use Rattle.shared_core.proofs.Partings.{out-then}
use Rattle.shared_core.proofs.router.Router.all_go_on.Goals as goal

pub loop-client-init : goal.loop-client-init
loop-client-init c = record {
  go = λ rising there. gone-first c.args.service.now c.args.self.now _ c.args.clients.now (tables c.args.self.now) rising there;
  keeps = keeps_but _ _ (keeps_still _);
}

pub loop-client-preserved : goal.loop-client-preserved
loop-client-preserved c = record {
  go = λ rising there.
      gone-next _ c.args.service.now c.args.self.now c.loop-client.self c.goes_on.new.self c.in_ok-goes_on.ensures.keeps.texts _ c.args.clients.now c.loop-client.client-index _ _ _ _ (omega (arith, c.loop-client-test.true))
      (c.loop-client.invariant.go rising there) c.in_ok-goes_on.ensures.goes
      (λ same ends. out-then c.args.ending.now _ _ _ _ _
      (ap (λ (came : Came). came.administrator) c.loop-client.invariant.keeps.came) same (c.is_out-ends.ensures ends));
  keeps = but_along _ _ _ c.in_ok-goes_on.ensures.keeps c.loop-client.invariant.keeps;
}

pub returns-clause-go : goal.returns-clause-go
returns-clause-go c = λ rising there.
    gone-all c.args.service.now _ _ c.args.clients.now c.loop-client.client-index _ _ (omega (arith, c.loop-client-test.false))
    (c.loop-client.invariant.go rising there)

pub returns-clause-keeps : goal.returns-clause-keeps
returns-clause-keeps c = c.loop-client.invariant.keeps
