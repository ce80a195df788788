use Rattle.std.specs.BTreeSet.{keys}
use Rattle.shared_core.specs.Stands.{tables}
use Rattle.shared_core.proofs.Numbers.{called_so, some_called}
use Rattle.shared_core.proofs.router.Router.called_of.Goals as goal

pub returns-in_ok-everyone : goal.returns-in_ok-everyone
returns-in_ok-everyone c =
    called_so c.args.called.now (tables c.args.self.now) (keys c.in_ok-numbers.numbers) c.in_ok-everyone.everyone.items c.in_ok-everyone.ensures.going
    c.in_ok-everyone.ensures.rising (λ client calls going. c.in_ok-numbers.ensures client going)

pub returns-in_ok-some : goal.returns-in_ok-some
returns-in_ok-some c =
    called_so c.args.called.now (tables c.args.self.now) (keys c.args.called.now.some) c.in_ok-some.some.items c.in_ok-some.ensures.going
    c.in_ok-some.ensures.rising (λ client calls going. some_called c.args.called.now client c.if-called.false calls)
