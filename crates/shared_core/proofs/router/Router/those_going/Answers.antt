use Rattle.std.specs.BTreeSet.{keys}
use Rattle.shared_core.specs.Stands.{tables}
use Rattle.shared_core.specs.Wakes.{going_in}
use Rattle.shared_core.proofs.Numbers.{going_goes_on, going_rise}
use Rattle.shared_core.proofs.router.Router.those_going.Goals as goal

pub returns-clause-rising : goal.returns-clause-rising
returns-clause-rising c =
    going_rise (tables c.args.self.now) (keys c.args.numbers.now) c.loop-number.number-iterator c.loop-number.clients.items c.in-None.ensures.steps.0
    c.loop-number.invariant c.iter-number-items.ensures.ordered

pub loop-number-preserved : goal.loop-number-preserved
loop-number-preserved c =
    going_goes_on (tables c.args.self.now) c.in-Some.number.now c.loop-number.number-iterator c.next.new.self c.loop-number.clients.items
    c.keep_going.new.clients.items (going_in (tables c.args.self.now) (keys c.args.numbers.now)) c.in-Some.ensures.steps c.in_ok-keep_going.ensures
    c.loop-number.invariant
