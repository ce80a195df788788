use Rattle.std.specs.BTreeSet.{keys}
use Rattle.shared_core.proofs.Numbers.{noted_next}
use Rattle.shared_core.proofs.router.Router.all_numbers.Goals as goal

pub loop-number-preserved : goal.loop-number-preserved
loop-number-preserved c = λ client going.
    noted_next client.0 c.in-Some.number.now (keys c.loop-number.numbers) (keys c.insert.new.self) c.loop-number.number-iterator c.next.new.self
    c.in-Some.ensures.steps c.in_ok-insert.ensures.keys (c.loop-number.invariant client going)
