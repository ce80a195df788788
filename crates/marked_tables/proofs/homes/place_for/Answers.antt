use Rattle.marked_tables.proofs.Rising.{among_at}
use Rattle.marked_tables.proofs.homes.place_for.Goals as goal

pub returns-then-link-other-clause-there : goal.returns-then-link-other-clause-there
returns-then-link-other-clause-there c = among_at c.args.links.now c.loop-place.place _ c.args.link c.loop-place-test.true c.if-link-other.true
