use Rattle.marked_tables.proofs.Rising.{gains_none}
use Rattle.marked_tables.proofs.homes.put_home.Goals as goal

pub returns-in-None : goal.returns-in-None
returns-in-None c = rw c.in-None.is (gains_none c.args.links.now.items c.requires)
