use Rattle.shared_core.proofs.Needed.{or_left}
use Rattle.shared_core.proofs.needing.add_links.Goals as goal

pub loop-server-preserved : goal.loop-server-preserved
loop-server-preserved c = λ q was. or_left _ _ _ (c.in_ok-add_keys.ensures q) (c.loop-server.invariant q was)
