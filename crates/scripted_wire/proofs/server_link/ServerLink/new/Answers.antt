use Rattle.std.proofs.Common.{refl}
use Rattle.scripted_wire.proofs.server_link.ServerLink.new.Goals as goal

pub returns : goal.returns
returns c = rw c.in_ok-new.ensures refl
