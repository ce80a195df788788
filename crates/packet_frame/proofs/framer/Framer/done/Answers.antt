use Rattle.packet_frame.proofs.Framing.{framer-done}
use Rattle.packet_frame.proofs.framer.Framer.done.Goals as goal

pub returns : goal.returns
returns c = framer-done c.self.inside.limit c.self.inside.refused c.self.inside.kept c.clear.new.self c.args.self.now c.self.invariant c.self.view_is c.requires c.clear.ensures
