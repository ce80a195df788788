use Rattle.std.proofs.Common.{◌∙◌, ap, length}
use Rattle.packet_frame.specs.FramerState.{FramerState}
use Rattle.packet_frame.proofs.Framing.{read-length}
use Rattle.packet_frame.proofs.framer.Framer.kept.Goals as goal

pub returns : goal.returns
returns c = c.read.ensures ∙ read-length c.self.inside.limit c.self.inside.kept c.self.invariant ∙ ap (λ (s : FramerState). length s.kept) c.self.view_is
