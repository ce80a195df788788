use Rattle.std.proofs.Common.{◌∙◌, ap}
use Rattle.packet_frame.specs.Packets.{lacking}
use Rattle.packet_frame.specs.Joining.{joined_message}
use Rattle.packet_frame.specs.FramerState.{FramerState}
use Rattle.packet_frame.proofs.Joins.{untold, told-message}
use Rattle.packet_frame.proofs.Headers.{joined-lacking, joined-whole}
use Rattle.packet_frame.proofs.framer.Framer.announced.Goals as goal

pub returns-in-Some : goal.returns-in-Some
returns-in-Some c =
    let message = told-message (joined_message c.self.inside.kept) c.in-Some.field-0 c.in-Some.ensures in
    joined-whole c.self.inside.limit c.self.inside.kept message.0 c.self.invariant message.1 ∙ ap (λ (s : FramerState). lacking s.kept) c.self.view_is

pub returns-in-None : goal.returns-in-None
returns-in-None c =
    c.lacking.ensures ∙ ap lacking c.rest.ensures
    ∙ joined-lacking c.self.inside.limit c.self.inside.kept c.self.invariant (untold (joined_message c.self.inside.kept) c.in-None.ensures)
    ∙ ap (λ (s : FramerState). lacking s.kept) c.self.view_is
