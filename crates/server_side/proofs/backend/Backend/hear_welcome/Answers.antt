use Rattle.packet_frame.specs.FramerState.{look}
use Rattle.server_side.specs.Hearing.{welcome_read}
use Rattle.server_side.proofs.Founding.{found_told}
use Rattle.server_side.proofs.backend.Backend.hear_welcome.Goals as goal

pub returns-in-Ok-Some : goal.returns-in-Ok-Some
returns-in-Ok-Some c =
    rw (← c.self.view_is)
    (found_told welcome_read _ _
    (record { account = c.self.inside.account; framer = c.self.inside.framer; stage = c.self.inside.stage; own = c.self.inside.own; command = c.self.inside.command; reply = c.self.inside.reply })
    c.next.new.self (look 2 c.self.inside.framer) c.in-Ok-Some.field-0 c.in-Ok-Some.field-0-0 c.in-Ok-Some.field-0-is c.in-Ok-Some.ensures.found c.next.ensures.after c.read_welcome.ensures)
