use Rattle.std.specs.Prelude.{◌≡◌, suc, false}
use Rattle.link_state.specs.declared.wish.Command.TheVariants.{Plain, Prepare}
use Rattle.packet_frame.specs.Packets.{spelling}
use Rattle.log_story.specs.Plan.{text_payload}
use Rattle.core_tables.specs.Taking.{text_work}
use Rattle.core_laws.specs.taking.Joins.{text_route}
use Rattle.core_laws.proofs.taking.joins.decided_dues_stand.Goals as goal
use Rattle.core_laws.proofs.OfTaking.Joining.{noted_there}

pub returns : goal.returns
returns c = λ service g t other client row stands is flag since_ms hostgroup text multiplex form decided due.
    c.dues_stand.ensures service g t other client row stands is flag (text_route hostgroup text multiplex) due.command
    (text_work (suc client.taken) hostgroup since_ms multiplex form (spelling 0 (text_payload due.command))) due.taken.statements
    (c.dues_are_sent.ensures g t other client row is flag since_ms hostgroup text multiplex form decided due)
    (λ prepares. absurd (let no : Plain ≡ Prepare = prepares in cc))
    (noted_there false t client.number row is.up.message due.taken.statements is.there is.up.found due.taken.noted) due.taken.same
