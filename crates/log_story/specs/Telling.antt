-- From a log to a story: what each entry tells. The marks of a log, Exec and Drop, are the run of its servers: one runs what
-- stands there, and a QUIT ends the link.
use Rattle.std.specs.Prelude.{ℕ, ◌+◌, List, [], ◌∷◌, ◌++◌, fold, length, map, not, if◌then◌else◌}
use Rattle.mx_base.specs.declared.names.LinkId.{LinkId}
use Rattle.mx_wire.specs.Log.{Log}
use Rattle.mx_wire.specs.declared.entry.Entry.{Entry}
use Rattle.mx_wire.specs.declared.entry.Entry.TheVariants.{Accepted, Opened, Got, Ended, ReadFailed, Wrote, WriteFailed, Closed, Exec, Drop}
use Rattle.reply_track.specs.declared.reply.ReplyKind.TheVariants as kind
use Rattle.server_side.specs.Login.{opening}
use Rattle.private_model.specs.Story.{Dropped, Gone, Ran, Story}
use Rattle.private_model.specs.View.{Setup}
use Rattle.log_story.specs.Plan.{Plan}
use Rattle.log_story.specs.Tale.{Tale, Wire, client_gets, client_hears, counted, first_tale, is_reset_step, is_to_server, new_client, new_wire, tell, view_of}
use Rattle.log_story.specs.Tale.{with_wire}
use Rattle.log_story.specs.Clients.{client_leaves, clients_are_ended, clients_go_on}
use Rattle.log_story.specs.Servers.{entered_by, links_are_freed, read_as, reads_on, reset_by, writes}

-- with the bytes that were read there
abbrev pub wire_with : Tale → LinkId → List ℕ → Wire
wire_with tale link bytes = record (tale.wires link) { unread = (tale.wires link).unread ++ bytes }

abbrev pub server_says : Setup → Plan → LinkId → List ℕ → Tale → Tale
server_says setup plan link bytes tale =
    let wire = wire_with tale link bytes in
    if not (tale.wires link).entered then entered_by plan link wire (opening (plan.logins link) wire.unread) tale
    else if is_reset_step (tale.wires link).step then reset_by link wire (read_as kind.Command wire) tale
    else reads_on setup link wire tale

-- a link to a server is lost or closed, or a client leaves
abbrev pub is_lost_or_left : LinkId → Tale → Tale
is_lost_or_left link tale = if is_to_server tale link then tell (Gone link) tale else fold (client_leaves link) tale tale.clients

abbrev pub told : Setup → Plan → Tale → Entry → Tale
told setup plan tale (Accepted port link salt) = record tale { clients = tale.clients ++ new_client (length tale.clients + 1) port link salt ∷ [] }
told setup plan tale (Opened server address link) = with_wire link (new_wire server) (record tale { links = tale.links ++ link ∷ [] })
told setup plan tale (Got link bytes) =
    if is_to_server tale link then server_says setup plan link bytes tale else record tale { clients = map (client_hears link bytes) tale.clients }
told setup plan tale (Wrote link tag bytes) =
    if is_to_server tale link then writes setup plan link tag bytes (tale.wires link) tale
    else record tale { clients = map (client_gets link (length bytes)) tale.clients }
told setup plan tale (Exec link) =
    if (tale.wires link).entered then tell (if (tale.wires link).quits then Dropped link else Ran link) tale else tale
told setup plan tale (Drop link) = tell (Dropped link) tale
told setup plan tale (Ended link) = is_lost_or_left link tale
told setup plan tale (ReadFailed link) = is_lost_or_left link tale
told setup plan tale (WriteFailed link) = is_lost_or_left link tale
told setup plan tale (Closed link) = is_lost_or_left link tale
told setup plan tale _ = tale

-- then clients are ended, links are given back, and messages are taken up, by which links may be given back
abbrev pub tale_step : Setup → Plan → Tale → Entry → Tale
tale_step setup plan tale e =
    links_are_freed setup plan (clients_are_ended plan (clients_go_on setup plan (view_of setup tale) e
    (links_are_freed setup plan (counted (told setup plan tale e)))))

abbrev pub story_of : Setup → Plan → Log → Story
story_of setup plan log = (fold (tale_step setup plan) first_tale log).story
