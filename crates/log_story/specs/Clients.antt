-- What clients ask: which message is taken up and becomes due when, and when a client leaves.
use Rattle.std.specs.Prelude.{ℕ, zero, suc, Bool, true, false, not, ◌&&◌, ◌||◌, is_some, nat_eq, fold, length, slice_get, slice_index_or, Option, Some}
use Rattle.std.specs.Prelude.{None, if◌then◌else◌}
use Rattle.std.specs.Option.{option_map_or}
use Rattle.mx_wire.specs.declared.entry.Entry.{Entry}
use Rattle.mx_wire.specs.declared.entry.Entry.TheVariants.{Woke, Got, Ended, ReadFailed, WriteFailed}
use Rattle.packet_frame.specs.Packets.{Framed}
use Rattle.session_state.specs.Pins.{is_pinned}
use Rattle.private_model.specs.Names.{Hostgroup, LinkId, MessageName}
use Rattle.private_model.specs.Commands.{Command}
use Rattle.private_model.specs.Story.{BecameDue, Broke, Left, Mirrored, is_client, is_link_id}
use Rattle.private_model.specs.View.{Held, Setup, View, present, session_in}
use Rattle.log_story.specs.Executes.{Request, requested}
use Rattle.log_story.specs.Owed.{has_room, messages, name_of}
use Rattle.log_story.specs.Plan.{Plan, Route, com_reset, gives_up, is_before, is_now, job_of, own_at}
use Rattle.log_story.specs.Tale.{Client, Tale, tell, view_of, with_client}

-- An event of a client: the router is woken, or bytes, their end or a failure come on the client's link or on one that carries it.

abbrev pub concerns : View → Client → LinkId → Bool
concerns view client link =
    is_link_id client.link link || option_map_or (λ n. is_client n.client client.number) (session_in (view.links link).carries) false

abbrev pub is_event_of : View → Client → Entry → Bool
is_event_of view client (Woke until_ms now_ms) = true
is_event_of view client (Got link bytes) = concerns view client link
is_event_of view client (Ended link) = concerns view client link
is_event_of view client (ReadFailed link) = concerns view client link
is_event_of view client (WriteFailed link) = concerns view client link
is_event_of view client _ = false

-- A message is answered where its reply was read, or the router answered it itself, which may be by nothing.
abbrev pub is_answered : Plan → Tale → View → Client → (ordinal : ℕ) → Bool
is_answered plan tale view client zero = true
is_answered plan tale view client ordinal = is_some (own_at plan tale.moment (name_of client ordinal)) || is_some (view.replies (name_of client ordinal))

-- A capture is due first, in the session to which the message before went.

abbrev pub captures_first : Held → Bool
captures_first held = not (is_pinned held.pin) && not (is_some held.id)

abbrev pub waits_for_capture : View → Plan → Client → Bool
waits_for_capture view plan client =
    option_map_or (λ (route : Route). captures_first (view.held (present view client.number route.hostgroup))) (plan.routes (name_of client client.taken)) false

-- A message is taken up: it becomes due, and with it a copy, as the one statement of a job; or the router answers it; a
-- COM_RESET_CONNECTION leaves the client's sessions. Where it asks a server for nothing, a rule of sending is broken.

abbrev pub copied : MessageName → Command → Option Hostgroup → Tale → Tale
copied message command None tale = tale
copied message command (Some hostgroup) tale =
    tell (BecameDue (job_of message) hostgroup 1 0 command None) (tell (Mirrored message.client (job_of message)) tale)

abbrev pub due_by : Client → (ordinal : ℕ) → Route → Option Request → Tale → Tale
due_by client ordinal route None tale = tell Broke tale
due_by client ordinal route (Some request) tale =
    copied (name_of client ordinal) request.command route.mirror
    (tell (BecameDue client.number route.hostgroup ordinal request.key request.command route.multiplex) tale)

abbrev pub taken_by : Setup → Plan → Client → (ordinal : ℕ) → Framed → Option Route → Tale → Tale
taken_by setup plan client ordinal message None tale =
    if nat_eq (slice_index_or message.payload 0 0) com_reset then tell (Left client.number) tale else tale
taken_by setup plan client ordinal message (Some route) tale =
    due_by client ordinal route (requested setup (view_of setup tale) plan client ordinal route message.payload) tale

-- the next message is up, where it is whole: the one before it is answered, no capture is due, and there is room
abbrev pub is_up : Setup → Plan → Client → Tale → Bool
is_up setup plan client tale =
    is_answered plan tale (view_of setup tale) client client.taken
    && (not (waits_for_capture (view_of setup tale) plan client) && has_room (view_of setup tale).replies plan tale.moment client)

abbrev pub next_taken : Setup → Plan → Client → Option Framed → Tale → Option Tale
next_taken setup plan client None tale = None
next_taken setup plan client (Some message) tale =
    if is_up setup plan client tale
    then Some (taken_by setup plan client (suc client.taken) message (plan.routes (name_of client (suc client.taken))) tale)
    else None

-- messages are taken up in order, as many as can be
abbrev pub taken_up : (most : ℕ) → Setup → Plan → Client → Tale → Tale
taken_up zero setup plan client tale = tale
taken_up (suc most) setup plan client tale =
    let next = record client { taken = suc client.taken } in
    option_map_or (λ other. taken_up most setup plan next (with_client next other))
    (next_taken setup plan client (slice_get (messages plan client) client.taken) tale) tale

-- as they are at an event of this client, or where its message is given up, unless the router ended it; the view is that of before
abbrev pub client_goes_on : Setup → Plan → View → Entry → Tale → Client → Tale
client_goes_on setup plan view e tale client =
    if (is_event_of view client e || gives_up plan tale.moment (name_of client client.taken)) && not (is_before tale.moment (plan.ends client.number)) then taken_up (length (messages plan client)) setup plan client tale
    else tale

abbrev pub clients_go_on : Setup → Plan → View → Entry → Tale → Tale
clients_go_on setup plan view e tale = fold (client_goes_on setup plan view e) tale tale.clients

-- the router ends a client
abbrev pub ended_if_now : Plan → Tale → Client → Tale
ended_if_now plan tale client = if is_now tale.moment (plan.ends client.number) then tell (Left client.number) tale else tale

abbrev pub clients_are_ended : Plan → Tale → Tale
clients_are_ended plan tale = fold (ended_if_now plan) tale tale.clients

-- the client of a link leaves
abbrev pub client_leaves : LinkId → Tale → Client → Tale
client_leaves link tale client = if is_link_id client.link link then tell (Left client.number) tale else tale
