-- Which messages are given up by an entry, and with what: the promise's causes as one function.
use Rattle.std.specs.Prelude.{ℕ, ◌+◌, Bool, true, false, not, ◌&&◌, nat_le, List, [], ◌∷◌, if◌then◌else◌, Option, Some, None}
use Rattle.std.specs.Option.{option_and_then, option_map_or, option_or}
use Rattle.client_session.specs.Errors.{bad_server_bytes, connection_lost, connection_refused}
use Rattle.hostgroups.specs.declared.server.Server.{Server}
use Rattle.mx_wire.specs.Log.{link_of}
use Rattle.mx_wire.specs.declared.entry.Entry.{Entry}
use Rattle.mx_wire.specs.declared.entry.Entry.TheVariants.{Woke}
use Rattle.private_model.specs.Commands.{end_of, is_err}
use Rattle.private_model.specs.Names.{LinkId, MessageName, SessionName}
use Rattle.private_model.specs.Story.{Own, Prep, Question, Sync, is_link_id, is_message, is_name}
use Rattle.private_model.specs.View.{Carried, Nobody, session_in}
use Rattle.session_state.specs.Pins.{is_pinned}
use Rattle.log_story.specs.Plan.{Route, is_by_now}
use Rattle.tale_world.specs.Deciding.{World}
use Rattle.tale_world.specs.Policy.{Readied}
use Rattle.router_promises.specs.Errors.{no_connection, out_of_memory, replay_refused, server_offline}
use Rattle.router_promises.specs.GivenUp.{is_in_work, key_tried, session_of}
use Rattle.router_promises.specs.Heard as heard
use Rattle.router_promises.specs.Heard.{Answer, Bad, Part, Reading, is_amiss, is_step, reading_of}
use Rattle.router_promises.specs.Keys.{is_waiting, oldest}
use Rattle.router_promises.specs.Now.{entry_now, is_gone, wire_now}
use Rattle.router_promises.specs.Running.{is_off, status_in}
use Rattle.router_promises.specs.Steps.{wants_there}
use Rattle.router_promises.specs.Terms.{plan_in}
use Rattle.shared_router.specs.Fixed.{Fixed}
use Rattle.shared_router.specs.Known.{Known, held_by, link_by, setup_by}
use Rattle.shared_router.specs.Lends.{is_readied_for}
use Rattle.shared_router.specs.More.{More, terms_of}

-- what was known before the entry, for whom links were readied then, and servers' states behind it; the message, and where it goes
pub record Case : Type 0 where
  pub known : Known
  pub servers : List Server
  pub e : Entry
  pub m : MessageName
  pub route : Route

abbrev pub name_in : Case → SessionName
name_in c = session_of c.known.terms c.known.now c.m c.route

abbrev pub home_in : Case → Option LinkId
home_in c = (held_by c.known (name_in c)).home

abbrev pub is_home : Case → LinkId → Bool
is_home c link = option_map_or (is_link_id link) (home_in c) false

-- the link carries its session, which has no Pin
abbrev pub is_on : Case → LinkId → Bool
is_on c link = is_home c link && not (is_pinned (held_by c.known (name_in c)).pin)

abbrev pub is_named : Case → (LinkId → Bool) → Bool
is_named c test = option_map_or test (link_of c.e) false

abbrev pub payload_if : Bool → List ℕ → Option (List ℕ)
payload_if true payload = Some payload
payload_if false payload = None

abbrev pub lost : Case → Option (List ℕ)
lost c = payload_if (is_gone c.e && is_named c (is_on c)) connection_lost

-- at a wake, where no link is readied for it

abbrev pub is_ready : Case → Bool
is_ready c = is_readied_for c.known.now.tale.links c.known.readied (name_in c)

abbrev pub late_by : Case → Entry → Option (List ℕ)
late_by c (Woke until_ms now_ms) =
    payload_if (is_waiting c.known.terms c.known.now c.m.client c.route.hostgroup c.m.ordinal
    && (nat_le (c.known.now.since c.m + c.known.terms.router.proxy.wait_ms) now_ms && not (is_ready c)))
    (no_connection (c.known.now.since c.m) now_ms)
late_by c _ = None

abbrev pub late : Case → Option (List ℕ)
late c = late_by c c.e

-- no link could be had for the oldest of a key
abbrev pub unlinked : Case → Option (List ℕ)
unlinked c = payload_if (option_map_or
    (λ key. option_map_or (is_message c.m) (oldest c.known.terms c.known.now key) false) (key_tried c.known.terms c.known.now c.e) false) connection_refused

abbrev pub is_nobody : Carried → Bool
is_nobody Nobody = true
is_nobody _ = false

-- the link was readied for it
abbrev pub was_for : Case → LinkId → Bool
was_for c link = option_map_or (λ (r : Readied). is_name r.name (name_in c)) (c.known.readied link) false

-- its session is the one that the link carries
abbrev pub is_carried : Case → LinkId → Bool
is_carried c link = option_map_or (λ (n : SessionName). is_name n (name_in c)) (session_in (link_by c.known link).carries) false

abbrev pub is_step_for : Case → LinkId → Question → Bool
is_step_for c link (Own command) =
    if is_nobody (link_by c.known link).carries then was_for c link && wants_there c.known.terms c.known.now link (name_in c) command
    else is_carried c link && is_home c link
is_step_for c link (Prep n key text) = is_name n (name_in c)
is_step_for c link (Sync n command) = is_name n (name_in c)
is_step_for c link _ = false

abbrev pub by_answer : Case → LinkId → Answer → Option (List ℕ)
by_answer c link answer = option_or
    (payload_if (is_err answer.reply && is_step_for c link answer.question) (replay_refused (end_of answer.reply).code))
    (payload_if (is_step answer.question && (is_amiss answer.question answer.reply && is_on c link)) (bad_server_bytes 0))

abbrev pub by_reading : Case → LinkId → Reading → Option (List ℕ)
by_reading c link Part = None
by_reading c link (heard.Whole answer) = by_answer c link answer
by_reading c link (Bad place) = payload_if (is_on c link) (bad_server_bytes place)

abbrev pub by_bytes : Case → Option (List ℕ)
by_bytes c = option_and_then (λ link. by_reading c link (reading_of (setup_by c.known) c.known.now c.e)) (link_of c.e)

abbrev pub offline : Case → Option (List ℕ)
offline c = option_and_then
    (λ link. payload_if (is_on c link && status_in is_off c.servers (wire_now c.known.now link).server) server_offline) (home_in c)

-- memory is refused to its client, which wasn't ended before
abbrev pub starved : Case → Option (List ℕ)
starved c = payload_if (c.known.fixed.starves (entry_now c.known.now) c.m.client
    && not (is_by_now c.known.now.tale.moment ((plan_in c.known.terms).ends c.m.client))) out_of_memory

abbrev pub cause_of : Case → Option (List ℕ)
cause_of c = option_or (starved c) (option_or (lost c) (option_or (late c) (option_or (unlinked c) (option_or (by_bytes c) (offline c)))))

abbrev pub given_by : Known → List Server → Entry → MessageName → Option (List (List ℕ))
given_by k servers e m =
    if is_in_work k.terms k.now m
    then option_and_then (λ route. option_and_then (λ payload. Some (payload ∷ []))
    (cause_of (record { known = k; servers = servers; e = e; m = m; route = route }))) ((plan_in k.terms).routes m)
    else None

-- the world is that in which the entry was just told
abbrev pub known_before : Fixed → World More → Known
known_before fixed w = record { fixed = fixed; terms = terms_of fixed w; log = w.more.log; now = w.more.before; readied = w.more.readied }
