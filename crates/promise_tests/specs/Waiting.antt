-- Tests of a log where the loop waits.
use Rattle.std.specs.Prelude.{ℕ, ◌+◌, Bool, true, false, not, ◌&&◌, ◌||◌, bytes_eq, nat_eq, nat_le, nat_lt, length, if◌then◌else◌, List, [], ◌∷◌, ◌++◌, Option, Some, None}
use Rattle.std.specs.List.{list_all, list_any}
use Rattle.std.specs.Option.{option_map_or}
use Rattle.mx_base.specs.declared.names.LinkId.{LinkId}
use Rattle.mx_base.specs.declared.names.Port.TheVariants.{Admin, Traffic}
use Rattle.mx_wire.specs.Log.{Log, is_open, of_link, written_of}
use Rattle.mx_wire.specs.declared.entry.Entry.{Entry}
use Rattle.mx_wire.specs.declared.entry.Entry.TheVariants.{Over, WaitFailed, Woke}
use Rattle.packet_frame.specs.Packets.{spelling}
use Rattle.ready_loop.specs.Drained.{all_accepted, all_named, read_dry, write_dry}
use Rattle.server_side.specs.Login.{said_of}
use Rattle.private_model.specs.Names.{SessionName}
use Rattle.private_model.specs.Story.{BecameDue, Story, command_of}
use Rattle.private_model.specs.View.{Answered, Asked, Quiet, Stage}
use Rattle.log_story.specs.Owed.{name_of}
use Rattle.log_story.specs.Plan.{Route, text_payload}
use Rattle.log_story.specs.Tale.{Client}
use Rattle.router_promises.specs.Closes.{is_usable}
use Rattle.router_promises.specs.Due.{due_to}
use Rattle.router_promises.specs.Dues.{is_unsent}
use Rattle.router_promises.specs.Ends.{moment_in, was_answered}
use Rattle.router_promises.specs.GivenUp.{left_waiting}
use Rattle.router_promises.specs.Keys.{LinkKey, has_place, how_many, is_idle, is_opening, is_resting, is_stepping, is_waiting, key_for, waiting}
use Rattle.router_promises.specs.Now.{Now, held_now, is_here, link_now, present_now, wire_now}
use Rattle.router_promises.specs.Rest.{is_answered_on, is_failed_write, is_spared_for, owes_capture, owes_reset}
use Rattle.router_promises.specs.Running.{is_entering, opening_on}
use Rattle.router_promises.specs.Terms.{Terms, plan_in, setup_in}
use Rattle.router_promises.specs.Wakes.{has_ended, wakes_at}
use Rattle.promise_tests.specs.Telling.{is_run, is_whole_step}

-- the keys of the statements that wait
abbrev pub keys_in : Terms → Now → Story → List LinkKey
keys_in terms now [] = []
keys_in terms now (BecameDue client hostgroup ordinal at command multiplex ∷ past) =
    keys_in terms now past
    ++ (if is_waiting terms now client hostgroup ordinal
    then key_for (setup_in terms) now client hostgroup ∷ [] else [])
keys_in terms now (e ∷ past) = keys_in terms now past

-- at a wake few are left that waited too long
abbrev pub leaves_few_of : Terms → Log → (later : Now) → (now_ms : ℕ) → LinkKey → Bool
leaves_few_of terms log later now_ms key =
    nat_le (length (left_waiting terms later now_ms key))
    (how_many is_idle terms log later key + how_many is_stepping terms log later key)

abbrev pub leaves_few : Terms → Log → (later : Now) → Entry → Bool
leaves_few terms log later (Woke until_ms now_ms) =
    list_all (leaves_few_of terms log later now_ms) (keys_in terms later later.tale.story)
leaves_few terms log later _ = true

-- Reads.

abbrev pub is_read : Terms → Log → Now → LinkId → Bool
is_read terms log now link =
    not (is_open link log)
    || (read_dry link log || list_any (is_spared_for terms now link) now.tale.clients)

-- Clients. What is under way to one as an execute isn't tested.

abbrev pub is_whole : Stage → (written : List ℕ) → Bool
is_whole Quiet written = false
is_whole (Asked question) written =
    not (is_run (command_of question))
    && bytes_eq written (spelling 0 (text_payload (command_of question)))
is_whole (Answered question) written = true

abbrev pub goes_on : Terms → Log → Now → LinkId → Bool
goes_on terms log now link =
    is_here log link && (write_dry link log
    || is_whole (link_now (setup_in terms) now link).stage (wire_now now link).written)

abbrev pub works_for : Terms → Log → Now → Client → Route → Bool
works_for terms log now client route =
    let n = present_now (setup_in terms) now client.number route.hostgroup in
    is_unsent terms now.tale n
    || option_map_or (goes_on terms log now) (held_now (setup_in terms) now n).home false

abbrev pub is_attended : Terms → Log → Now → Client → Bool
is_attended terms log now client =
    (bytes_eq (written_of client.link log) (due_to terms now client) || write_dry client.link log)
    && ((has_ended terms now client
    || (was_answered terms now client
    || option_map_or (works_for terms log now client)
    ((plan_in terms).routes (name_of client client.taken)) false))
    && (not (list_any is_failed_write (of_link client.link log))
    && ((not (has_ended terms now client) || write_dry client.link log)
    && (not (has_ended terms now client)
    || nat_lt now.clock (moment_in log
    ((plan_in terms).ends client.number) + terms.router.proxy.wait_ms)))))

abbrev pub rests_client : Terms → Log → Now → Client → Bool
rests_client terms log now client = not (is_open client.link log) || is_attended terms log now client

-- Links to servers.

abbrev pub is_begun_whole : Stage → (written : List ℕ) → Bool
is_begun_whole (Asked question) written =
    not (is_run (command_of question))
    && bytes_eq written (spelling 0 (text_payload (command_of question)))
is_begun_whole _ written = true

abbrev pub owes_nothing : Terms → Now → LinkId → Bool
owes_nothing terms now link =
    let wire = wire_now now link in
    let at = link_now (setup_in terms) now link in
    (not (is_entering terms now.tale link)
    || bytes_eq wire.written (said_of (opening_on terms now.tale link)))
    && ((is_begun_whole at.stage wire.written && is_whole_step wire.step wire.written)
    && ((not (is_answered_on (setup_in terms) now link) || not (owes_reset (setup_in terms) now at.carries))
    && (not (is_answered_on (setup_in terms) now link) || not (owes_capture (setup_in terms) now at.carries))))

abbrev pub is_sound : Terms → Log → Now → LinkId → Bool
is_sound terms log now link =
    (is_usable terms log now link && not (wire_now now link).quits)
    && ((not (is_resting terms log now link)
    || nat_lt now.clock ((now.uses link).used + terms.router.proxy.idle_ms))
    && (write_dry link log || owes_nothing terms now link))

abbrev pub rests_server : Terms → Log → Now → LinkId → Bool
rests_server terms log now link = not (is_open link log) || is_sound terms log now link

abbrev pub is_shared : Terms → Log → Now → LinkKey → Bool
is_shared terms log now key =
    (not (nat_lt 0 (how_many is_idle terms log now key))
    || nat_le (waiting terms now key) (how_many is_stepping terms log now key))
    && (nat_le (waiting terms now key)
    (how_many is_opening terms log now key + how_many is_stepping terms log now key)
    || not (has_place terms log now key.hostgroup))

abbrev pub is_at_rest : Terms → Log → Now → Bool
is_at_rest terms log now =
    (all_accepted Traffic log && (all_accepted Admin log && all_named log))
    && ((list_all (λ (client : Client). is_read terms log now client.link) now.tale.clients
    && list_all (is_read terms log now) now.tale.links)
    && ((list_all (rests_client terms log now) now.tale.clients
    && list_all (rests_server terms log now) now.tale.links)
    && list_all (is_shared terms log now) (keys_in terms now now.tale.story)))

abbrev pub rests : Terms → Log → Now → Entry → Bool
rests terms log now (Woke until_ms now_ms) =
    is_at_rest terms log now && nat_eq until_ms (wakes_at terms log now)
rests terms log now WaitFailed = is_at_rest terms log now
rests terms log now Over = is_at_rest terms log now
rests terms log now _ = true
