-- Tests of a log: where the loop waits, while no statement is on its way; and of a message that all clients send.
use Rattle.std.specs.Prelude.{Bool, true, false, not, ◌&&◌, ◌||◌, ◌++◌, bytes_eq, take, ℕ, zero, suc, ◌-◌, List, [], ◌∷◌}
use Rattle.std.specs.List.{list_all, list_any}
use Rattle.std.specs.Option.{option_map_or}
use Rattle.mx_base.specs.declared.names.LinkId.{LinkId}
use Rattle.mx_base.specs.declared.names.Port.{Port}
use Rattle.mx_base.specs.declared.names.Port.TheVariants.{Admin, Traffic}
use Rattle.mx_wire.specs.Log.{Log, is_open, written_of}
use Rattle.mx_wire.specs.declared.entry.Entry.{Entry}
use Rattle.mx_wire.specs.declared.entry.Entry.TheVariants.{Over, WaitFailed, Woke}
use Rattle.core_promises.specs.Judges.{takings_along}
use Rattle.core_promises.specs.Waits.{error_to}
use Rattle.packet_frame.specs.Packets.{Framed}
use Rattle.ready_loop.specs.Drained.{all_accepted, all_named, read_dry, write_dry}
use Rattle.log_story.specs.Owed.{messages, name_of}
use Rattle.log_story.specs.Plan.{Plan, Route}
use Rattle.private_model.specs.Names.{MessageName}
use Rattle.private_model.specs.Commands.{Reply, end_of}
use Rattle.private_model.specs.Story.{Happening, Heard, Story, is_message}
use Rattle.private_model.specs.View.{Setup}
use Rattle.session_state.specs.Endings.{shows_transaction}
use Rattle.log_story.specs.Tale.{Client, Tale, first_tale}
use Rattle.log_story.specs.Telling.{tale_step}
use Rattle.router_promises.specs.Due.{due_to}
use Rattle.router_promises.specs.Dues.{is_unsent}
use Rattle.router_promises.specs.Ends.{was_answered}
use Rattle.router_promises.specs.Now.{Now, now_at, present_now}
use Rattle.router_promises.specs.Rest.{is_ahead}
use Rattle.router_promises.specs.Takings.{Taking, message_in, takings_at}
use Rattle.router_promises.specs.Terms.{Terms, plan_in, setup_in}

-- its statement waits for a link
abbrev pub is_in_line : Terms → Now → Client → Route → Bool
is_in_line terms now client route = is_unsent terms now.tale (present_now (setup_in terms) now client.number route.hostgroup)

abbrev pub is_told : Terms → Log → Now → Client → Bool
is_told terms log now client =
    bytes_eq (written_of client.link log ++ error_to terms now client) (due_to terms now client) || write_dry client.link log

abbrev pub is_worked : Terms → Now → Client → Bool
is_worked terms now client =
    was_answered terms now client
    || option_map_or (is_in_line terms now client) ((plan_in terms).routes (name_of client client.taken)) false

abbrev pub is_served : Terms → Log → Now → Client → Bool
is_served terms log now client =
    not (is_open client.link log)
    || (is_told terms log now client
    && ((read_dry client.link log || is_ahead terms now client) && is_worked terms now client))

-- nothing is left to read of a server
abbrev pub is_heard : Log → LinkId → Bool
is_heard log link = not (is_open link log) || read_dry link log

abbrev pub is_done : Terms → Log → Now → Bool
is_done terms log now =
    (all_accepted Traffic log && (all_accepted Admin log && all_named log))
    && (list_all (is_heard log) now.tale.links && list_all (is_served terms log now) now.tale.clients)

abbrev pub waits : Terms → Log → Now → Entry → Bool
waits terms log now (Woke until_ms now_ms) = is_done terms log now
waits terms log now WaitFailed = is_done terms log now
waits terms log now Over = is_done terms log now
waits terms log now _ = true

abbrev pub is_clients : Port → Bool
is_clients Traffic = true
is_clients Admin = false

-- no reply shows a transaction

abbrev pub shows_open : Reply → Bool
shows_open reply = option_map_or (λ (shown : Bool). shown) (shows_transaction (end_of reply)) false

abbrev pub opens : Happening → Bool
opens (Heard link reply) = shows_open reply
opens _ = false

abbrev pub opens_none : Story → Bool
opens_none story = list_all (λ (e : Happening). not (opens e)) story

-- the message of this name is one of these takings, of a client, and no transaction was opened before
abbrev pub is_closed_in : MessageName → Taking → Bool
is_closed_in name taking =
    is_message (message_in taking) name
    && (is_clients taking.client.port && opens_none taking.tale.story)

abbrev pub are_closed : List Taking → Client → (count : ℕ) → Bool
are_closed takings client zero = true
are_closed takings client (suc k) = list_any (is_closed_in (name_of client (suc k))) takings && are_closed takings client k

-- so it is of each that was taken up of each client of the log
abbrev pub all_closed : Terms → Log → Bool
all_closed terms log =
    list_all (λ (client : Client).
    are_closed (takings_along (setup_in terms) (plan_in terms) first_tale log) client client.taken)
    (now_at terms log).tale.clients

-- what was taken up of a client is this message
abbrev pub says_this : (payload : List ℕ) → Plan → Client → Bool
says_this payload plan client = list_all (λ (message : Framed). bytes_eq message.payload payload) (take client.taken (messages plan client))

abbrev pub all_say : (payload : List ℕ) → Plan → Now → Bool
all_say payload plan now = list_all (says_this payload plan) now.tale.clients

-- Each message that an entry takes up is one of these takings, of a client.

abbrev pub is_taken_in : MessageName → Taking → Bool
is_taken_in name taking = is_message (message_in taking) name && is_clients taking.client.port

abbrev pub are_taken : List Taking → Client → (k count : ℕ) → Bool
are_taken takings client k zero = true
are_taken takings client k (suc count) = list_any (is_taken_in (name_of client (suc k))) takings && are_taken takings client (suc k) count

abbrev pub all_taken : List Taking → (before now : List Client) → Bool
all_taken takings before [] = true
all_taken takings [] (client ∷ clients) = are_taken takings client 0 client.taken && all_taken takings [] clients
all_taken takings (old ∷ before) (client ∷ clients) =
    are_taken takings client old.taken (client.taken - old.taken) && all_taken takings before clients

-- so it is at each entry
abbrev pub all_clients : Setup → Plan → Tale → Log → Bool
all_clients setup plan tale [] = true
all_clients setup plan tale (e ∷ log) =
    all_taken (takings_at setup plan tale e) tale.clients (tale_step setup plan tale e).clients && all_clients setup plan (tale_step setup plan tale e) log
