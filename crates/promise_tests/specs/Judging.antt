-- Tests of what the router decides: where messages go, which steps it takes, what it opens and closes, whom it gives up and whom it ends.
use Rattle.std.specs.Prelude.{ℕ, ◌+◌, Bool, true, false, not, ◌&&◌, ◌||◌, bytes_eq, nat_eq, nat_le, nat_lt, length, if◌then◌else◌, List, [], ◌∷◌, ◌++◌, slice_index_or, Option, Some, None}
use Rattle.std.specs.List.{list_all, list_any}
use Rattle.std.specs.Option.{option_map, option_map_or}
use Rattle.client_session.specs.Errors.{bad_server_bytes, connection_lost, connection_refused}
use Rattle.hostgroups.specs.Servers.{server_at}
use Rattle.hostgroups.specs.declared.server.Server.{Server}
use Rattle.mx_base.specs.declared.names.Address.{Address}
use Rattle.mx_base.specs.declared.names.LinkId.{LinkId}
use Rattle.mx_base.specs.declared.names.ServerId.{ServerId}
use Rattle.mx_base.specs.declared.tag.Tag.{Tag}
use Rattle.mx_base.specs.declared.tag.Tag.TheVariants as tags
use Rattle.mx_wire.specs.Log.{Log, is_link, link_of, of_link, written_of}
use Rattle.mx_wire.specs.declared.entry.Entry.{Entry}
use Rattle.mx_wire.specs.declared.entry.Entry.TheVariants.{Closed, Opened, OpenFailed, Woke, Wrote}
use Rattle.session_state.specs.Pins.{is_pinned}
use Rattle.private_model.specs.Commands.{Command, Quit, end_of, is_err}
use Rattle.private_model.specs.Names.{ClientNo, MessageName}
use Rattle.private_model.specs.Story.{Key, Own, Prep, Question, Sync, is_link_id, is_message, is_name}
use Rattle.private_model.specs.View.{Carried, Nobody}
use Rattle.log_story.specs.Plan.{Alone, Asks, Closes, LastWord, OwnAnswer, Resets, Route, StepText, WordPlace, is_by_now, is_now, own_at}
use Rattle.log_story.specs.Servers.{may_begin}
use Rattle.log_story.specs.Tale.{Client, is_to_server}
use Rattle.router_promises.specs.Closes.{is_full, is_in_the_way, is_joined, is_past_reset, is_spare, is_spoilt, is_starved_by, is_unlent, others_vacant, was_amiss, was_refused}
use Rattle.router_promises.specs.Due.{due_to, served, turned_away}
use Rattle.router_promises.specs.Ends.{buffers_word, is_accepted, is_at, is_measured, is_too_much, is_unheard, is_write, may_end, moment_in, must_end, was_answered}
use Rattle.router_promises.specs.Errors.{no_connection, out_of_memory, replay_refused, server_offline}
use Rattle.router_promises.specs.GivenUp.{is_in_work, key_tried, session_of}
use Rattle.router_promises.specs.Heard.{Bad, Part, Reading, Whole, is_amiss, is_step, reading_of}
use Rattle.router_promises.specs.Keys.{LinkKey, has_room, how_many, is_free, is_nobodys, is_opening, key_of, oldest, waiting}
use Rattle.router_promises.specs.Now.{Now, entry_now, flag_taken, held_now, is_gone, is_loss, link_now, next, takings_now, while_ending, wire_now}
use Rattle.router_promises.specs.Router.{may_log_in}
use Rattle.router_promises.specs.Running.{hostgroup_of, is_off, is_soft, servers_after, status_in}
use Rattle.router_promises.specs.Dues.{is_unsent}
use Rattle.router_promises.specs.Steps.{is_for_due, is_prep_wanted, is_prepared_anew, is_wanted, live_keys, wants_there}
use Rattle.router_promises.specs.Takings.{Taking, message_in}
use Rattle.router_promises.specs.Terms.{Terms, Tried, login_as, plan_in, setup_in}
use Rattle.router_promises.specs.Uses.{StepKind, kind_of_step, steps_of}
use Rattle.router_promises.specs.Verdicts.{Goes, Parts, Tells, Verdict, Wanted, verdict}
use Rattle.promise_tests.specs.Same.{are_each, is_address, is_key, is_nothing, is_option, is_route}

-- Where a message goes. What is told for want of memory isn't tested.

abbrev pub is_keyed : Terms → (key : ℕ) → Option Key → Bool
is_keyed terms key None = true
is_keyed terms key (Some wanted) = is_key (terms.decided.keys key) wanted

abbrev pub goes_so : Terms → Taking → Wanted → Option Route → Bool
goes_so terms taking wanted None = false
goes_so terms taking wanted (Some route) =
    is_route route wanted.route
    && (is_keyed terms route.key wanted.key
    && is_nothing (own_at (plan_in terms) taking.tale.moment (message_in taking)))

abbrev pub is_answer : (from : ℕ) → (payloads : List (List ℕ)) → OwnAnswer → Bool
is_answer from payloads answer = nat_eq answer.from from && are_each bytes_eq answer.payloads payloads

abbrev pub is_so : Terms → Taking → Verdict → Bool
is_so terms taking Parts =
    is_nothing ((plan_in terms).routes (message_in taking))
    && (is_nothing (own_at (plan_in terms) taking.tale.moment (message_in taking))
    && is_now taking.tale.moment ((plan_in terms).ends taking.client.number))
is_so terms taking (Tells payloads) =
    is_nothing ((plan_in terms).routes (message_in taking))
    && option_map_or (is_answer 0 payloads) ((plan_in terms).own (message_in taking)) false
is_so terms taking (Goes wanted) =
    goes_so terms taking wanted ((plan_in terms).routes (message_in taking))

abbrev pub are_so : Terms → List Server → (flags : ClientNo → ℕ) → List Taking → Bool
are_so terms servers flags [] = true
are_so terms servers flags (taking ∷ takings) =
    is_so terms taking (verdict terms servers (flags taking.client.number) taking)
    && are_so terms servers (flag_taken terms flags taking) takings

abbrev pub is_routed : Terms → Now → Entry → Bool
is_routed terms now e =
    are_so terms (servers_after terms now.clock now.tale e now.servers) now.flags
    (takings_now terms now e)

-- Closes.

abbrev pub is_needless : Terms → Log → Now → LinkId → Option LinkKey → Bool
is_needless terms log now link None = true
is_needless terms log now link (Some key) =
    nat_le (waiting terms now key) (others_vacant terms log now link key)

abbrev pub may_quit : Terms → Log → Now → LinkId → Bool
may_quit terms log now link =
    is_spoilt terms log now link
    || (was_amiss (setup_in terms) link now.tale.story
    || ((was_refused (setup_in terms) link now.tale.story
    && not (is_joined (link_now (setup_in terms) now link).carries))
    || (is_past_reset (setup_in terms) now link
    || ((is_unlent (setup_in terms) now link
    && status_in is_soft now.servers (wire_now now link).server)
    || ((is_unlent (setup_in terms) now link
    && nat_le ((now.uses link).used + terms.router.proxy.idle_ms) now.clock)
    || ((is_unlent (setup_in terms) now link
    && (is_in_the_way terms now (key_of terms now link)
    && is_full terms.router log now (key_of terms now link)))
    || (list_any (is_starved_by terms log now link) now.tale.clients
    || (is_spare terms log link
    && (is_nobodys (link_now (setup_in terms) now link).carries
    && is_needless terms log now link (key_of terms now link))))))))))

abbrev pub may_drop : Terms → Log → Now → LinkId → Bool
may_drop terms log now link = (wire_now now link).quits || may_quit terms log now link

abbrev pub closes_right : Terms → Log → Now → Entry → Bool
closes_right terms log now (Closed link) =
    not (is_to_server now.tale link) || may_drop terms log now link
closes_right terms log now _ = true

-- Steps.

abbrev pub is_in_series : Terms → Now → LinkId → Option StepKind → Bool
is_in_series terms now link None = false
is_in_series terms now link (Some kind) = nat_le (steps_of kind (now.uses link)) (now.uses link).lapsed

abbrev pub is_right_step : Terms → Now → LinkId → Command → Bool
is_right_step terms now link command =
    is_wanted terms now link command (link_now (setup_in terms) now link).carries
    && is_in_series terms now link (kind_of_step command)

abbrev pub is_close_of : Terms → Now → LinkId → (number key : ℕ) → Bool
is_close_of terms now link number key =
    is_option nat_eq ((link_now (setup_in terms) now link).live key) (Some number)
    && (nat_le 1000 (length (live_keys (setup_in terms) now link))
    || is_prepared_anew terms now (terms.decided.keys key).text (key_of terms now link))

abbrev pub may_step : Terms → Log → Now → LinkId → StepText → Bool
may_step terms log now link (Asks Quit) = may_quit terms log now link
may_step terms log now link (Asks command) = is_right_step terms now link command
may_step terms log now link (Closes number) =
    list_any (is_close_of terms now link number) (live_keys (setup_in terms) now link)
may_step terms log now link (Resets number) = list_any (nat_eq number) (now.uses link).long

abbrev pub may_step_for : Terms → Log → Now → LinkId → StepText → Tag → Bool
may_step_for terms log now link step tags.Own = may_step terms log now link step
may_step_for terms log now link step (tags.Sync client hostgroup) = may_step terms log now link step
may_step_for terms log now link step (tags.For client ordinal) =
    is_for_due terms now (record { client = client; ordinal = ordinal })
may_step_for terms log now link step (tags.Prep client ordinal) =
    is_prep_wanted terms now link (record { client = client; ordinal = ordinal })
may_step_for terms log now link step (tags.End client hostgroup) =
    not (is_past_reset (setup_in terms) now link)
may_step_for terms log now link step _ = true

abbrev pub steps_right : Terms → Log → Now → Entry → Bool
steps_right terms log now (Wrote link tag bytes) =
    not (is_to_server now.tale link)
    || (not (may_begin (setup_in terms) link (wire_now now link) now.tale)
    || may_step_for terms log now link ((plan_in terms).steps link (wire_now now link).begun) tag)
steps_right terms log now _ = true

-- Opens.

abbrev pub may_open_for : Terms → Log → Now → ServerId → Address → Tried → LinkKey → Bool
may_open_for terms log now server address tried key =
    is_option is_address (option_map (λ (s : Server). s.row.address) (server_at now.servers server))
    (Some address)
    && (has_room log now server
    && (may_log_in terms.router tried.login
    && nat_lt (how_many is_free terms log now key + how_many is_opening terms log now key)
    (waiting terms now key)))

abbrev pub may_open : Terms → Log → Now → ServerId → Address → Tried → Bool
may_open terms log now server address tried =
    option_map_or (λ hostgroup. may_open_for terms log now server address tried
    (record { hostgroup = hostgroup; account = login_as tried.login; bare = tried.bare }))
    (hostgroup_of terms.router server) false

abbrev pub opens_right : Terms → Log → Now → Entry → Bool
opens_right terms log now (Opened server address link) =
    may_open terms log now server address
    (record { login = (plan_in terms).logins link; bare = terms.decided.bare link })
opens_right terms log now (OpenFailed server address) =
    may_open terms log now server address (terms.decided.tried (entry_now now))
opens_right terms log now _ = true

-- Statements that are given up. What the router answers is a table of messages.

pub record Given : Type 0 where
  pub message : MessageName
  pub answer : OwnAnswer

abbrev pub own_by : List Given → MessageName → Option OwnAnswer
own_by [] m = None
own_by (given ∷ more) m = if is_message m given.message then Some given.answer else own_by more m

abbrev pub is_on_link : Terms → Now → MessageName → Route → LinkId → Bool
is_on_link terms now m route link =
    is_option is_link_id (held_now (setup_in terms) now (session_of terms now m route)).home (Some link)
    && not (is_pinned (held_now (setup_in terms) now (session_of terms now m route)).pin)

abbrev pub is_step_for : Terms → Now → MessageName → Route → LinkId → Question → Carried → Bool
is_step_for terms now m route link (Own command) Nobody =
    wants_there terms now link (session_of terms now m route) command
is_step_for terms now m route link (Own command) _ =
    is_option is_link_id (held_now (setup_in terms) now (session_of terms now m route)).home (Some link)
is_step_for terms now m route link (Prep n key text) carried = is_name n (session_of terms now m route)
is_step_for terms now m route link (Sync n command) carried = is_name n (session_of terms now m route)
is_step_for terms now m route link _ carried = false

abbrev pub is_late : Terms → Now → MessageName → Route → (payload : List ℕ) → Entry → Bool
is_late terms now m route payload (Woke until_ms now_ms) =
    is_unsent terms now.tale (session_of terms now m route)
    && (nat_le (now.since m + terms.router.proxy.wait_ms) now_ms
    && bytes_eq payload (no_connection (now.since m) now_ms))
is_late terms now m route payload _ = false

-- by what is read on a link
abbrev pub is_read_so : Terms → Now → MessageName → Route → (payload : List ℕ) → LinkId → Reading → Bool
is_read_so terms now m route payload link Part = false
is_read_so terms now m route payload link (Whole answer) =
    (is_err answer.reply && (is_step_for terms now m route link answer.question
    (link_now (setup_in terms) now link).carries
    && bytes_eq payload (replay_refused (end_of answer.reply).code)))
    || (is_step answer.question
    && (is_amiss answer.question answer.reply
    && (is_on_link terms now m route link && bytes_eq payload (bad_server_bytes 0))))
is_read_so terms now m route payload link (Bad place) =
    is_on_link terms now m route link && bytes_eq payload (bad_server_bytes place)

abbrev pub is_lost_so : Terms → (now later : Now) → Entry → MessageName → Route → (payload : List ℕ)
    → LinkId → Bool
is_lost_so terms now later e m route payload link =
    (is_gone e && (is_on_link terms now m route link && bytes_eq payload connection_lost))
    || is_read_so terms now m route payload link (reading_of (setup_in terms) now e)

abbrev pub is_offline : Terms → (now later : Now) → MessageName → Route → (payload : List ℕ) → LinkId
    → Bool
is_offline terms now later m route payload link =
    status_in is_off later.servers (wire_now now link).server
    && (is_on_link terms now m route link && bytes_eq payload server_offline)

abbrev pub has_no_link : Terms → Now → Entry → MessageName → (payload : List ℕ) → Bool
has_no_link terms now e m payload =
    option_map_or (λ key. is_option is_message (oldest terms now key) (Some m))
    (key_tried terms now e) false && bytes_eq payload connection_refused

abbrev pub has_cause : Terms → (now later : Now) → Entry → MessageName → Route → (payload : List ℕ)
    → Bool
has_cause terms now later e m route payload =
    is_late terms now m route payload e
    || (has_no_link terms now e m payload
    || (option_map_or (is_lost_so terms now later e m route payload) (link_of e) false
    || (list_any (is_offline terms now later m route payload) now.tale.links
    || (is_now (entry_now now) ((plan_in terms).ends m.client) && bytes_eq payload out_of_memory))))

abbrev pub is_given_by : Terms → (now later : Now) → Entry → MessageName → (payloads : List (List ℕ))
    → Route → Bool
is_given_by terms now later e m (payload ∷ []) route =
    is_in_work terms now m && has_cause terms now later e m route payload
is_given_by terms now later e m _ route = false

abbrev pub is_given : Terms → (now later : Now) → Entry → Given → Bool
is_given terms now later e given =
    not (nat_eq given.answer.from (entry_now now))
    || option_map_or (is_given_by terms now later e given.message given.answer.payloads)
    ((plan_in terms).routes given.message) false

-- 9104 has this lower byte
abbrev pub first_of : List (List ℕ) → List ℕ
first_of [] = []
first_of (payload ∷ payloads) = payload

abbrev pub is_replay : Now → Given → Bool
is_replay now given =
    nat_eq given.answer.from (entry_now now)
    && nat_eq (slice_index_or (first_of given.answer.payloads) 1 0) 144

abbrev pub is_single : Now → List Given → Bool
is_single now table =
    list_all (λ (a : Given). list_all
    (λ (b : Given). not (is_replay now a && is_replay now b)
    || is_message a.message b.message) table) table

-- Clients that end.

abbrev pub ends_here : Terms → Now → Client → Bool
ends_here terms now client =
    option_map_or (nat_eq (entry_now now)) ((plan_in terms).ends client.number) false

abbrev pub ends_right : Terms → Log → (now later : Now) → Entry → Client → Bool
ends_right terms log now later e client =
    (not (must_end terms log now (while_ending terms now e) e client)
    || is_by_now later.tale.moment ((plan_in terms).ends client.number))
    && (not (ends_here terms now client)
    || (must_end terms log now (while_ending terms now e) e client || may_end terms now e client))

abbrev pub is_turned_away : Terms → Log → Entry → Client → (payloads : List (List ℕ)) → Bool
is_turned_away terms log e client payloads =
    is_accepted e client && (not (served terms log client)
    && are_each bytes_eq payloads turned_away)

abbrev pub is_word_for : Terms → Log → (now ending : Now) → Entry → Client → WordPlace
    → (payloads : List (List ℕ)) → Bool
is_word_for terms log now ending e client Alone payloads = is_turned_away terms log e client payloads
is_word_for terms log now ending e client _ payloads =
    (is_at (setup_in terms) now e client && are_each bytes_eq payloads (out_of_memory ∷ []))
    || (is_too_much terms ending client
    && are_each bytes_eq payloads (buffers_word terms ending client ∷ []))

abbrev pub is_last_word : Terms → Log → Now → Entry → Client → LastWord → Bool
is_last_word terms log now e client word =
    not (nat_eq word.from (entry_now now))
    || (ends_here terms now client
    && (was_answered terms (while_ending terms now e) client
    && is_word_for terms log now (while_ending terms now e) e client word.place word.payloads))

-- one that is turned away isn't tested: here all are served
abbrev pub word_right : Terms → Log → (now later : Now) → Entry → Client → Bool
word_right terms log now later e client =
    (option_map_or (is_last_word terms log now e client) ((plan_in terms).words client.number) true
    && (not (is_accepted e client) || served terms log client))
    && (not (is_measured terms now (while_ending terms now e) e client)
    || (not (is_too_much terms (while_ending terms now e) client)
    || is_by_now later.tale.moment ((plan_in terms).ends client.number)))

abbrev pub may_part : Terms → Log → Now → Client → Bool
may_part terms log now client =
    bytes_eq (written_of client.link log) (due_to terms now client)
    || (list_any (λ e. is_loss e && is_link client.link (link_of e)) log
    || (nat_le (moment_in log
    ((plan_in terms).ends client.number) + terms.router.proxy.wait_ms) now.clock
    || ((not (served terms log client) && list_any is_write (of_link client.link log)) || is_unheard terms log client)))

abbrev pub parts_right : Terms → Log → Now → LinkId → Client → Bool
parts_right terms log now link client =
    not (is_link_id client.link link)
    || (is_by_now now.tale.moment ((plan_in terms).ends client.number) && may_part terms log now client)

abbrev pub parts : Terms → Log → Now → Entry → Bool
parts terms log now (Closed link) = list_all (parts_right terms log now link) now.tale.clients
parts terms log now _ = true

abbrev pub are_ended : Terms → Log → Now → Entry → Bool
are_ended terms log now e =
    let later = next terms now e in
    list_all (ends_right terms (log ++ e ∷ []) now later e) later.tale.clients
    && (list_all (word_right terms (log ++ e ∷ []) now later e) later.tale.clients
    && parts terms log now e)
