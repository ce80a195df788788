-- Why links to servers close.
use Rattle.std.specs.Prelude.{◌≡◌, ℕ, suc, ◌+◌, ◌-◌, ◌≤◌, Bool, true, false, not, ◌&&◌, ◌||◌, bytes_eq, nat_eq, nat_lt, List, [], ◌∷◌, count_by, drop, take, Option, Some, None}
use Rattle.std.specs.Prelude.{if◌then◌else◌}
use Rattle.std.specs.List.{list_all, list_any}
use Rattle.std.specs.Option.{option_map_or}
use Rattle.hostgroups.specs.Servers.{is_known}
use Rattle.mx_wire.specs.Log.{Log}
use Rattle.mx_wire.specs.declared.entry.Entry.{Entry}
use Rattle.mx_wire.specs.declared.entry.Entry.TheVariants.{Opened, Got, Wrote, WriteNothing, WriteFailed, Closed, Exec, Drop}
use Rattle.private_model.specs.Commands.{Reply, class_of, is_err}
use Rattle.private_model.specs.Names.{LinkId, SessionName}
use Rattle.private_model.specs.Story.{BecameDue, Heard, Own, Prep, Sent, Statement, Story, is_client, is_hostgroup, is_link_id, is_name}
use Rattle.private_model.specs.View.{Answered, Carried, Joined, Setup, Stage, present, session_in, view_after}
use Rattle.reply_track.specs.Runs.{Ending, Failed}
use Rattle.log_story.specs.Owed.{name_of}
use Rattle.log_story.specs.Plan.{LastWord, OwnAnswer}
use Rattle.log_story.specs.Servers.{kind_by, read_as}
use Rattle.log_story.specs.Tale.{Client, Wire, is_reset_step, is_to_server}
use Rattle.private_model.specs.Story as story
use Rattle.reply_track.specs.declared.reply.ReplyKind.TheVariants as kind
use Rattle.router_promises.specs.Heard.{is_amiss}
use Rattle.router_promises.specs.Errors.{out_of_memory}
use Rattle.router_promises.specs.Keys.{LinkKey, has_room_in, is_key, is_nobodys, is_of_key, is_vacant, is_waiting, key_for, key_of, waiting}
use Rattle.router_promises.specs.Now.{Now, link_now, now_at, view_now, was_lost, wire_now}
use Rattle.router_promises.specs.Running.{is_failed, is_off, is_soft, opening_on, status_in}
use Rattle.router_promises.specs.Terms.{Terms, plan_in, setup_in}
use Rattle.router_promises.specs.Uses.{error_code}
use Rattle.router_promises.specs.Router.{Router}

-- Bytes with which no grammar goes on, or that nobody asked for.

abbrev pub is_bad : Ending → Bool
is_bad (Failed rest) = true
is_bad _ = false

abbrev pub has_bytes : List ℕ → Bool
has_bytes [] = false
has_bytes (byte ∷ bytes) = true

abbrev pub is_bad_at : Wire → Stage → Bool
is_bad_at wire (Answered question) = is_bad (read_as (kind_by (story.command_of question)) wire)
is_bad_at wire _ = has_bytes wire.unread

abbrev pub has_bad_bytes : Setup → Now → LinkId → Bool
has_bad_bytes setup now link =
    let wire = wire_now now link in
    wire.entered && (if is_reset_step wire.step then is_bad (read_as kind.Command wire) else is_bad_at wire (link_now setup now link).stage)

-- the last whole reply there wasn't as it should

abbrev pub was_amiss_by : Stage → Reply → Bool
was_amiss_by (Answered question) reply = is_amiss question reply
was_amiss_by _ reply = true

-- an ERR to a step of nobody's, or to a preparation
abbrev pub refuses_step : Stage → Reply → Bool
refuses_step (Answered (Own command)) reply = is_err reply
refuses_step (Answered (Prep n key text)) reply = is_err reply
refuses_step _ reply = false

abbrev pub last_answer : (Stage → Reply → Bool) → Setup → LinkId → Story → Bool
last_answer test setup link [] = false
last_answer test setup link (Heard other reply ∷ past) =
    if is_link_id link other then test ((view_after setup past).links link).stage reply else last_answer test setup link past
last_answer test setup link (e ∷ past) = last_answer test setup link past

abbrev pub was_amiss : Setup → LinkId → Story → Bool
was_amiss setup link story = last_answer was_amiss_by setup link story

abbrev pub was_refused : Setup → LinkId → Story → Bool
was_refused setup link story = last_answer refuses_step setup link story

-- A link is spoilt: it was lost, its login failed, bytes on it were bad, or its server is off or gone.
abbrev pub is_spoilt : Terms → Log → Now → LinkId → Bool
is_spoilt terms log now link =
    was_lost log link
    || ((not (wire_now now link).entered && is_failed (opening_on terms now.tale link))
    || (has_bad_bytes (setup_in terms) now link
    || (status_in is_off now.servers (wire_now now link).server || not (is_known now.servers (wire_now now link).server))))

-- a question may begin there
abbrev pub is_usable : Terms → Log → Now → LinkId → Bool
is_usable terms log now link = not (is_spoilt terms log now link) && not (was_amiss (setup_in terms) link now.tale.story)

-- a session of a client goes on there
abbrev pub is_joined : Carried → Bool
is_joined (Joined n) = true
is_joined _ = false

-- it is nobody's
abbrev pub is_unlent : Setup → Now → LinkId → Bool
is_unlent setup now link = (wire_now now link).entered && is_nobodys (link_now setup now link).carries

-- a statement of another key of its hostgroup waits

abbrev pub waits_elsewhere : Terms → Now → LinkKey → Story → Bool
waits_elsewhere terms now key [] = false
waits_elsewhere terms now key (BecameDue client hostgroup ordinal at command multiplex ∷ past) =
    (is_waiting terms now client hostgroup ordinal
    && (is_hostgroup hostgroup key.hostgroup && not (is_key (key_for (setup_in terms) now client hostgroup) key)))
    || waits_elsewhere terms now key past
waits_elsewhere terms now key (e ∷ past) = waits_elsewhere terms now key past

abbrev pub is_in_the_way : Terms → Now → Option LinkKey → Bool
is_in_the_way terms now None = false
is_in_the_way terms now (Some key) = waits_elsewhere terms now key now.tale.story

-- no server of the hostgroup that is ONLINE may have one connection more
abbrev pub is_full : Router → Log → Now → Option LinkKey → Bool
is_full router log now None = false
is_full router log now (Some key) = not (has_room_in router log now key.hostgroup)

-- it carries a session that was left, and in which a statement ran of which no reset takes back what it does

abbrev pub is_past_reset_by : Setup → Now → LinkId → Carried → Bool
is_past_reset_by setup now link (Joined n) =
    not (is_name n (present (view_now setup now) n.client n.hostgroup)) && (view_now setup now).lasting n
is_past_reset_by setup now link _ = false

abbrev pub is_past_reset : Setup → Now → LinkId → Bool
is_past_reset setup now link = is_past_reset_by setup now link (link_now setup now link).carries

-- Memory was refused as the link was opened, or in the last read on it: by that a client was told so; or the link is nobody's, and
-- was so before, and as many others are.

abbrev pub is_event_on : LinkId → Entry → Bool
is_event_on link (Opened server address other) = is_link_id link other
is_event_on link (Got other bytes) = is_link_id link other
is_event_on link _ = false

-- the place, from 1 on, of the last such entry
abbrev pub event_from : (n : ℕ) → (last : ℕ) → LinkId → Log → ℕ
event_from n last link [] = last
event_from n last link (e ∷ log) = event_from (suc n) (if is_event_on link e then n else last) link log

abbrev pub last_event : LinkId → Log → ℕ
last_event link log = event_from 1 0 link log

abbrev pub is_starving : List (List ℕ) → Bool
is_starving [] = false
is_starving (payload ∷ payloads) = bytes_eq payload out_of_memory

abbrev pub was_starved : Terms → (entry : ℕ) → Client → Bool
was_starved terms entry client =
    option_map_or (λ (answer : OwnAnswer). nat_eq answer.from entry && nat_eq (error_code answer.payloads) 9199)
    ((plan_in terms).own (name_of client client.taken)) false
    || option_map_or (λ (word : LastWord). nat_eq word.from entry && is_starving word.payloads) ((plan_in terms).words client.number) false

-- it is nobody's, or carries a session of the client that was told so
abbrev pub is_its : Setup → Now → LinkId → Client → Bool
is_its setup now link client =
    option_map_or (λ n. is_client n.client client.number) (session_in (link_now setup now link).carries) true

abbrev pub is_starved_by : Terms → Log → Now → LinkId → Client → Bool
is_starved_by terms log now link client = was_starved terms (last_event link log) client && is_its (setup_in terms) now link client

-- nothing happened since, but writes on the link and what servers did
abbrev pub is_quiet_since : LinkId → Entry → Bool
is_quiet_since link (Wrote other tag bytes) = is_link_id link other
is_quiet_since link (WriteNothing other) = is_link_id link other
is_quiet_since link (WriteFailed other) = is_link_id link other
is_quiet_since link (Exec other) = true
is_quiet_since link (Drop other) = true
is_quiet_since link _ = false

abbrev pub is_just_heard : LinkId → Log → Bool
is_just_heard link log = nat_lt 0 (last_event link log) && list_all (is_quiet_since link) (drop (last_event link log) log)

-- And it carried nobody before that: so a link isn't closed behind the reply that it was lent for.
abbrev pub was_nobodys : Terms → Log → LinkId → Bool
was_nobodys terms log link = is_nobodys (link_now (setup_in terms) (now_at terms (take (last_event link log - 1) log)) link).carries

abbrev pub is_spare : Terms → Log → LinkId → Bool
is_spare terms log link = is_just_heard link log && was_nobodys terms log link

-- the other links of the key that are nobody's
abbrev pub others_vacant : Terms → Log → Now → LinkId → LinkKey → ℕ
others_vacant terms log now link key =
    count_by (λ other. not (is_link_id link other) && (is_of_key terms now key other && is_vacant terms log now other)) now.tale.links

abbrev pub IsNeedless : Terms → Log → Now → LinkId → Option LinkKey → Type 0
IsNeedless terms log now link None = Unit {0}
IsNeedless terms log now link (Some key) = waiting terms now key ≤ others_vacant terms log now link key

-- why one is told QUIT
pub data MayQuit (terms : Terms) (log : Log) (now : Now) (link : LinkId) : Type 0 where
  Spoilt : is_spoilt terms log now link ≡ true → MayQuit terms log now link
  Amiss : was_amiss (setup_in terms) link now.tale.story ≡ true → MayQuit terms log now link
  Refused : was_refused (setup_in terms) link now.tale.story ≡ true
      → is_joined (link_now (setup_in terms) now link).carries ≡ false → MayQuit terms log now link
  PastReset : is_past_reset (setup_in terms) now link ≡ true → MayQuit terms log now link
  Leaving : is_unlent (setup_in terms) now link ≡ true
      → status_in is_soft now.servers (wire_now now link).server ≡ true → MayQuit terms log now link
  Idle : is_unlent (setup_in terms) now link ≡ true
      → (now.uses link).used + terms.router.proxy.idle_ms ≤ now.clock → MayQuit terms log now link
  MakesRoom : is_unlent (setup_in terms) now link ≡ true → is_in_the_way terms now (key_of terms now link) ≡ true
      → is_full terms.router log now (key_of terms now link) ≡ true → MayQuit terms log now link
  Starved : list_any (is_starved_by terms log now link) now.tale.clients ≡ true → MayQuit terms log now link
  Needless : is_spare terms log link ≡ true → is_nobodys (link_now (setup_in terms) now link).carries ≡ true
      → IsNeedless terms log now link (key_of terms now link) → MayQuit terms log now link

-- it was told QUIT, or is closed for a cause of its own
pub data MayDrop (terms : Terms) (log : Log) (now : Now) (link : LinkId) : Type 0 where
  WasTold : (wire_now now link).quits ≡ true → MayDrop terms log now link
  HasCause : MayQuit terms log now link → MayDrop terms log now link

abbrev pub ClosesBy : Terms → Log → Now → Entry → Type 0
ClosesBy terms log now (Closed link) = is_to_server now.tale link ≡ true → MayDrop terms log now link
ClosesBy terms log now _ = Unit {0}

abbrev pub ClosesSo : Terms → Log → Entry → Type 0
ClosesSo terms log e = ClosesBy terms log (now_at terms log) e
