-- What the router answers to a statement that is due or on its way, and why.
use Rattle.std.specs.Prelude.{◌≡◌, ℕ, ◌+◌, ◌≤◌, Bool, true, false, not, ◌&&◌, is_some, nat_eq, nat_le, List, [], ◌∷◌, filter, length, Option, Some}
use Rattle.std.specs.List.{list_any}
use Rattle.std.specs.Option.{option_and_then, option_map}
use Rattle.client_session.specs.Errors.{bad_server_bytes, connection_lost, connection_refused}
use Rattle.mx_wire.specs.Log.{Log, link_of}
use Rattle.mx_wire.specs.declared.entry.Entry.{Entry}
use Rattle.mx_wire.specs.declared.entry.Entry.TheVariants.{Woke, OpenFailed}
use Rattle.private_model.specs.Commands.{end_of, is_err}
use Rattle.private_model.specs.Names.{LinkId, MessageName, SessionName}
use Rattle.private_model.specs.Story.{Own, Prep, Question, Sync, is_client}
use Rattle.private_model.specs.View.{Carried, Nobody}
use Rattle.session_state.specs.Pins.{is_pinned}
use Rattle.log_story.specs.Plan.{OwnAnswer, Route, own_at}
use Rattle.log_story.specs.Tale.{Client}
use Rattle.router_promises.specs.Errors.{no_connection, out_of_memory, replay_refused, server_offline}
use Rattle.router_promises.specs.Heard.{Answer, Bad, Whole, is_amiss, is_step, reading_of}
use Rattle.router_promises.specs.Keys.{LinkKey, how_many, is_idle, is_stepping, key_of, oldest, waiters}
use Rattle.router_promises.specs.Now.{Now, entry_now, held_now, is_gone, link_now, next, now_at, present_now, view_now, wire_now}
use Rattle.router_promises.specs.Running.{breaks_off, hostgroup_of, is_off, status_in}
use Rattle.router_promises.specs.Dues.{is_unsent}
use Rattle.router_promises.specs.Steps.{wants_there}
use Rattle.router_promises.specs.Terms.{Terms, login_as, plan_in, setup_in}

-- The session that a message goes to, and the link that carries it: that of its For or Prep, where nothing else holds it.

abbrev pub session_of : Terms → Now → MessageName → Route → SessionName
session_of terms now m route = present_now (setup_in terms) now m.client route.hostgroup

-- the link is the very one that carries it, and its session has no Pin
pub record IsOnLink (terms : Terms) (now : Now) (m : MessageName) (route : Route) (link : LinkId) : Type 0 where
  pub home : (held_now (setup_in terms) now (session_of terms now m route)).home ≡ Some link
  pub unpinned : is_pinned (held_now (setup_in terms) now (session_of terms now m route)).pin ≡ false

-- the key for a link of which an open failed, or a login broke off

abbrev pub key_tried : Terms → Now → Entry → Option LinkKey
key_tried terms now (OpenFailed server address) =
    let tried = terms.decided.tried (entry_now now) in
    option_map (λ hostgroup. record {
      hostgroup = hostgroup;
      account = login_as tried.login;
      bare = tried.bare;
    }) (hostgroup_of terms.router server)
key_tried terms now e = option_and_then (key_of terms now) (breaks_off terms now.tale e)

-- a step was on its way to this statement
abbrev pub IsStepFor : Terms → Now → MessageName → Route → LinkId → Question → Carried → Type 0
IsStepFor terms now m route link (Own command) Nobody =
    wants_there terms now link (session_of terms now m route) command ≡ true
IsStepFor terms now m route link (Own command) carried = (held_now (setup_in terms) now (session_of terms now m route)).home ≡ Some link
IsStepFor terms now m route link (Prep n key text) carried = n ≡ session_of terms now m route
IsStepFor terms now m route link (Sync n command) carried = n ≡ session_of terms now m route
IsStepFor terms now m route link question carried = ⊥

-- Why a statement is given up at an entry, and what is answered: its link was lost, or closed; it waited too long; while it was the oldest to
-- wait, a link for it couldn't be had; a step to it was refused; its server was taken offline; bad bytes were read in place of its
-- reply, or of the answer to a step to it; there is no memory, and its client ends.
pub data Cause (terms : Terms) (now later : Now) (e : Entry) (m : MessageName) (route : Route) : (payload : List ℕ) → Type 0 where
  LinkLost : (link : LinkId) → is_gone e ≡ true → link_of e ≡ Some link → IsOnLink terms now m route link
      → Cause terms now later e m route connection_lost
  WaitedTooLong : (until_ms now_ms : ℕ) → e ≡ Woke until_ms now_ms → is_unsent terms now.tale (session_of terms now m route) ≡ true
      → now.since m + terms.router.proxy.wait_ms ≤ now_ms → Cause terms now later e m route (no_connection (now.since m) now_ms)
  NoLink : (key : LinkKey) → key_tried terms now e ≡ Some key → oldest terms now key ≡ Some m
      → Cause terms now later e m route connection_refused
  StepRefused : (link : LinkId) (answer : Answer) → link_of e ≡ Some link
      → reading_of (setup_in terms) now e ≡ Whole answer → is_err answer.reply ≡ true
      → IsStepFor terms now m route link answer.question (link_now (setup_in terms) now link).carries
      → Cause terms now later e m route (replay_refused (end_of answer.reply).code)
  TakenOffline : (link : LinkId) → status_in is_off later.servers (wire_now now link).server ≡ true → IsOnLink terms now m route link
      → Cause terms now later e m route server_offline
  BadBytes : (link : LinkId) (place : ℕ) → link_of e ≡ Some link
      → reading_of (setup_in terms) now e ≡ Bad place → IsOnLink terms now m route link
      → Cause terms now later e m route (bad_server_bytes place)
  NoResult : (link : LinkId) (answer : Answer) → link_of e ≡ Some link → reading_of (setup_in terms) now e ≡ Whole answer
      → is_step answer.question ≡ true → is_amiss answer.question answer.reply ≡ true → IsOnLink terms now m route link
      → Cause terms now later e m route (bad_server_bytes 0)
  NoMemory : (plan_in terms).ends m.client ≡ Some (entry_now now) → Cause terms now later e m route out_of_memory

-- a client's message was taken up, and neither a reply to it was read nor was it given up
abbrev pub is_in_work : Terms → Now → MessageName → Bool
is_in_work terms now m =
    list_any (λ (client : Client). is_client client.number m.client && nat_eq client.taken m.ordinal) now.tale.clients
    && (not (is_some ((view_now (setup_in terms) now).replies m)) && not (is_some (own_at (plan_in terms) now.tale.moment m)))

pub record GivesUp (terms : Terms) (now later : Now) (e : Entry) (m : MessageName) (payloads : List (List ℕ)) : Type 0 where
  pub route : Route
  pub goes : (plan_in terms).routes m ≡ Some route
  pub in_work : is_in_work terms now m ≡ true
  pub payload : List ℕ
  pub one : payloads ≡ payload ∷ []
  pub why : Cause terms now later e m route payload

-- At a wake, of the statements that waited too long no more are left without an answer than there are links that are
-- idle, or on their way to be lent.

abbrev pub has_waited : Terms → Now → (now_ms : ℕ) → MessageName → Bool
has_waited terms now now_ms m = nat_le (now.since m + terms.router.proxy.wait_ms) now_ms

abbrev pub left_waiting : Terms → Now → (now_ms : ℕ) → LinkKey → List MessageName
left_waiting terms later now_ms key = filter (has_waited terms later now_ms) (waiters terms later key)

abbrev pub LeavesFew : Terms → Log → (later : Now) → Entry → Type 0
LeavesFew terms log later (Woke until_ms now_ms) =
    (key : LinkKey) → length (left_waiting terms later now_ms key)
    ≤ how_many is_idle terms log later key + how_many is_stepping terms log later key
LeavesFew terms log later _ = Unit {0}

-- Each statement that is given up at an entry has its cause, and a step that was refused gives up one.
pub record GivesUpBy (terms : Terms) (log : Log) (now : Now) (e : Entry) : Type 0 where
  pub each : (m : MessageName) (answer : OwnAnswer) → (plan_in terms).own m ≡ Some answer → answer.from ≡ entry_now now
      → GivesUp terms now (next terms now e) e m answer.payloads
  pub single : (code : ℕ) (m other : MessageName)
      → (plan_in terms).own m ≡ Some (record { from = entry_now now; payloads = replay_refused code ∷ [] })
      → (plan_in terms).own other ≡ Some (record { from = entry_now now; payloads = replay_refused code ∷ [] }) → m ≡ other
  pub few : LeavesFew terms log (next terms now e) e

abbrev pub GivesUpSo : Terms → Log → Entry → Type 0
GivesUpSo terms log e = GivesUpBy terms log (now_at terms log) e
