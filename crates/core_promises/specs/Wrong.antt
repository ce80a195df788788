-- Words for routers that are wrong: what no log has that keeps clients apart.
use Rattle.std.specs.Prelude.{◌≡◌, ℕ, suc, ◌<◌, Bool, true, false, ◌||◌, nat_eq, List, ◌∷◌, ◌++◌, length, [], slice_get, slice_index_or, unwrap_or, Option, Some, None}
use Rattle.mx_base.specs.declared.names.Port.TheVariants.{Traffic}
use Rattle.mx_wire.specs.Log.{Log, is_open}
use Rattle.mx_wire.specs.declared.entry.Entry.{Entry}
use Rattle.packet_frame.specs.Packets.{Framed}
use Rattle.pin_classifier.specs.Classes.{class_of}
use Rattle.query_rules.specs.Effects.{is_first_flag}
use Rattle.query_rules.specs.declared.ask.Routed.{Routed}
use Rattle.query_rules.specs.declared.rule.Rule.{Rule}
use Rattle.private_model.specs.Names.{Hostgroup, MessageName, SessionName}
use Rattle.private_model.specs.Story.{Happening, Story}
use Rattle.log_story.specs.Owed.{messages, name_of}
use Rattle.log_story.specs.Plan.{OwnAnswer, Route, com_execute, com_field_list, com_init_db, com_prepare, com_query, own_at}
use Rattle.log_story.specs.Tale.{Client}
use Rattle.router_promises.specs.Dues.{is_unsent}
use Rattle.router_promises.specs.Ends.{was_answered}
use Rattle.router_promises.specs.Now.{now_at, present_now}
use Rattle.router_promises.specs.Terms.{Terms, plan_in, setup_in, tale_at}
use Rattle.router_promises.specs.Wakes.{has_ended}
use Rattle.router_promises.specs.Wrong.{IsWait}
use Rattle.router_promises.specs.Takings.{Taking}
use Rattle.message_judge.specs.declared.caller.Prepared.{Prepared}
use Rattle.core_promises.specs.Endings.{has_said_its_end}
use Rattle.core_promises.specs.Judges.{IsTransaction, Rulebook, Situation, WasTaken, book_for, rulebook_of, situation_of}
use Rattle.core_promises.specs.Sessions.{KeepsApart}

-- the entry is one of a log that keeps clients apart, behind these
pub record Has (terms : Terms) (before : Log) (e : Entry) : Type 0 where
  pub more : Log
  pub keeps : KeepsApart terms (before ++ e ∷ more)

-- it is one of its story, behind these
pub record Tells (terms : Terms) (past : Story) (e : Happening) : Type 0 where
  pub log : Log
  pub keeps : KeepsApart terms log
  pub later : Story
  pub story : (tale_at terms log).story ≡ later ++ e ∷ past

-- the loop waits there
pub record HasWait (terms : Terms) (before : Log) : Type 0 where
  pub e : Entry
  pub has : Has terms before e
  pub is : IsWait e

-- and this is a client that goes on, whose link is open
pub record GoesOn (terms : Terms) (before : Log) (client : Client) : Type 0 where
  pub place : ℕ
  pub within : place < length (now_at terms before).tale.clients
  pub is : slice_index_or (now_at terms before).tale.clients place client ≡ client
  pub stays : has_ended terms (now_at terms before) client ≡ false
  pub opened : is_open client.link before ≡ true

-- the session of a client to which a route leads
abbrev pub session_for : Terms → Log → Client → Route → SessionName
session_for terms before client route = present_now (setup_in terms) (now_at terms before) client.number route.hostgroup

-- the loop waits, and the client's last message that was taken up is a statement that isn't answered and doesn't wait for a link
pub record Expects (terms : Terms) (before : Log) (client : Client) (route : Route) : Type 0 where
  pub wait : HasWait terms before
  pub goes : GoesOn terms before client
  pub unanswered : was_answered terms (now_at terms before) client ≡ false
  pub goes_to : (plan_in terms).routes (name_of client client.taken) ≡ Some route
  pub sent : is_unsent terms (now_at terms before).tale (session_for terms before client route) ≡ false

-- A statement of this client was given up at an entry behind these, and answered by this payload.
pub record IsGivenUp (terms : Terms) (before : Log) (e : Entry) (client : Client) (payload : List ℕ) : Type 0 where
  pub more : Log
  pub keeps : KeepsApart terms (before ++ e ∷ more)
  pub place : ℕ
  pub within : place < length (tale_at terms (before ++ e ∷ more)).clients
  pub is : slice_index_or (tale_at terms (before ++ e ∷ more)).clients place client ≡ client
  pub count : ℕ
  pub taken : count < client.taken
  pub own : (plan_in terms).own (name_of client (suc count)) ≡ Some (record { from = suc (length before); payloads = payload ∷ [] })

-- A client ended at an entry behind these, which had said nothing that ends it, and has no last word.
pub record IsEnded (terms : Terms) (before : Log) (e : Entry) (client : Client) : Type 0 where
  pub more : Log
  pub keeps : KeepsApart terms (before ++ e ∷ more)
  pub place : ℕ
  pub within : place < length (tale_at terms (before ++ e ∷ more)).clients
  pub is : slice_index_or (tale_at terms (before ++ e ∷ more)).clients place client ≡ client
  pub ends : (plan_in terms).ends client.number ≡ Some (suc (length before))
  pub silent : has_said_its_end (plan_in terms) (tale_at terms (before ++ e ∷ [])) client.number ≡ false
  pub wordless : (plan_in terms).words client.number ≡ None

-- A message of this client goes to a server, and is answered by the router as it is taken up.
pub record AnswersAtOnce (terms : Terms) (log : Log) (client : Client) : Type 0 where
  pub keeps : KeepsApart terms log
  pub place : ℕ
  pub within : place < length (tale_at terms log).clients
  pub is : slice_index_or (tale_at terms log).clients place client ≡ client
  pub count : ℕ
  pub taken : count < client.taken
  pub route : Route
  pub goes : (plan_in terms).routes (name_of client (suc count)) ≡ Some route
  pub answer : OwnAnswer
  pub own : (plan_in terms).own (name_of client (suc count)) ≡ Some answer
  pub once : answer.from ≡ 0

-- a message with this payload was taken up of a client
pub record TakesUp (terms : Terms) (payload : List ℕ) : Type 0 where
  pub log : Log
  pub keeps : KeepsApart terms log
  pub client : Client
  pub place : ℕ
  pub within : place < length (tale_at terms log).clients
  pub is : slice_index_or (tale_at terms log).clients place client ≡ client
  pub count : ℕ
  pub taken : count < client.taken
  pub message : Framed
  pub there : slice_get (messages (plan_in terms) client) count ≡ Some message
  pub has : message.payload ≡ payload

abbrev pub taken_up : {terms : Terms} {payload : List ℕ} → TakesUp terms payload → MessageName
taken_up up = name_of up.client (suc up.count)

-- the user with whom its client logged in
abbrev pub user_of : {terms : Terms} {payload : List ℕ} → TakesUp terms payload → List ℕ
user_of {terms} up = ((setup_in terms).accounts up.client.number).user

-- by which it was judged
abbrev pub book_up : {terms : Terms} {payload : List ℕ} → TakesUp terms payload → Rulebook
book_up {terms} up = book_for (rulebook_of terms.router) up.keeps.rules (taken_up up)

-- this is so of its client as it was taken up
abbrev pub AsTaken : {terms : Terms} {payload : List ℕ} → TakesUp terms payload → (Situation → Type 0) → Type 0
AsTaken {terms} up fact =
    (taking : Taking) → WasTaken (setup_in terms) (plan_in terms) up.log (taken_up up) taking
    → fact (situation_of (setup_in terms) (plan_in terms) taking)

-- and it goes to a server by this route
pub record SendsBy (terms : Terms) (payload : List ℕ) (route : Route) : Type 0 where
  pub up : TakesUp terms payload
  pub goes : (plan_in terms).routes (taken_up up) ≡ Some route

-- as this text
pub record AsksFor (terms : Terms) (payload text : List ℕ) : Type 0 where
  pub route : Route
  pub sends : SendsBy terms payload route
  pub as_text : route.text ≡ Some text

-- or it goes to none, and was answered by these; its client came at the port of clients
pub record AnswersBy (terms : Terms) (payload : List ℕ) (payloads : List (List ℕ)) : Type 0 where
  pub up : TakesUp terms payload
  pub port : AsTaken up (λ situation. situation.port ≡ Traffic)
  pub nowhere : (plan_in terms).routes (taken_up up) ≡ None
  pub answers : own_at (plan_in terms) (length up.log) (taken_up up) ≡ Some payloads

-- a query or a text to be prepared; the choice of a schema, the question for a table's columns, or an execute
abbrev pub is_for_servers : (byte : ℕ) → Bool
is_for_servers byte =
    (nat_eq byte com_query || nat_eq byte com_prepare)
    || (nat_eq byte com_init_db || (nat_eq byte com_field_list || nat_eq byte com_execute))

-- rules leave a text in this hostgroup, and it reads neither an insert id nor diagnostics
pub record StaysIn (home : Hostgroup) (routed : Routed) : Type 0 where
  pub hostgroup : routed.hostgroup ≡ home
  pub reads : ((class_of routed.text).reads_id || (class_of routed.text).reads_diag) ≡ false

-- the rule answers all that this user asks at flag 0 by an error, whatever its schema
pub record RefusesUser (user why : List ℕ) (rule : Rule) : Type 0 where
  pub active : rule.row.active ≡ true
  pub flag : rule.row.flagIN ≡ 0
  pub username : rule.row.username ≡ Some user
  pub schemaname : rule.row.schemaname ≡ None
  pub digest : rule.row.digest ≡ None
  pub match_digest : rule.match_digest ≡ None
  pub match_pattern : rule.match_pattern ≡ None
  pub error_msg : rule.row.error_msg ≡ Some why

-- no other flag is set for what comes next
abbrev pub SetsNoFlag : List Rule → Type 0
SetsNoFlag rules = (flag : ℕ) → is_first_flag rules flag ≡ true → flag ≡ 0

-- an execute of this statement goes where that was prepared, but for an open transaction, and with its word on sharing the link; of none it goes nowhere
abbrev pub IsOfStatement : (transaction : Option Hostgroup) → Route → Option Prepared → Type 0
IsOfStatement transaction route None = ⊥
IsOfStatement transaction route (Some one) = (route.hostgroup ≡ unwrap_or transaction one.hostgroup) × (route.multiplex ≡ one.multiplex)

-- by the transaction that its client has open
pub record RunsStatement (book : Rulebook) (situation : Situation) (route : Route) (statement : Option Prepared) : Type 0 where
  pub transaction : Option Hostgroup
  pub in_transaction : IsTransaction book situation transaction
  pub of : IsOfStatement transaction route statement
