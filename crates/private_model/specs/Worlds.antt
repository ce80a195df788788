-- The real world and the private one, both told by one story.
use Rattle.std.specs.Option.{option_and_then, option_map_or}
use Rattle.std.specs.Prelude.{nat_eq, ℕ, Bool, ◌&&◌, not, true, false, if◌then◌else◌, List, [], ◌∷◌, Option, Some, None}
use Rattle.private_model.specs.Names.{LinkId, ServerId, MessageName, SessionName}
use Rattle.private_model.specs.Commands.{Account, Command, Outcome, Prepare, Quit, Reply, Reset, Run, Step, fresh_of, is_made, number_in, is_prepare}
use Rattle.private_model.specs.Story.{Dropped, Due, End, Happening, Key, LoggedIn, Prep, Question, Ran, Statement, Story, Sync, Unprepared, command_of, for_statement, is_link_id, is_message, is_name, is_server, message_of, put}
use Rattle.private_model.specs.View.{Asked, Carried, Held, Setup, Stage, View, is_quit, session_in, text_of, view_after}
use Rattle.server_rule.specs.Servers.{no_capabilities, with_id}
use Rattle.server_rule.specs.declared.session.Session.{Session}
use Rattle.session_state.specs.Pins.{is_pinned}
use Rattle.session_state.specs.declared.place.Place.{Place}

-- The real world: a session on each link, and the last answer there, until its server drops it.

pub record Peer : Type 0 where
  pub session : Session
  pub answer : Reply
  pub table : (number : ℕ) → Option Key  -- what was prepared, and where the session then was
  pub alive : Bool  -- the server hasn't dropped it

pub record Real : Type 0 where
  pub stored : (server : ServerId) → List ℕ
  pub peers : (link : LinkId) → Peer

abbrev pub new_peer : (account : Account) → Peer
new_peer account =
    record { session = fresh_of account []; answer = record { to_prepare = false; payloads = [] }; table = λ number. None; alive = true }

-- A Run is decoded with the text and the place of its preparation.
abbrev pub decoded : Option Key → Command → Command
decoded (Some entry) (Run text schema settings args) = Run entry.text entry.place.schema entry.place.settings args
decoded _ command = command

abbrev pub tabled : (makes ok : Bool) → (at : ℕ) → (text : List ℕ) → Session → (ℕ → Option Key) → ℕ → Option Key
tabled makes ok at text s table =
    if makes && ok then put nat_eq table at (Some (record { text = text; place = record { schema = s.schema; settings = s.settings } })) else table

-- what is prepared after a question, each under its key or under what stands for it
abbrev pub table_by : (by : ℕ → ℕ) → Question → Outcome → (ℕ → Option Key) → ℕ → Option Key
table_by by (Statement n due) outcome table =
    tabled (is_prepare due.command) (is_made outcome.reply) (by due.key) (text_of due.command) outcome.session table
table_by by (Prep n key text) outcome table = tabled true (is_made outcome.reply) (by key) text outcome.session table
table_by by (End n) outcome table = λ at. None
table_by by _ outcome table = table

-- a server tells what it prepared apart by numbers, a session of a client's own by keys

abbrev pub there_table : Question → Outcome → (ℕ → Option Key) → ℕ → Option Key
there_table question outcome table = table_by (λ key. number_in outcome.reply) question outcome table

abbrev pub table_after : Question → Outcome → (ℕ → Option Key) → ℕ → Option Key
table_after question outcome table = table_by (λ key. key) question outcome table

-- the link's number of a key says which entry a Run is of
abbrev pub there_command : Question → (live : ℕ → Option ℕ) → (table : ℕ → Option Key) → Command
there_command question live table =
    for_statement question (λ n due. decoded (option_and_then table (live due.key)) due.command) (command_of question)

-- what a link's session makes of a command
abbrev pub at_link : Step → Real → (link : LinkId) (server : ServerId) → Command → Outcome
at_link step real link server command = step (real.stored server) (real.peers link).session command

abbrev pub real_run : Step → Real → (link : LinkId) → (live : ℕ → Option ℕ) → (alive : Bool) → Stage → (server : ServerId) → Real
real_run step real link live true (Asked question) server =
    let outcome = at_link step real link server (there_command question live (real.peers link).table) in
    record { stored = put is_server real.stored server outcome.stored; peers = put is_link_id real.peers link (record { session = outcome.session; answer = outcome.reply; table = there_table question outcome (real.peers link).table; alive = not (is_quit (command_of question)) }) }
real_run step real link live _ _ server = real

-- the server ends the link by itself
abbrev pub real_drop : Step → Real → (link : LinkId) → (alive : Bool) → (server : ServerId) → Real
real_drop step real link true server =
    let outcome = at_link step real link server Quit in
    record { stored = put is_server real.stored server outcome.stored; peers = put is_link_id real.peers link (record (real.peers link) { session = outcome.session; alive = false }) }
real_drop step real link false server = real

abbrev pub real_step : Step → View → Real → Happening → Real
real_step step view real (LoggedIn link server account) = record real { peers = put is_link_id real.peers link (new_peer account) }
real_step step view real (Ran link) = real_run step real link (view.links link).live (real.peers link).alive (view.links link).stage (view.links link).server
real_step step view real (Unprepared link number) = record real { peers = put is_link_id real.peers link (record (real.peers link) { table = put nat_eq (real.peers link).table number None }) }
real_step step view real (Dropped link) = real_drop step real link (real.peers link).alive (view.links link).server
real_step step view real _ = real

-- The private world: a session for each name, which nobody else uses, and what it answered to each statement.

pub record Private : Type 0 where
  pub stored : (server : ServerId) → List ℕ
  pub sessions : SessionName → Session
  pub tables : SessionName → (key : ℕ) → Option Key
  pub answers : MessageName → Option Reply

abbrev pub placed : Place → Session → Session
placed place session = record session { schema = place.schema; settings = place.settings }

-- the session in which a statement runs: one that was unpinned takes what its client wants
abbrev pub readied : Due → Session → Session
readied due session = if due.anew then placed due.place session else session

abbrev pub in_session : Step → Private → (server : ServerId) → SessionName → Session → Command → Private
in_session step private server n session command =
    let outcome = step (private.stored server) session command in
    record private { stored = put is_server private.stored server outcome.stored; sessions = put is_name private.sessions n outcome.session }

-- with what it has then prepared
abbrev pub in_table : Step → Private → (server : ServerId) → SessionName → Session → Command → Question → Private
in_table step private server n session command question =
    record (in_session step private server n session command) { tables = put is_name private.tables n (table_after question (step (private.stored server) session command) (private.tables n)) }

abbrev pub private_statement : Step → Private → (server : ServerId) → SessionName → Due → Private
private_statement step private server n due =
    let session = readied due (private.sessions n) in
    let command = decoded (private.tables n due.key) due.command in
    record (in_table step private server n session command (Statement n due)) { answers = put is_message private.answers (message_of n due) (Some (step (private.stored server) session command).reply) }

-- an unpinned session has no part in it
abbrev pub private_prep : Step → Private → (pinned : Bool) → (server : ServerId) → SessionName → (key : ℕ) → (text : List ℕ) → Private
private_prep step private pinned server n key text =
    if pinned then in_table step private server n (private.sessions n) (Prepare text) (Prep n key text) else private

abbrev pub private_run : Step → (SessionName → Held) → Private → (alive : Bool) → Stage → (server : ServerId) → Private
private_run step held private true (Asked (Statement n due)) server = private_statement step private server n due
private_run step held private true (Asked (Prep n key text)) server = private_prep step private (is_pinned (held n).pin) server n key text
private_run step held private true (Asked (Sync n command)) server = in_session step private server n (private.sessions n) command
private_run step held private true (Asked (End n)) server = in_table step private server n (private.sessions n) Reset (End n)
private_run step held private _ _ server = private

-- a session whose link is dropped closes, but for its insert id
abbrev pub closed : Step → Private → (server : ServerId) → SessionName → Private
closed step private server n =
    let outcome = step (private.stored server) (private.sessions n) Quit in
    record private { stored = put is_server private.stored server outcome.stored; sessions = put is_name private.sessions n (with_id (private.sessions n).last_id outcome.session) }

abbrev pub private_drop : Step → Private → (alive : Bool) → Carried → (server : ServerId) → Private
private_drop step private alive carried server =
    if alive then option_map_or (closed step private server) (session_in carried) private else private

abbrev pub private_step : Step → View → (alive : LinkId → Bool) → Private → Happening → Private
private_step step view alive private (Ran link) = private_run step view.held private (alive link) (view.links link).stage (view.links link).server
private_step step view alive private (Dropped link) = private_drop step private (alive link) (view.links link).carries (view.links link).server
private_step step view alive private _ = private

-- which links are not dropped
abbrev pub alive_in : Real → LinkId → Bool
alive_in real link = (real.peers link).alive

-- Both after a story.

abbrev pub real_after : Setup → Step → Story → Real
real_after setup step [] = record { stored = setup.stored; peers = λ link. record (new_peer (record { user = []; capabilities = no_capabilities })) { alive = false } }
real_after setup step (e ∷ past) = real_step step (view_after setup past) (real_after setup step past) e

abbrev pub first_private : Setup → Private
first_private setup = record { stored = setup.stored; sessions = λ n. fresh_of (setup.accounts n.client) []; tables = λ n key. None; answers = λ m. None }

abbrev pub private_after : Setup → Step → Story → Private
private_after setup step [] = first_private setup
private_after setup step (e ∷ past) = private_step step (view_after setup past) (alive_in (real_after setup step past)) (private_after setup step past) e
