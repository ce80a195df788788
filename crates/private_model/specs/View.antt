-- What the router knows: a fold of what happened. No server's rule is in this file, and whether a server dropped a link the router
-- doesn't know.
use Rattle.std.specs.Prelude.{ℕ, suc, Bool, true, false, not, ◌&&◌, ◌||◌, nat_eq, if◌then◌else◌, List, [], ◌∷◌, Option, Some, None}
use Rattle.std.specs.Option.{option_and_then, option_map_or}
use Rattle.session_vars.specs.Settings.{defaults}
use Rattle.private_model.specs.Names.{ClientNo, Hostgroup, LinkId, ServerId, MessageName, SessionName}
use Rattle.private_model.specs.Commands.{Account, Command, Prepare, Quit, Reply, Reset, class_of, id_after, is_err, is_made, is_marked, is_ok, is_prepare, number_in, pin_statement}
use Rattle.private_model.specs.Story.{BecameDue, Broke, Capture, Dropped, Due, End, Freed, Gone, Happening, Heard, Key, Left, LoggedIn, Mirrored, Prep, Question, Ran, Sent, Statement, Story, Sync, Unprepared, command_of, for_statement, is_client, is_link_id, is_message, is_name, message_of, put}
use Rattle.server_rule.specs.Classes.{Reads}
use Rattle.server_rule.specs.Servers.{no_capabilities}
use Rattle.session_state.specs.Classes.{Effect, Uses, effect_of, schema_by, settings_by}
use Rattle.session_state.specs.Pins.{is_pinned, no_pin}
use Rattle.session_state.specs.declared.pin.Pin.{Pin}
use Rattle.session_state.specs.declared.place.Place.{Place}
use Rattle.session_state.specs.declared.place.Told.{Told}

-- Whose session a link carries; once a command of it ran there, it is joined.
pub data Carried : Type 0 where
  Nobody : Carried
  Lent : SessionName → Carried
  Joined : SessionName → Carried

abbrev pub session_in : Carried → Option SessionName
session_in Nobody = None
session_in (Lent n) = Some n
session_in (Joined n) = Some n

pub data Stage : Type 0 where
  Quiet : Stage
  Asked : Question → Stage
  Answered : Question → Stage

pub record Link : Type 0 where
  pub server : ServerId
  pub account : Account
  pub usable : Bool  -- the router hasn't lost or closed it
  pub told : Told
  pub id : Option ℕ  -- its insert id, where it is known
  pub live : (key : ℕ) → Option ℕ  -- what is prepared there, by the number that the server gave
  pub carries : Carried
  pub marked : Bool  -- a statement that marks the insert id ran there since it carries this session
  pub stage : Stage

pub record Held : Type 0 where
  pub pin : Pin
  pub id : Option ℕ  -- unknown: a capture is due
  pub home : Option LinkId  -- the link that carries it

pub record View : Type 0 where
  pub lives : (client : ClientNo) (hostgroup : Hostgroup) → ℕ
  pub places : (client : ClientNo) → Place
  pub dues : SessionName → Option Due
  pub links : LinkId → Link
  pub held : SessionName → Held
  pub carriers : MessageName → Option LinkId  -- the link to which it was sent
  pub lasting : SessionName → Bool  -- a statement of it was sent that no reset takes back
  pub replies : MessageName → Option Reply  -- what was read there in answer

-- Logins, opening data and keys, which nothing changes.
pub record Setup : Type 0 where
  pub reads : Reads
  pub keys : ℕ → Key
  pub accounts : (client : ClientNo) → Account
  pub places : (client : ClientNo) → Place
  pub stored : (server : ServerId) → List ℕ

abbrev pub no_link : Link
no_link = record { server = record { 0 = 0 }; account = record { user = []; capabilities = no_capabilities }; usable = false; told = record { schema = None; settings = defaults }; id = None; live = λ key. None; carries = Nobody; marked = false; stage = Quiet }

abbrev pub new_link : (server : ServerId) (account : Account) → Link
new_link server account = record no_link { server = server; account = account; usable = true; told = record { schema = Some []; settings = defaults }; id = Some 0 }

abbrev pub first_held : Held
first_held = record { pin = no_pin; id = Some 0; home = None }

abbrev pub first_view : Setup → View
first_view setup = record { lives = λ client hostgroup. 0; places = setup.places; dues = λ n. None; links = λ link. no_link; held = λ n. first_held; carriers = λ m. None; lasting = λ n. false; replies = λ m. None }

-- A question goes out.

abbrev pub carried_for : Question → Carried → Carried
carried_for (Statement n due) Nobody = Lent n
carried_for (Prep n key text) Nobody = Lent n
carried_for _ carried = carried

abbrev pub asked : Question → Link → Link
asked question link = record link { stage = Asked question; carries = carried_for question link.carries }

abbrev pub held_for : Question → (link : LinkId) → (SessionName → Held) → SessionName → Held
held_for (Statement n due) link held = put is_name held n (record (held n) { home = Some link })
held_for (Prep n key text) link held = put is_name held n (record (held n) { home = Some link })
held_for _ link held = held

-- The server runs it.

abbrev pub is_quit : Command → Bool
is_quit Quit = true
is_quit _ = false

abbrev pub ran_by : Reads → Stage → Link → Link
ran_by reads (Asked question) link = record link {
  stage = Answered question;
  carries = for_statement question (λ n due. Joined n) link.carries;
  marked = for_statement question (λ n due. is_marked reads due.command) false || link.marked;
}
ran_by reads _ link = link

-- Its reply is read.

abbrev pub is_reset : Command → Bool
is_reset Reset = true
is_reset _ = false

abbrev pub told_schema : Effect → (ok : Bool) → Option (List ℕ) → Option (List ℕ)
told_schema (Uses schema) true old = Some schema
told_schema _ _ old = old

abbrev pub told_after : Reads → Command → Reply → Told → Told
told_after reads command reply told = if is_reset command
    then record { schema = None; settings = defaults }
    else record { schema = told_schema (effect_of (class_of reads command)) (is_ok reply) told.schema; settings = settings_by (effect_of (class_of reads command)) (is_ok reply) told.settings }

-- a preparation on the way leaves the insert id
abbrev pub id_heard : Reads → Question → Reply → Option ℕ → Option ℕ
id_heard reads (Prep n key text) reply id = id
id_heard reads question reply id = id_after reads (command_of question) reply id

-- what a question and its answer do to what is prepared

abbrev pub text_of : Command → List ℕ
text_of (Prepare text) = text
text_of _ = []

abbrev pub lived : (makes ok : Bool) → (key number : ℕ) → (ℕ → Option ℕ) → ℕ → Option ℕ
lived makes ok key number live = if makes && ok then put nat_eq live key (Some number) else live

abbrev pub live_after : Question → Reply → (ℕ → Option ℕ) → ℕ → Option ℕ
live_after (Statement n due) reply live = lived (is_prepare due.command) (is_made reply) due.key (number_in reply) live
live_after (Prep n key text) reply live = lived true (is_made reply) key (number_in reply) live
live_after (End n) reply live = λ key. None
live_after _ reply live = live

abbrev pub heard : Reads → Question → Reply → Link → Link
heard reads question reply link = record link {
  stage = Quiet;
  told = told_after reads (command_of question) reply link.told;
  id = id_heard reads question reply link.id;
  live = live_after question reply link.live;
}

abbrev pub pin_heard : Reads → Question → Reply → Pin → Pin
pin_heard reads (Statement n due) reply pin = pin_statement reads due.command due.multiplex reply pin
pin_heard reads (Prep n key text) reply pin = if is_pinned pin then record pin { after_err = pin.after_err || is_err reply } else pin
pin_heard reads (Sync n command) reply pin = record pin { after_err = pin.after_err || is_err reply }
pin_heard reads (End n) reply pin = no_pin
pin_heard reads _ reply pin = pin

abbrev pub held_heard : Reads → Question → Reply → Held → Held
held_heard reads question reply held = record held { pin = pin_heard reads question reply held.pin; id = id_heard reads question reply held.id }

-- whose reply it is
abbrev pub held_by : Reads → Question → Reply → (SessionName → Held) → SessionName → Held
held_by reads (Statement n due) reply held = put is_name held n (held_heard reads (Statement n due) reply (held n))
held_by reads (Prep n key text) reply held = put is_name held n (held_heard reads (Prep n key text) reply (held n))
held_by reads (Sync n command) reply held = put is_name held n (held_heard reads (Sync n command) reply (held n))
held_by reads (End n) reply held = put is_name held n (held_heard reads (End n) reply (held n))
held_by reads (Capture n) reply held = put is_name held n (held_heard reads (Capture n) reply (held n))
held_by reads _ reply held = held

abbrev pub place_after : Reads → Command → Reply → Place → Place
place_after reads command reply place = record { schema = schema_by (effect_of (class_of reads command)) (is_ok reply) place.schema; settings = settings_by (effect_of (class_of reads command)) (is_ok reply) place.settings }

abbrev pub view_heard : Setup → View → (link : LinkId) → Reply → Stage → View
view_heard setup view link reply (Answered question) = record view {
  links = put is_link_id view.links link (heard setup.reads question reply (view.links link));
  held = held_by setup.reads question reply view.held;
  places = for_statement question
      (λ n due. put is_client view.places n.client (place_after setup.reads due.command reply (view.places n.client))) view.places;
  replies = for_statement question (λ n due. put is_message view.replies (message_of n due) (Some reply)) view.replies;
}
view_heard setup view link reply _ = view

-- what a STMT_CLOSE of this number leaves
abbrev pub closed_number : (number : ℕ) → Link → Link
closed_number number link = record link { live = λ key. option_and_then (λ n. if nat_eq n number then None else Some n) (link.live key) }

-- A link is given back, or lost, and a client leaves.

abbrev pub freed : Link → Link
freed link = record link { carries = Nobody; marked = false }

abbrev pub held_freed : Carried → (SessionName → Held) → SessionName → Held
held_freed carried held = option_map_or (λ n. put is_name held n (record (held n) { home = None })) (session_in carried) held

-- this session is left, where it is the present one; an older one was left before
abbrev pub lives_after : SessionName → (ClientNo → Hostgroup → ℕ) → ClientNo → Hostgroup → ℕ
lives_after n lives c h = if is_name (record { client = c; hostgroup = h; life = lives c h }) n then suc (lives c h) else lives c h

-- all sessions of this client are left
abbrev pub lives_left : (client : ClientNo) → (ClientNo → Hostgroup → ℕ) → ClientNo → Hostgroup → ℕ
lives_left client lives c h = if is_client c client then suc (lives c h) else lives c h

-- the present session of a client in a hostgroup
abbrev pub present : View → (client : ClientNo) (hostgroup : Hostgroup) → SessionName
present view client hostgroup = record { client = client; hostgroup = hostgroup; life = view.lives client hostgroup }

abbrev pub due_of : View → SessionName → (ordinal key : ℕ) → Command → (multiplex : Option Bool) → Due
due_of view n ordinal key command multiplex = record { ordinal = ordinal; place = view.places n.client; anew = not (is_pinned (view.held n).pin); command = command; key = key; multiplex = multiplex }

abbrev pub view_step : Setup → View → Happening → View
view_step setup view (LoggedIn link server account) = record view { links = put is_link_id view.links link (new_link server account) }
view_step setup view (BecameDue client hostgroup ordinal key command multiplex) =
    let n = present view client hostgroup in
    record view { dues = put is_name view.dues n (Some (due_of view n ordinal key command multiplex)) }
view_step setup view (Sent link question) = record view {
  links = put is_link_id view.links link (asked question (view.links link));
  held = held_for question link view.held;
  dues = for_statement question (λ n due. put is_name view.dues n None) view.dues;
  carriers = for_statement question (λ n due. put is_message view.carriers (message_of n due) (Some link)) view.carriers;
  lasting = for_statement question (λ n due. put is_name view.lasting n (view.lasting n || (class_of setup.reads due.command).outlasts_reset)) view.lasting;
}
view_step setup view (Ran link) =
    record view { links = put is_link_id view.links link (ran_by setup.reads (view.links link).stage (view.links link)) }
view_step setup view (Heard link reply) = view_heard setup view link reply (view.links link).stage
view_step setup view (Freed link) =
    record view { links = put is_link_id view.links link (freed (view.links link)); held = held_freed (view.links link).carries view.held }
view_step setup view (Unprepared link number) = record view { links = put is_link_id view.links link (closed_number number (view.links link)) }
view_step setup view (Dropped link) = view
view_step setup view (Gone link) = record view {
  links = put is_link_id view.links link (record (view.links link) { usable = false });
  lives = option_map_or (λ n. lives_after n view.lives) (session_in (view.links link).carries) view.lives;
}
view_step setup view (Left client) = record view {
  lives = lives_left client view.lives;
  places = put is_client view.places client (record (view.places client) { settings = (setup.places client).settings });
}
view_step setup view Broke = view
view_step setup view (Mirrored client job) = record view { places = put is_client view.places job (view.places client) }

abbrev pub view_after : Setup → Story → View
view_after setup [] = first_view setup
view_after setup (e ∷ past) = view_step setup (view_after setup past) e
