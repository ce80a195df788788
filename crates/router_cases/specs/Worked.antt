-- A worked log: two clients of one user, and one server with room for one link. The first client's statement is refused as no link
-- can be had. Ten seconds later it inserts; a link is opened and told the client's character set; its insert id is asked for; then
-- the link goes to the second client, gets that client's insert id, and inserts again.
use Rattle.std.specs.Prelude.{ℕ, true, false, ◌&&◌, bytes_eq, nat_eq, List, [], ◌∷◌, ◌++◌, codes, take, if◌then◌else◌, Some, None, is_some, ◌||◌}
use Rattle.std.proofs.Common.{arith}
use Rattle.client_side.specs.Login.{greeting_said}
use Rattle.client_session.specs.Errors.{connection_refused, own_ok}
use Rattle.handshake.specs.Greeting.{greeting_bytes}
use Rattle.handshake.specs.Response.{response_bytes}
use Rattle.handshake.specs.Switch.{native_password}
use Rattle.handshake.specs.declared.greeting.Greeting.{Greeting}
use Rattle.hostgroups.specs.declared.row.ServerStatus.TheVariants.{Online}
use Rattle.mx_base.specs.declared.names.Address.{Address}
use Rattle.mx_base.specs.declared.names.ClientNo.{ClientNo}
use Rattle.mx_base.specs.declared.names.Hostgroup.{Hostgroup}
use Rattle.mx_base.specs.declared.names.LinkId.{LinkId}
use Rattle.mx_base.specs.declared.names.Port.TheVariants.{Admin, Traffic}
use Rattle.mx_base.specs.declared.names.ServerId.{ServerId}
use Rattle.mx_base.specs.declared.tag.Tag.TheVariants.{For, End as EndTag, Own as OwnTag, Reply as ReplyTag}
use Rattle.mx_config.specs.declared.config.ProxyRow.{ProxyRow}
use Rattle.mx_wire.specs.Log.{Log}
use Rattle.mx_wire.specs.declared.entry.Entry.TheVariants.{Accepted, AcceptNothing, Got, Named, NoneNamed, Opened, OpenFailed, ReadNothing, Woke, Wrote}
use Rattle.packet_frame.specs.Packets.{spelling, spellings}
use Rattle.pin_classifier.specs.declared.class.Class.{Class}
use Rattle.pin_classifier.specs.declared.class.Shape.TheVariants as shape
use Rattle.server_rule.specs.Classes.{Reads}
use Rattle.server_rule.specs.Texts.{read_id_text, set_id_text}
use Rattle.server_side.specs.Account.{Account as Login}
use Rattle.server_side.specs.Login.{response_said}
use Rattle.session_state.specs.declared.names.MessageName.{MessageName}
use Rattle.session_state.specs.declared.names.SessionName.{SessionName}
use Rattle.session_state.specs.declared.place.Place.{Place}
use Rattle.session_vars.specs.Settings.{collation_names, collation_settings}
use Rattle.session_vars.specs.Texts.{names_statement}
use Rattle.session_vars.specs.declared.change.Change.{Change}
use Rattle.session_vars.specs.declared.change.SlotValue.TheVariants.{Text}
use Rattle.session_vars.specs.declared.shape.SetShape.TheVariants as sets
use Rattle.session_vars.specs.declared.slot.Slot.TheVariants.{Names}
use Rattle.server_rule.specs.Servers.{Step}
use Rattle.small_server.specs.Tally.{id_set, is_special, tally}
use Rattle.private_model.specs.Commands.{Account, Number, Query, SetId, plain_class}
use Rattle.private_model.specs.Story.{BecameDue, Capture, Due, Freed, Happening, Heard, LoggedIn, Own, Ran, Sent, Statement, Story}
use Rattle.log_story.specs.Plan.{Asks, Plan, Route, StepText}
use Rattle.router_promises.specs.Keys.{LinkKey}
use Rattle.router_promises.specs.Router.{Router, service_of}
use Rattle.router_promises.specs.Terms.{Decided, Terms}
use Rattle.promise_tests.specs.Judging.{Given, own_by}

abbrev pub names : Change
names = record { slot = Names; value = Text (collation_names 45); adds = false }

abbrev pub names_text : List ℕ
names_text = names_statement names

abbrev pub insert : List ℕ
insert = codes "INSERT"

-- INSERT is marked, as are the two texts of the insert id; the one SET NAMES is tracked
abbrev pub class_read : List ℕ → Class
class_read text = record plain_class {
  deep = is_some (id_set text);
  marks_id = is_special text || bytes_eq text insert;
  shape = if bytes_eq text names_text then shape.Set (sets.Tracked (names ∷ [])) else shape.Other;
}

abbrev pub reads : Reads
reads = record { class = class_read; hides_id = λ text. false }

abbrev pub here : Address
here = record { ip = 127 ∷ 0 ∷ 0 ∷ 1 ∷ []; port = 3306 }

abbrev pub proxy : ProxyRow
proxy = record {
  listen = here;
  admin_listen = here;
  admin_user = codes "a";
  admin_password = [];
  server_version = codes "8";
  default_schema = [];
  max_clients = 9;
  max_packet = 1000;
  buffer_budget = 1000000;
  wait_ms = 100;
  idle_ms = 1000;
}

abbrev pub group : Hostgroup
group = record { 0 = 0 }

abbrev pub server : ServerId
server = record { 0 = 1 }

abbrev pub router : Router
router = record {
  reads = reads;
  proxy = proxy;
  users = record { name = codes "app"; password = []; default_hostgroup = group; whitelist = false } ∷ [];
  servers = record {
    hostgroup = group;
    address = here;
    weight = 1;
    max_connections = 1;
    status = Online;
  } ∷ [];
  rules = [];
}

-- What is decided.

abbrev pub client : ℕ → ClientNo
client n = record { 0 = n }

abbrev pub link : ℕ → LinkId
link n = record { 0 = n }

abbrev pub message : (n ordinal : ℕ) → MessageName
message n ordinal = record { client = client n; ordinal = ordinal }

abbrev pub session : ℕ → SessionName
session n = record { client = client n; hostgroup = group; life = 0 }

abbrev pub login : Login
login = record { user = codes "app"; password = []; found_rows = false }

abbrev pub anybody : Account
anybody = record {
  user = codes "app";
  capabilities = record { found_rows = false; multi_results = true; ignore_space = false };
}

abbrev pub place : Place
place = record { schema = []; settings = collation_settings 45 }

abbrev pub route : Route
route = record {
  hostgroup = group;
  text = Some insert;
  key = 0;
  number = 0;
  multiplex = None;
  mirror = None;
}

abbrev pub zero_id : Number
zero_id = record { value = 0; fits = omega arith }

abbrev pub step_at : (begun : ℕ) → StepText
step_at begun = if nat_eq begun 0 then Asks (Query names_text) else Asks (SetId zero_id)

-- the first client's first message is refused at the eighth entry
abbrev pub given : List Given
given = record {
  message = message 1 1;
  answer = record {
    from = 8;
    payloads = connection_refused ∷ [];
  };
} ∷ []

abbrev pub plan : Plan
plan = record {
  service = service_of router;
  room = 1048576;
  logins = λ l. login;
  routes = λ m. Some route;
  own = own_by given;
  ends = λ c. None;
  words = λ c. None;
  steps = λ l begun. step_at begun;
}

abbrev pub decided : Decided
decided = record {
  plan = plan;
  keys = λ key. record { text = key ∷ []; place = place };
  accounts = λ c. anybody;
  places = λ c. place;
  administered = λ m. [];
  bare = λ l. true;
  tried = λ entry. record { login = login; bare = true };
}

-- whatever servers have stored

abbrev pub Stored : Type 0
Stored = (server : ServerId) → List ℕ

abbrev pub terms_with : Stored → Terms
terms_with stored = record { router = router; decided = decided; stored = stored }

-- a small server, that has nothing stored at first

abbrev pub nothing : Stored
nothing = λ s. []

abbrev pub small : Step
small = tally reads

abbrev pub key : LinkKey
key = record { hostgroup = group; account = anybody; bare = true }

-- What is said.

abbrev pub salt : List ℕ
salt = codes "abcdefghijklmnopqrst"

abbrev pub response : List ℕ
response =
    spelling 1 (response_bytes
    (record {
      capabilities = 958981;
      max_packet = 16777216;
      collation = 45;
      user = codes "app";
      answer = [];
      schema = None;
      plugin = Some native_password;
    }))

abbrev pub query : List ℕ
query = spelling 0 (3 ∷ insert)

abbrev pub greeting : Greeting
greeting = record {
  version = codes "8";
  connection = 7;
  salt = salt;
  capabilities = 958991;
  collation = 45;
  status = 2;
  plugin = native_password;
}

abbrev pub ok_with : (id : ℕ) → List (List ℕ)
ok_with id = (0 ∷ 0 ∷ id ∷ 2 ∷ 0 ∷ 0 ∷ 0 ∷ []) ∷ []

-- a column count, a column, an EOF, a row with the digit 1, an EOF
abbrev pub row : List (List ℕ)
row = (1 ∷ []) ∷ (3 ∷ []) ∷ (254 ∷ 0 ∷ 0 ∷ 0 ∷ 0 ∷ []) ∷ (1 ∷ 49 ∷ []) ∷ (254 ∷ 0 ∷ 0 ∷ 2 ∷ 0 ∷ []) ∷ []

-- The log.

-- the loop waits for what comes
abbrev pub never : ℕ
never = 18446744073709551615

abbrev pub comes : (n : ℕ) → Log
comes n =
    Accepted Traffic (link n) salt ∷ Wrote (link n) ReplyTag (greeting_said n salt (codes "8"))
    ∷ Got (link n) response
    ∷ Wrote (link n) ReplyTag (spelling 2 own_ok) ∷ []

-- nobody waits at a port, no link is ready, and these have nothing to read
abbrev pub is_drained : Log → Log
is_drained reads = AcceptNothing Traffic ∷ AcceptNothing Admin ∷ NoneNamed ∷ reads

-- up to the first wait
abbrev pub first_part : Log
first_part =
    Woke never 0 ∷ (comes 1 ++ (AcceptNothing Traffic ∷ Got (link 1) query ∷ OpenFailed server here
    ∷ Wrote (link 1) ReplyTag (spelling 1 connection_refused) ∷ AcceptNothing Admin ∷ NoneNamed
    ∷ ReadNothing (link 1) ∷ []))

-- up to the second wait: both clients insert, and a link is opened
abbrev pub second_part : Log
second_part =
    Woke 10000 10000 ∷ (comes 2
    ++ (AcceptNothing Traffic ∷ AcceptNothing Admin ∷ Named (link 1) ∷ NoneNamed ∷ Got (link 1) query
    ∷ Opened server here (link 3)
    ∷ Got (link 2) query ∷ ReadNothing (link 1) ∷ ReadNothing (link 2) ∷ ReadNothing (link 3) ∷ []))

-- the router logs in there, and takes a step
abbrev pub third_part : Log
third_part =
    Woke 10100 10001 ∷ AcceptNothing Traffic ∷ AcceptNothing Admin ∷ Named (link 3) ∷ NoneNamed
    ∷ Got (link 3) (spelling 0 (greeting_bytes greeting))
    ∷ Wrote (link 3) OwnTag (response_said login greeting) ∷ Got (link 3) (spelling 2 own_ok)
    ∷ Wrote (link 3) OwnTag (spelling 0 (3 ∷ names_text)) ∷ Got (link 3) (spellings 1 (ok_with 0))
    ∷ Wrote (link 3) (For (client 1) 2) query ∷ Got (link 3) (spellings 1 (ok_with 1))
    ∷ Wrote (link 1) ReplyTag (spellings 1 (ok_with 1))
    ∷ Wrote (link 3) (EndTag (client 1) group) (spelling 0 (3 ∷ read_id_text))
    ∷ Got (link 3) (spellings 1 row) ∷ []

-- it goes to the second client
abbrev pub fourth_part : Log
fourth_part =
    Wrote (link 3) OwnTag (spelling 0 (3 ∷ set_id_text 0)) ∷ Got (link 3) (spellings 1 (ok_with 0))
    ∷ Wrote (link 3) (For (client 2) 1) query ∷ Got (link 3) (spellings 1 (ok_with 2)) ∷ []

abbrev pub log : Log
log = first_part ++ (second_part ++ (third_part ++ fourth_part))

-- its first entries
abbrev pub until : (n : ℕ) → Log
until n = take n log

-- What it tells.

abbrev pub due_at : (ordinal : ℕ) → Due
due_at ordinal = record {
  ordinal = ordinal;
  place = place;
  anew = true;
  command = Query insert;
  key = 0;
  multiplex = None;
}

abbrev pub came : (n ordinal : ℕ) → Happening
came n ordinal = BecameDue (client n) group ordinal 0 (Query insert) None

abbrev pub heard : List (List ℕ) → Happening
heard payloads = Heard (link 3) (record { to_prepare = false; payloads = payloads })

abbrev pub story : Story
story =
    heard (ok_with 2) ∷ Ran (link 3) ∷ Sent (link 3) (Statement (session 2) (due_at 1))
    ∷ heard (ok_with 0) ∷ Ran (link 3) ∷ Sent (link 3) (Own (SetId zero_id))
    ∷ Freed (link 3) ∷ heard row ∷ Ran (link 3) ∷ Sent (link 3) (Capture (session 1))
    ∷ heard (ok_with 1) ∷ Ran (link 3) ∷ Sent (link 3) (Statement (session 1) (due_at 2))
    ∷ heard (ok_with 0) ∷ Ran (link 3) ∷ Sent (link 3) (Own (Query names_text))
    ∷ LoggedIn (link 3) server anybody
    ∷ came 2 1 ∷ came 1 2 ∷ came 1 1 ∷ []
