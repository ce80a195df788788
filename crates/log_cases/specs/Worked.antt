-- A worked log: two clients over one link to a small server. The first inserts, and its insert id is asked for; then the link
-- goes to the second, which first gets its own insert id, and inserts.
use Rattle.std.specs.Prelude.{ℕ, false, List, [], ◌∷◌, ◌++◌, codes, drop, take, Some, None}
use Rattle.mx_base.specs.declared.names.Port.TheVariants.{Traffic}
use Rattle.mx_base.specs.declared.tag.Tag.TheVariants.{For, End as EndTag, Own as OwnTag, Reply as ReplyTag}
use Rattle.mx_wire.specs.Log.{Log}
use Rattle.mx_wire.specs.declared.entry.Entry.TheVariants.{Accepted, Opened, Got, Wrote, Exec}
use Rattle.packet_frame.specs.Packets.{spelling, spellings}
use Rattle.handshake.specs.Greeting.{greeting_bytes}
use Rattle.handshake.specs.Response.{response_bytes}
use Rattle.handshake.specs.Switch.{native_password}
use Rattle.handshake.specs.declared.greeting.Greeting.{Greeting}
use Rattle.client_side.specs.Login.{greeting_said}
use Rattle.server_side.specs.Account.{Account as Login}
use Rattle.server_side.specs.Login.{response_said}
use Rattle.client_session.specs.Errors.{own_ok}
use Rattle.server_rule.specs.Texts.{read_id_text, set_id_text}
use Rattle.server_rule.specs.Servers.{Step}
use Rattle.private_model.specs.Commands.{SetId}
use Rattle.small_server.specs.Stories.{client, group, link, reads, zero_id}
use Rattle.small_server.specs.Tally.{FirstId, LaterId, NoId, ok, row, tally}
use Rattle.log_story.specs.Plan.{Asks, Plan, Route}
use Rattle.log_story.specs.Tale.{Client}

abbrev pub salt : List ℕ
salt = codes "abcdefghijklmnopqrst"

-- both clients are one user
abbrev pub login : Login
login = record { user = codes "app"; password = []; found_rows = false }

abbrev pub server : Step
server = tally reads

-- each message goes to the one hostgroup; the third question on the link is the step of the second client's insert id
abbrev pub route : Route
route = record { hostgroup = group; text = None; key = 0; number = 0; multiplex = None; mirror = None }

abbrev pub plan : Plan
plan = record {
  service = record { version = codes "8"; users = record { name = codes "app"; password = [] } ∷ []; admin = record { name = codes "admin"; password = [] }; limit = 1000; max_clients = 9; target = None };
  room = 1048576;
  logins = λ l. login;
  routes = λ message. Some route;
  own = λ message. None;
  ends = λ c. None;
  words = λ c. None;
  steps = λ l begun. Asks (SetId zero_id);
}

-- What is said.

abbrev pub response : List ℕ
response =
    spelling 1 (response_bytes
    (record { capabilities = 958981; max_packet = 16777216; collation = 45; user = codes "app"; answer = []; schema = None; plugin = Some native_password }))

abbrev pub query : List ℕ
query = spelling 0 (3 ∷ codes "INSERT")

abbrev pub greeting : Greeting
greeting = record { version = codes "8"; connection = 7; salt = salt; capabilities = 958991; collation = 45; status = 2; plugin = native_password }

-- what a client is due for its login
abbrev pub logged_in : (number : ℕ) → List ℕ
logged_in number = greeting_said number salt plan.service.version ++ spelling 2 own_ok

abbrev pub capture : List ℕ
capture = spelling 0 (3 ∷ read_id_text)

abbrev pub id_step : List ℕ
id_step = spelling 0 (3 ∷ set_id_text 0)

abbrev pub first_ok : List ℕ
first_ok = spellings 1 (ok false FirstId false)

abbrev pub later_ok : List ℕ
later_ok = spellings 1 (ok false LaterId false)

-- Its entries. The first command runs as its mark says, the question for the insert id as the first byte of its reply is read.

abbrev pub first_comes : Log
first_comes =
    Accepted Traffic (link 1) salt ∷ Wrote (link 1) ReplyTag (greeting_said 1 salt (codes "8")) ∷ Got (link 1) response ∷ Wrote (link 1) ReplyTag
    (spelling 2 own_ok) ∷ Got (link 1) query ∷ []

abbrev pub router_enters : Log
router_enters =
    Opened (record { 0 = 1 }) (record { ip = 127 ∷ 0 ∷ 0 ∷ 1 ∷ []; port = 3306 }) (link 3) ∷ Got (link 3) (spelling 0 (greeting_bytes greeting))
    ∷ Wrote (link 3) OwnTag (response_said login greeting) ∷ Got (link 3) (spelling 2 own_ok) ∷ []

abbrev pub first_runs : Log
first_runs = Wrote (link 3) (For (client 1) 1) query ∷ Exec (link 3) ∷ []

abbrev pub first_is_read : Log
first_is_read = Got (link 3) (take 3 first_ok) ∷ []

abbrev pub first_is_heard : Log
first_is_heard = Got (link 3) (drop 3 first_ok) ∷ Wrote (link 1) ReplyTag first_ok ∷ []

abbrev pub id_is_asked : Log
id_is_asked = Wrote (link 3) (EndTag (client 1) group) capture ∷ []

abbrev pub id_is_heard : Log
id_is_heard = Got (link 3) (spellings 1 (row false 49)) ∷ []

abbrev pub second_comes : Log
second_comes = Accepted Traffic (link 2) salt ∷ Got (link 2) response ∷ Got (link 2) query ∷ []

abbrev pub id_is_sent : Log
id_is_sent = Wrote (link 3) OwnTag id_step ∷ []

abbrev pub id_is_set : Log
id_is_set = Got (link 3) (spellings 1 (ok false NoId false)) ∷ []

abbrev pub second_runs : Log
second_runs = Wrote (link 3) (For (client 2) 1) query ∷ Exec (link 3) ∷ []

abbrev pub second_is_heard : Log
second_is_heard = Got (link 3) later_ok ∷ []

abbrev pub log : Log
log =
    first_comes ++ (router_enters ++ (first_runs ++ (first_is_read ++ (first_is_heard ++ (id_is_asked ++ (id_is_heard ++ (second_comes ++
    (id_is_sent ++ (id_is_set ++ (second_runs ++ (second_is_heard)))))))))))

-- the second client, by then
abbrev pub second_client : Client
second_client = record { number = client 2; port = Traffic; link = link 2; salt = salt; read = response ++ query; written = 0; taken = 1 }
