-- What the router makes of a client's message as it is taken up: a function of the configuration, of what is known then, and of
-- the message. So it says where a message goes, and where the router answers it itself, exactly.
use Rattle.std.specs.Prelude.{ℕ, ◌+◌, Bool, true, false, not, ◌&&◌, ◌||◌, bytes_eq, is_some, nat_eq, List, [], ◌∷◌, find, map, Option, Some, None}
use Rattle.std.specs.Prelude.{if◌then◌else◌, unwrap_or}
use Rattle.std.specs.Fmt.{decimal}
use Rattle.std.specs.Option.{option_map_or}
use Rattle.std.specs.Prelude.{codes}
use Rattle.client_session.specs.Errors.{malformed_command, unknown_command}
use Rattle.hostgroups.specs.declared.row.ServerRow.{ServerRow}
use Rattle.hostgroups.specs.declared.server.Server.{Server}
use Rattle.mx_base.specs.Fields.{number_at}
use Rattle.mx_base.specs.declared.names.{Port.Port, Port.TheVariants.Admin, Port.TheVariants.Traffic}
use Rattle.pin_classifier.specs.declared.class.Class.{Class}
use Rattle.pin_classifier.specs.declared.class.Refusal.{Refusal}
use Rattle.pin_classifier.specs.declared.class.Refusal.TheVariants as refusal
use Rattle.pin_classifier.specs.declared.class.Shape.{Shape}
use Rattle.pin_classifier.specs.declared.class.Shape.TheVariants as shape
use Rattle.query_rules.specs.Passing.{route_of}
use Rattle.query_rules.specs.declared.ask.Routed.{Routed}
use Rattle.query_rules.specs.declared.ask.Stop.{Stop}
use Rattle.query_rules.specs.declared.ask.Stop.TheVariants as stop
use Rattle.reply_text.specs.Replies.{ok_payload}
use Rattle.reply_text.specs.Tables.{row_payload, table_payloads}
use Rattle.session_state.specs.Pins.{reads_own}
use Rattle.session_vars.specs.Names.{lower_case}
use Rattle.session_vars.specs.Settings.{value_at}
use Rattle.session_vars.specs.declared.change.SlotValue.{SlotValue}
use Rattle.session_vars.specs.declared.change.SlotValue.TheVariants.{Default, Text}
use Rattle.session_vars.specs.declared.slot.Slot.TheVariants.{Autocommit}
use Rattle.private_model.specs.Names.{ClientNo, Hostgroup}
use Rattle.private_model.specs.Story.{BecameDue, Key, Story, is_client}
use Rattle.private_model.specs.View.{Held, View, present}
use Rattle.log_story.specs.Executes.{Prepared}
use Rattle.log_story.specs.Owed.{name_of}
use Rattle.log_story.specs.Plan.{Plan, Route, com_execute, com_field_list, com_init_db, com_long_data, com_prepare, com_query, com_reset, com_statement_reset}
use Rattle.log_story.specs.Tale.{Client, view_of}
use Rattle.router_promises.specs.Errors as error
use Rattle.router_promises.specs.Router.{home_of}
use Rattle.router_promises.specs.Running.{has_online}
use Rattle.router_promises.specs.Statements.{com_close, is_full, is_whole_execute, known_statement, next_number}
use Rattle.router_promises.specs.Takings.{Taking, message_in, ordinal_of}
use Rattle.router_promises.specs.Terms.{Terms, plan_in, setup_in}

-- What a message is.

pub data Kind : Type 0 where
  Quits : Kind
  Pings : Kind
  Restarts : Kind  -- COM_RESET_CONNECTION
  Chooses : Kind  -- COM_INIT_DB
  Lists : Kind  -- COM_FIELD_LIST
  Asks : (text : List ℕ) → Kind
  Prepares : (text : List ℕ) → Kind
  Executes : Prepared → Kind
  ResetsStatement : Kind
  Silent : Kind  -- long data and STMT_CLOSE, which have no answer
  Unprepared : (number : ℕ) → Kind
  Malformed : Kind
  Unknown : Kind

abbrev pub com_quit : ℕ
com_quit = 0x01

abbrev pub com_ping : ℕ
com_ping = 0x0E

abbrev pub com_fetch : ℕ
com_fetch = 0x1C

-- a command for a prepared statement, by its number and by what the client knows under it

abbrev pub executed : Plan → Client → (ordinal number : ℕ) → (payload : List ℕ) → Option Prepared → Kind
executed plan client ordinal number payload None = Unprepared number
executed plan client ordinal number payload (Some prepared) =
    if is_whole_execute plan client ordinal number prepared payload then Executes prepared else Malformed

abbrev pub with_number : View → Plan → Client → (ordinal byte : ℕ) → (payload : List ℕ) → (number : Option ℕ) → Kind
with_number view plan client ordinal byte payload None = Malformed
with_number view plan client ordinal byte payload (Some number) =
    if nat_eq byte com_execute then executed plan client ordinal number payload (known_statement view plan client number ordinal)
    else if nat_eq byte com_fetch then Unprepared number
    else if is_some (known_statement view plan client number ordinal) then ResetsStatement
    else Unprepared number

abbrev pub is_with_number : (byte : ℕ) → Bool
is_with_number byte = nat_eq byte com_execute || (nat_eq byte com_fetch || nat_eq byte com_statement_reset)

abbrev pub kind_of : View → Plan → Client → (ordinal : ℕ) → (payload : List ℕ) → Kind
kind_of view plan client ordinal [] = Malformed
kind_of view plan client ordinal (byte ∷ rest) =
    if nat_eq byte com_query then Asks rest
    else if nat_eq byte com_prepare then Prepares rest
    else if nat_eq byte com_init_db then Chooses
    else if nat_eq byte com_field_list then Lists
    else if nat_eq byte com_quit then Quits
    else if nat_eq byte com_ping then Pings
    else if nat_eq byte com_reset then Restarts
    else if nat_eq byte com_long_data || nat_eq byte com_close then Silent
    else if is_with_number byte then with_number view plan client ordinal byte (byte ∷ rest) (number_at 4 1 (byte ∷ rest))
    else Unknown

abbrev pub kind_in : Terms → Taking → Kind
kind_in terms taking =
    kind_of (view_of (setup_in terms) taking.tale) (plan_in terms) taking.client (ordinal_of taking) taking.message.payload

-- What is known of a client.

abbrev pub user_in : Terms → Taking → List ℕ
user_in terms taking = (terms.decided.accounts taking.client.number).user

abbrev pub held_in : Terms → Taking → Hostgroup → Held
held_in terms taking hostgroup =
    (view_of (setup_in terms) taking.tale).held
    (present (view_of (setup_in terms) taking.tale) taking.client.number hostgroup)

-- the hostgroup of its open transaction
abbrev pub transaction_in : Terms → Taking → Option Hostgroup
transaction_in terms taking =
    find (λ hostgroup. (held_in terms taking hostgroup).pin.tx)
    (map (λ (row : ServerRow). row.hostgroup) terms.router.servers)

-- the hostgroup of the last statement of it that became due
abbrev pub last_due : Story → ClientNo → Option Hostgroup
last_due [] c = None
last_due (BecameDue client hostgroup ordinal key command multiplex ∷ past) c =
    if is_client client c then Some hostgroup else last_due past c
last_due (e ∷ past) c = last_due past c

-- the status of the router's own OK: AUTOCOMMIT, where the client didn't take it off, and IN_TRANS; to a COM_RESET_CONNECTION it is 2,
-- as of one that did nothing yet

abbrev pub is_taken_off : SlotValue → Bool
is_taken_off Default = false
is_taken_off (Text value) = bytes_eq value (codes "0") || bytes_eq (lower_case value) (codes "off")

abbrev pub own_status : Terms → Taking → ℕ
own_status terms taking =
    (if is_taken_off (value_at ((view_of (setup_in terms) taking.tale).places taking.client.number).settings Autocommit) then 0 else 2)
    + (if is_some (transaction_in terms taking) then 1 else 0)

-- The pass over the rules.

abbrev pub pass_of : Terms → (flag : ℕ) → Taking → (text : List ℕ) → Routed
pass_of terms flag taking text = route_of terms.router.rules (record {
  user = user_in terms taking;
  schema = ((view_of (setup_in terms) taking.tale).places taking.client.number).schema;
  flag = flag;
  text = text;
  default_hostgroup = home_of terms.router (user_in terms taking);
})

abbrev pub is_connection_id : Shape → Bool
is_connection_id shape.ConnectionId = true
is_connection_id _ = false

-- a QUERY that asks for the connection's id alone, and a STMT_PREPARE for which there is no number, don't come so far
abbrev pub text_passed : Terms → Taking → Kind → Option (List ℕ)
text_passed terms taking (Asks text) = if is_connection_id (terms.router.reads.class text).shape then None else Some text
text_passed terms taking (Prepares text) =
    if is_full (view_of (setup_in terms) taking.tale) (plan_in terms) taking.client (ordinal_of taking) then None else Some text
text_passed terms taking _ = None

-- the client's flag behind the message
abbrev pub is_restart : Kind → Bool
is_restart Restarts = true
is_restart _ = false

abbrev pub flag_behind : Terms → (flag : ℕ) → Taking → ℕ
flag_behind terms flag taking =
    if is_restart (kind_in terms taking) then 0
    else option_map_or (λ text. unwrap_or (pass_of terms flag taking text).next_flag flag)
    (text_passed terms taking (kind_in terms taking)) flag

-- Where it goes.

-- A transaction that is open comes first, and what reads the insert id or diagnostics goes where the last statement went.
abbrev pub hostgroup_for : Terms → Taking → Class → (otherwise : Hostgroup) → Hostgroup
hostgroup_for terms taking class otherwise =
    unwrap_or (transaction_in terms taking) (
    if class.reads_id || class.reads_diag
    then unwrap_or (last_due taking.tale.story taking.client.number)
    (home_of terms.router (user_in terms taking))
    else otherwise)

-- a route, and what is to stand under its key
pub record Wanted : Type 0 where
  pub route : Route
  pub key : Option Key

-- Nothing is answered by it, as the client ends; the router answers it, maybe by nothing; or it goes to a server.
pub data Verdict : Type 0 where
  Parts : Verdict
  Tells : (payloads : List (List ℕ)) → Verdict
  Goes : Wanted → Verdict

abbrev pub tells_one : List ℕ → Verdict
tells_one payload = Tells (payload ∷ [])

abbrev pub own_ok : Terms → Taking → (info : List ℕ) → Verdict
own_ok terms taking info = tells_one (ok_payload (own_status terms taking) info)

abbrev pub connection_id : Terms → Taking → Verdict
connection_id terms taking =
    Tells (table_payloads (own_status terms taking) (codes "CONNECTION_ID()" ∷ [])
    (row_payload (Some (decimal taking.client.number.0) ∷ []) ∷ []))

-- no server is ONLINE, and no link carries the client's session
abbrev pub has_nowhere : Terms → List Server → Taking → Hostgroup → Bool
has_nowhere terms servers taking hostgroup = not (is_some (held_in terms taking hostgroup).home) && not (has_online servers hostgroup)

abbrev pub sent_unless : Terms → List Server → Taking → Wanted → Verdict
sent_unless terms servers taking wanted =
    if has_nowhere terms servers taking wanted.route.hostgroup then tells_one (error.no_server_in wanted.route.hostgroup.0) else Goes wanted

-- diagnostics are read where the session keeps its link, and where its own statements left them
abbrev pub unless_gone : Terms → List Server → Taking → Class → Wanted → Verdict
unless_gone terms servers taking class wanted =
    if reads_own class (held_in terms taking wanted.route.hostgroup).pin then sent_unless terms servers taking wanted
    else tells_one error.diagnostics_gone

abbrev pub unless_refused : Terms → List Server → Taking → Class → Option Refusal → Wanted → Verdict
unless_refused terms servers taking class (Some refusal.SetsServer) wanted = tells_one error.sets_server
unless_refused terms servers taking class (Some refusal.NamesConnection) wanted = tells_one error.names_connection
unless_refused terms servers taking class (Some refusal.ReadsLast) wanted = tells_one error.diagnostics_gone
unless_refused terms servers taking class None wanted =
    if is_connection_id class.shape then tells_one error.names_connection else unless_gone terms servers taking class wanted

abbrev pub plain_route : Hostgroup → Route
plain_route hostgroup = record { hostgroup = hostgroup; text = None; key = 0; number = 0; multiplex = None; mirror = None }

-- a text, by the pass over the rules
abbrev pub passed_on : Terms → List Server → Taking → Routed → (number : ℕ) → (key : Option Key) → Verdict
passed_on terms servers taking routed number key =
    let class = terms.router.reads.class routed.text in
    unless_refused terms servers taking class class.refusal (record {
      route = record (plain_route
          (hostgroup_for terms taking class
          routed.hostgroup)) { text = Some routed.text; number = number; multiplex = routed.multiplex };
      key = key;
    })

abbrev pub ruled : Terms → List Server → Taking → Routed → (number : ℕ) → (key : Option Key) → Option Stop → Verdict
ruled terms servers taking routed number key None = passed_on terms servers taking routed number key
ruled terms servers taking routed number key (Some (stop.Error text)) = tells_one (error.refused_by_rule text)
ruled terms servers taking routed number key (Some (stop.Ok text)) = own_ok terms taking text

-- what was prepared in no schema, or is executed in none, goes by the key of its text where its client stands
abbrev pub unplaced : (schema : List ℕ) → Key → (stands : List ℕ) → Option Key
unplaced [] key stands = Some (record key { place = record key.place { schema = stands } })
unplaced (byte ∷ schema) key [] = Some (record key { place = record key.place { schema = [] } })
unplaced (byte ∷ schema) key (other ∷ stands) = None

-- an execute goes where its statement was prepared, unless a transaction is open, with that text and that word on sharing
abbrev pub run_by : Terms → List Server → Taking → Prepared → Verdict
run_by terms servers taking prepared =
    let class = terms.router.reads.class (terms.decided.keys prepared.key).text in
    let asked = unwrap_or ((plan_in terms).routes (name_of taking.client prepared.ordinal)) (plain_route (record { 0 = 0 })) in
    unless_refused terms servers taking class class.refusal (record {
      route = record (plain_route (unwrap_or (transaction_in terms taking) asked.hostgroup)) { multiplex = asked.multiplex };
      key = unplaced (terms.decided.keys prepared.key).place.schema (terms.decided.keys prepared.key)
          ((view_of (setup_in terms) taking.tale).places taking.client.number).schema;
    })

-- the choice of a schema, or the question for a table's columns
abbrev pub plain : Terms → List Server → Taking → Verdict
plain terms servers taking =
    sent_unless terms servers taking
    (record { route = plain_route (unwrap_or (transaction_in terms taking) (home_of terms.router (user_in terms taking))); key = None })

abbrev pub verdict_by : Terms → List Server → (flag : ℕ) → Taking → Kind → Verdict
verdict_by terms servers flag taking Quits = Parts
verdict_by terms servers flag taking Pings = own_ok terms taking []
verdict_by terms servers flag taking Restarts = tells_one (ok_payload 2 [])
verdict_by terms servers flag taking Chooses = plain terms servers taking
verdict_by terms servers flag taking Lists = plain terms servers taking
verdict_by terms servers flag taking (Asks text) =
    if is_connection_id (terms.router.reads.class text).shape then connection_id terms taking
    else ruled terms servers taking (pass_of terms flag taking text) 0 None (pass_of terms flag taking text).stop
verdict_by terms servers flag taking (Prepares text) =
    let view = view_of (setup_in terms) taking.tale in
    let routed = pass_of terms flag taking text in
    if is_full view (plan_in terms) taking.client (ordinal_of taking) then tells_one error.too_many_statements
    else ruled terms servers taking routed (next_number view (plan_in terms) taking.client (ordinal_of taking))
    (Some (record { text = routed.text; place = view.places taking.client.number })) routed.stop
verdict_by terms servers flag taking (Executes prepared) = run_by terms servers taking prepared
verdict_by terms servers flag taking ResetsStatement = own_ok terms taking []
verdict_by terms servers flag taking Silent = Tells []
verdict_by terms servers flag taking (Unprepared number) = tells_one (error.unknown_statement number)
verdict_by terms servers flag taking Malformed = tells_one malformed_command
verdict_by terms servers flag taking Unknown = tells_one unknown_command

-- an administrator's message goes to no server
abbrev pub administered : Terms → Taking → Kind → Verdict
administered terms taking Quits = Parts
administered terms taking _ = Tells (terms.decided.administered (message_in taking))

abbrev pub verdict_at : Port → Terms → List Server → (flag : ℕ) → Taking → Kind → Verdict
verdict_at Traffic terms servers flag taking kind = verdict_by terms servers flag taking kind
verdict_at Admin terms servers flag taking kind = administered terms taking kind

abbrev pub verdict : Terms → List Server → (flag : ℕ) → Taking → Verdict
verdict terms servers flag taking = verdict_at taking.client.port terms servers flag taking (kind_in terms taking)
