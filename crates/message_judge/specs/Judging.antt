-- What becomes of a client's message, by what the router knows of the client. Where it goes to a server it is seen then whether its session
-- reads what is its own, and whether a server is there.
use Rattle.std.specs.Prelude.{ℕ, ◌+◌, Bool, true, false, not, ◌&&◌, ◌||◌, bytes_eq, is_some, slice_index_or, List, [], ◌∷◌, Option, Some, None, Result, Ok, Err}
use Rattle.std.specs.Prelude.{if◌then◌else◌, unwrap_or, codes}
use Rattle.std.specs.Fmt.{decimal}
use Rattle.std.specs.Option.{option_map_or}
use Rattle.client_session.specs.Errors.{malformed_command, unknown_command}
use Rattle.command_parse.specs.Meaning as meaning
use Rattle.command_parse.specs.Meaning.{Meaning, has_no_reply}
use Rattle.command_parse.specs.Whole.{whole_parsed}
use Rattle.command_parse.specs.declared.fault.CommandFault.{CommandFault}
use Rattle.command_parse.specs.declared.fault.CommandFault.TheVariants as fault
use Rattle.command_parse.specs.declared.statement as statement
use Rattle.mx_base.specs.declared.names.ClientNo.{ClientNo}
use Rattle.mx_base.specs.declared.names.Hostgroup.{Hostgroup}
use Rattle.pin_classifier.specs.declared.class.Class.{Class}
use Rattle.pin_classifier.specs.declared.class.Refusal.{Refusal}
use Rattle.pin_classifier.specs.declared.class.Refusal.TheVariants as refusal
use Rattle.query_rules.specs.Passing.{route_of}
use Rattle.query_rules.specs.declared.ask.Routed.{Routed}
use Rattle.query_rules.specs.declared.ask.Stop.{Stop}
use Rattle.query_rules.specs.declared.ask.Stop.TheVariants as stop
use Rattle.query_rules.specs.declared.rule.Rule.{Rule}
use Rattle.reply_text.specs.Replies.{ok_payload}
use Rattle.reply_text.specs.Tables.{row_payload, table_payloads}
use Rattle.session_state.specs.Pins.{reads_own}
use Rattle.session_state.specs.declared.pin.Pin.{Pin}
use Rattle.session_vars.specs.Settings.{value_at}
use Rattle.session_vars.specs.declared.slot.Slot.TheVariants.{Autocommit}
use Rattle.server_rule.specs.Classes.{Reads}
use Rattle.private_model.specs.Story.{Key}
use Rattle.router_promises.specs.Errors as error
use Rattle.router_promises.specs.Verdicts.{Goes, Parts, Tells, Verdict, Wanted, is_connection_id, is_taken_off, plain_route, tells_one, unplaced}
use Rattle.message_judge.specs.declared.caller.Caller.{Caller}
use Rattle.message_judge.specs.declared.caller.Standing.{Standing}
use Rattle.message_judge.specs.declared.caller.Prepared.{Prepared}

-- The client ends; the router answers, maybe by nothing; or it goes to a server, which is seen by the class of its text, where it has one.
pub data Draft : Type 0 where
  Ends : Draft
  Answers : (payloads : List (List ℕ)) → Draft
  Sends : Option Class → Wanted → Draft

-- and the flag with which the rules begin behind it
pub record Judged : Type 0 where
  pub draft : Draft
  pub flag : ℕ

abbrev pub answers_one : List ℕ → Draft
answers_one payload = Answers (payload ∷ [])

-- the status of the router's own OK
abbrev pub own_status : Caller → Standing → ℕ
own_status caller standing =
    (if is_taken_off (value_at caller.place.settings Autocommit) then 0 else 2) + (if is_some standing.transaction then 1 else 0)

abbrev pub own_ok : Caller → Standing → (info : List ℕ) → Draft
own_ok caller standing info = answers_one (ok_payload (own_status caller standing) info)

abbrev pub connection_id : Caller → Standing → Draft
connection_id caller standing =
    Answers (table_payloads (own_status caller standing) (codes "CONNECTION_ID()" ∷ [])
    (row_payload (Some (decimal caller.number.0) ∷ []) ∷ []))

-- the pass over the rules
abbrev pub pass_of : List Rule → Caller → (text : List ℕ) → Routed
pass_of rules caller text = route_of rules (record {
  user = caller.user;
  schema = caller.place.schema;
  flag = caller.flag;
  text = text;
  default_hostgroup = caller.home;
})

abbrev pub hostgroup_for : Caller → Standing → Class → (otherwise : Hostgroup) → Hostgroup
hostgroup_for caller standing class otherwise =
    unwrap_or standing.transaction (if class.reads_id || class.reads_diag then unwrap_or caller.last caller.home else otherwise)

-- a text of this class, by what it is refused for whatever its session
abbrev pub by_class : Class → Option Refusal → Wanted → Draft
by_class class (Some refusal.SetsServer) wanted = answers_one error.sets_server
by_class class (Some refusal.NamesConnection) wanted = answers_one error.names_connection
by_class class (Some refusal.ReadsLast) wanted = answers_one error.diagnostics_gone
by_class class None wanted = if is_connection_id class.shape then answers_one error.names_connection else Sends (Some class) wanted

-- which statement it prepares, under which number
abbrev pub prepares_as : Caller → Routed → (number : Option ℕ) → Wanted → Wanted
prepares_as caller routed None wanted = wanted
prepares_as caller routed (Some number) wanted = record {
  route = record wanted.route { number = number };
  key = Some (record { text = routed.text; place = caller.place });
}

abbrev pub passed_on : Reads → Caller → Standing → Routed → (number : Option ℕ) → Draft
passed_on reads caller standing routed number =
    let class = reads.class routed.text in
    by_class class class.refusal (prepares_as caller routed number (record {
      route = record (plain_route (hostgroup_for caller standing class routed.hostgroup)) { text = Some routed.text; multiplex = routed.multiplex };
      key = None;
    }))

abbrev pub ruled : Reads → Caller → Standing → Routed → (number : Option ℕ) → Option Stop → Draft
ruled reads caller standing routed number None = passed_on reads caller standing routed number
ruled reads caller standing routed number (Some (stop.Error text)) = answers_one (error.refused_by_rule text)
ruled reads caller standing routed number (Some (stop.Ok text)) = own_ok caller standing text

abbrev pub by_pass : Reads → Caller → Standing → Routed → (number : Option ℕ) → Judged
by_pass reads caller standing routed number = record {
  draft = ruled reads caller standing routed number routed.stop;
  flag = unwrap_or routed.next_flag caller.flag;
}

abbrev pub still : Caller → Draft → Judged
still caller draft = record { draft = draft; flag = caller.flag }

-- a query, a text to be prepared and an execute

abbrev pub asks : Reads → List Rule → Caller → Standing → (text : List ℕ) → Judged
asks reads rules caller standing text =
    if is_connection_id (reads.class text).shape then still caller (connection_id caller standing)
    else by_pass reads caller standing (pass_of rules caller text) None

abbrev pub prepares : Reads → List Rule → Caller → Standing → (text : List ℕ) → Option ℕ → Judged
prepares reads rules caller standing text None = still caller (answers_one error.too_many_statements)
prepares reads rules caller standing text (Some number) = by_pass reads caller standing (pass_of rules caller text) (Some number)

-- what was prepared in no schema, or is executed in none, goes by the key of its text where its client stands
abbrev pub run_key : Caller → Prepared → Option Key
run_key caller prepared =
    unplaced prepared.place.schema (record { text = prepared.text; place = prepared.place }) caller.place.schema

abbrev pub runs : Caller → Standing → Option Prepared → Draft
runs caller standing None = answers_one malformed_command
runs caller standing (Some prepared) = by_class prepared.class prepared.class.refusal (record {
  route = record (plain_route (unwrap_or standing.transaction prepared.hostgroup)) { multiplex = prepared.multiplex };
  key = run_key caller prepared;
})

-- the choice of a schema, or the question for a table's columns
abbrev pub plain : Caller → Standing → Draft
plain caller standing = Sends None (record { route = plain_route (unwrap_or standing.transaction caller.home); key = None })

abbrev pub restarted : Judged
restarted = record { draft = answers_one (ok_payload 2 []); flag = 0 }

abbrev pub by_meaning : Reads → List Rule → Caller → Standing → Option Prepared → Meaning → Judged
by_meaning reads rules caller standing prepared meaning.Quit = still caller Ends
by_meaning reads rules caller standing prepared (meaning.InitDb schema) = still caller (plain caller standing)
by_meaning reads rules caller standing prepared (meaning.Query text) = asks reads rules caller standing text
by_meaning reads rules caller standing prepared (meaning.FieldList rest) = still caller (plain caller standing)
by_meaning reads rules caller standing prepared meaning.Ping = still caller (own_ok caller standing [])
by_meaning reads rules caller standing prepared (meaning.Prepare text) = prepares reads rules caller standing text standing.next_number
by_meaning reads rules caller standing prepared (meaning.Execute id types nulls values) = still caller (runs caller standing prepared)
by_meaning reads rules caller standing prepared (meaning.LongData id parameter bytes) = still caller (Answers [])
by_meaning reads rules caller standing prepared (meaning.Close id) = still caller (Answers [])
by_meaning reads rules caller standing prepared (meaning.ResetStmt id) = still caller (own_ok caller standing [])
by_meaning reads rules caller standing prepared (meaning.Fetch id) = still caller (answers_one (error.unknown_statement id))
by_meaning reads rules caller standing prepared meaning.ResetConnection = restarted
by_meaning reads rules caller standing prepared (meaning.Refused byte) = still caller (answers_one unknown_command)

-- what can't be read is answered by an error, but for commands that have no answer
abbrev pub faulty : (byte : ℕ) → CommandFault → Draft
faulty byte (fault.UnknownStatement id) = answers_one (error.unknown_statement id)
faulty byte _ = if has_no_reply byte then Answers [] else answers_one malformed_command

abbrev pub by_parsed : Reads → List Rule → Caller → Standing → Option Prepared → (byte : ℕ) → Result Meaning CommandFault → Judged
by_parsed reads rules caller standing prepared byte (Ok meant) = by_meaning reads rules caller standing prepared meant
by_parsed reads rules caller standing prepared byte (Err why) = still caller (faulty byte why)

-- what the reader of commands has to know of a prepared statement
abbrev pub known_of : Option Prepared → Option statement.Known.Known
known_of None = None
known_of (Some prepared) = Some (record { params = prepared.params; bound = prepared.bound })

abbrev pub judged : Reads → List Rule → Caller → Standing → Option Prepared → (payload : List ℕ) → Judged
judged reads rules caller standing prepared payload =
    by_parsed reads rules caller standing prepared (slice_index_or payload 0 0) (whole_parsed (known_of prepared) payload)

-- Where it goes to a server: diagnostics are read where the session keeps its link, and where its own statements left them; and no server is
-- ONLINE, and no link carries the session.

abbrev pub sent_unless : (is_there : Bool) → Wanted → Verdict
sent_unless is_there wanted = if is_there then Goes wanted else tells_one (error.no_server_in wanted.route.hostgroup.0)

abbrev pub admitted : Option Class → Pin → (is_there : Bool) → Wanted → Verdict
admitted None pin is_there wanted = sent_unless is_there wanted
admitted (Some class) pin is_there wanted =
    if reads_own class pin then sent_unless is_there wanted else tells_one error.diagnostics_gone

-- by the Pins of its sessions, and by the hostgroups in which there is a link or a server for it
abbrev pub verdict_by : (pins : Hostgroup → Pin) → (is_there : Hostgroup → Bool) → Draft → Verdict
verdict_by pins is_there Ends = Parts
verdict_by pins is_there (Answers payloads) = Tells payloads
verdict_by pins is_there (Sends class wanted) = admitted class (pins wanted.route.hostgroup) (is_there wanted.route.hostgroup) wanted
