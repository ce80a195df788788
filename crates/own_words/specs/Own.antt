-- What the router says to a client by itself: its own words, texts of its rules, and numbers. No other bytes are in it, so none that came of
-- another client or of a server; but for the tables that administrators are shown.
use Rattle.std.specs.Prelude.{◌≡◌, ◌⊎◌, ◌≤◌, ◌<◌, ◌^◌, ℕ, Bool, true, false, bytes_eq, List, [], ◌∷◌, codes, Some}
use Rattle.std.specs.Fmt.{decimal}
use Rattle.std.specs.List.{list_any}
use Rattle.std.specs.Option.{option_map_or}
use Rattle.client_session.specs.Errors.{bad_server_bytes, connection_lost, connection_refused, malformed_command, unknown_command}
use Rattle.reply_text.specs.Replies.{ok_payload}
use Rattle.reply_text.specs.Tables.{row_payload, table_payloads}
use Rattle.query_rules.specs.declared.rule.Rule.{Rule}
use Rattle.admin_port.specs.Answers.{Reply}
use Rattle.admin_port.specs.Payloads.{reply_payloads}
use Rattle.private_model.specs.Names.{ClientNo, MessageName}
use Rattle.log_story.specs.Plan.{LastWord, OwnAnswer, Plan}
use Rattle.router_promises.specs.Due.{turned_away}
use Rattle.router_promises.specs.Errors.{buffers_full, diagnostics_gone, names_connection, no_connection, no_server_in, out_of_memory, refused_by_rule, replay_refused, server_offline, server_shutdown, sets_server, too_many_statements, unknown_statement}

-- a rule has this text as its OK_msg, or as its error_msg
abbrev pub is_ok_text : List Rule → (text : List ℕ) → Bool
is_ok_text rules text = list_any (λ (rule : Rule). option_map_or (bytes_eq text) rule.row.OK_msg false) rules

abbrev pub is_error_text : List Rule → (text : List ℕ) → Bool
is_error_text rules text = list_any (λ (rule : Rule). option_map_or (bytes_eq text) rule.row.error_msg false) rules

-- The answers to a message as it is taken up.

-- an error: a rule's, or one of the router's own
pub data IsRefusal (rules : List Rule) : (payload : List ℕ) → Type 0 where
  ByRule : (text : List ℕ) → is_error_text rules text ≡ true → IsRefusal rules (refused_by_rule text)
  UnknownStatement : (number : ℕ) → number < 2 ^ 32 → IsRefusal rules (unknown_statement number)
  NoServerIn : (hostgroup : ℕ) → hostgroup < 2 ^ 16 → IsRefusal rules (no_server_in hostgroup)
  DiagnosticsGone : IsRefusal rules diagnostics_gone
  NamesConnection : IsRefusal rules names_connection
  SetsServer : IsRefusal rules sets_server
  TooManyStatements : IsRefusal rules too_many_statements
  MalformedCommand : IsRefusal rules malformed_command
  UnknownCommand : IsRefusal rules unknown_command

-- the table of SELECT CONNECTION_ID()
abbrev pub number_payloads : (status number : ℕ) → List (List ℕ)
number_payloads status number =
    table_payloads status (codes "CONNECTION_ID()" ∷ []) (row_payload (Some (decimal number) ∷ []) ∷ [])

-- nothing; an OK, maybe with a rule's text; the client's own number; or an error. Of the status there are AUTOCOMMIT and IN_TRANS.
pub data IsAnswer (rules : List Rule) (client : ClientNo) : (payloads : List (List ℕ)) → Type 0 where
  Nothing : IsAnswer rules client []
  Okay : (status : ℕ) → status ≤ 3 → IsAnswer rules client (ok_payload status [] ∷ [])
  OkByRule : (status : ℕ) (text : List ℕ) → status ≤ 3 → is_ok_text rules text ≡ true → IsAnswer rules client (ok_payload status text ∷ [])
  Number : (status : ℕ) → status ≤ 3 → IsAnswer rules client (number_payloads status client.0)
  Refuses : (payload : List ℕ) → IsRefusal rules payload → IsAnswer rules client (payload ∷ [])

-- what an administrator's statement is answered: a table, an OK, or that it is refused
abbrev pub IsShown : (payloads : List (List ℕ)) → Type 0
IsShown payloads = (reply : Reply) × (payloads ≡ reply_payloads reply)

-- the answer to a message as it is taken up, of a client or of an administrator
abbrev pub IsOwnAnswer : List Rule → ClientNo → (payloads : List (List ℕ)) → Type 0
IsOwnAnswer rules client payloads = IsAnswer rules client payloads ⊎ IsShown payloads

-- Why a statement is given up, or a client told a last word: the link was lost; none was lent, or none could be opened; a step was refused; the
-- server was taken offline; bytes of it are no reply; too many bytes of clients wait; the router shuts down; or there is no memory.
pub data IsFailure : (payload : List ℕ) → Type 0 where
  LinkLost : IsFailure connection_lost
  NoConnection : (since now : ℕ) → since < 2 ^ 64 → now < 2 ^ 64 → IsFailure (no_connection since now)
  NoLink : IsFailure connection_refused
  StepRefused : (code : ℕ) → code < 2 ^ 16 → IsFailure (replay_refused code)
  Offline : IsFailure server_offline
  BadBytes : (place : ℕ) → place < 2 ^ 64 → IsFailure (bad_server_bytes place)
  BuffersFull : (kept announced : ℕ) → kept < 2 ^ 64 → announced < 2 ^ 64 → IsFailure (buffers_full kept announced)
  ShuttingDown : IsFailure server_shutdown
  NoMemory : IsFailure out_of_memory

-- What a message is answered in place of a reply.
pub data IsOwn (rules : List Rule) (client : ClientNo) : (payloads : List (List ℕ)) → Type 0 where
  Answers : (payloads : List (List ℕ)) → IsAnswer rules client payloads → IsOwn rules client payloads
  Shows : (reply : Reply) → IsOwn rules client (reply_payloads reply)
  GivesUp : (payload : List ℕ) → IsFailure payload → IsOwn rules client (payload ∷ [])

-- A client's last word, or that it isn't served.
pub data IsLastWord : (payloads : List (List ℕ)) → Type 0 where
  Fails : (payload : List ℕ) → IsFailure payload → IsLastWord (payload ∷ [])
  TurnedAway : IsLastWord turned_away

-- All that a plan has the router say is of its own, by each message's rules.
pub record SpeaksOwn (rules : MessageName → List Rule) (plan : Plan) : Type 0 where
  pub own : (m : MessageName) (answer : OwnAnswer) → plan.own m ≡ Some answer → IsOwn (rules m) m.client answer.payloads
  pub words : (c : ClientNo) (word : LastWord) → plan.words c ≡ Some word → IsLastWord word.payloads
