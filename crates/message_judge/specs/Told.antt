-- The payloads of what the router itself answers to a message.
use Rattle.std.specs.Prelude.{ℕ, List, [], ◌∷◌, codes, Some}
use Rattle.std.specs.Fmt.{decimal}
use Rattle.client_session.specs.Errors.{malformed_command, unknown_command}
use Rattle.mx_base.specs.declared.names.ClientNo.{ClientNo}
use Rattle.own_words.specs.Own.{IsAnswer}
use Rattle.query_rules.specs.declared.rule.Rule.{Rule}
use Rattle.reply_text.specs.Replies.{ok_payload}
use Rattle.reply_text.specs.Tables.{row_payload, table_payloads}
use Rattle.router_promises.specs.Errors as error
use Rattle.message_judge.specs.declared.told.OwnError.{OwnError}
use Rattle.message_judge.specs.declared.told.OwnError.TheVariants as own
use Rattle.message_judge.specs.declared.told.Told.{Told}
use Rattle.message_judge.specs.declared.told.Told.TheVariants as told

abbrev pub payload_of : OwnError → List ℕ
payload_of (own.RefusedByRule text) = error.refused_by_rule text
payload_of (own.UnknownStatement number) = error.unknown_statement number
payload_of (own.NoServerIn hostgroup) = error.no_server_in hostgroup.0
payload_of own.DiagnosticsGone = error.diagnostics_gone
payload_of own.NamesConnection = error.names_connection
payload_of own.SetsServer = error.sets_server
payload_of own.TooManyStatements = error.too_many_statements
payload_of own.MalformedCommand = malformed_command
payload_of own.UnknownCommand = unknown_command

abbrev pub payloads_of : (number : ℕ) → Told → List (List ℕ)
payloads_of number told.Nothing = []
payloads_of number (told.Ok status info) = ok_payload status info ∷ []
payloads_of number (told.ConnectionId status) =
    table_payloads status (codes "CONNECTION_ID()" ∷ []) (row_payload (Some (decimal number) ∷ []) ∷ [])
payloads_of number (told.Error why) = payload_of why ∷ []

-- it is in the router's own words, whichever client is told it
abbrev pub IsOwnTold : List Rule → Told → Type 0
IsOwnTold rules told = (c : ClientNo) → IsAnswer rules c (payloads_of c.0 told)
