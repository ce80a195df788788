-- What administrators are answered, and what they make of the staged rows and of the rules in force.
use Rattle.std.specs.Prelude.{◌≡◌, ◌⊎◌, ℕ, All, List, [], ◌∷◌, map, None, Option, Some}
use Rattle.client_session.specs.Errors.{malformed_command, unknown_command}
use Rattle.mx_base.specs.declared.names.Port.{Port}
use Rattle.mx_base.specs.declared.names.Port.TheVariants.{Admin, Traffic}
use Rattle.query_rules.specs.Building.{IsCompiled, IsInOrder}
use Rattle.query_rules.specs.declared.row.RuleRow.{RuleRow}
use Rattle.query_rules.specs.declared.rule.Rule.{Rule}
use Rattle.reply_text.specs.Replies.{ok_payload}
use Rattle.admin_port.specs.Answers.{IsAnswered, Reply, refusal_for}
use Rattle.admin_port.specs.Answers.Reply.{Refused, Loads}
use Rattle.admin_port.specs.Commands.{IsCommand}
use Rattle.admin_port.specs.Payloads.{reply_payloads, status}
use Rattle.admin_port.specs.Staged.{StagedRows}
use Rattle.admin_port.specs.declared.command.AdminCommand.{AdminCommand}
use Rattle.admin_port.specs.declared.command.AdminCommand.TheVariants.{Query, Ping, Quit, Malformed, Unknown}
use Rattle.admin_port.specs.declared.running.Running.{Running}
use Rattle.admin_port.specs.declared.statement.StagedTable.{StagedTable}
use Rattle.admin_port.specs.declared.statement.StagedTable.TheVariants as tables

-- What administrators work on: the rows that are staged, and the rules in force.
pub record Administered : Type 0 where
  pub staged : StagedRows
  pub rules : List Rule

-- the rules of staged rows
pub record AreRulesOf (staged : List RuleRow) (rules : List Rule) : Type 0 where
  pub ordered : IsInOrder staged (map (λ (rule : Rule). rule.row) rules)
  pub compiled : All IsCompiled rules

-- Rows that are put in force are so, or are refused for their table.
abbrev pub IsDone : (wanted reply : Reply) → Type 0
IsDone (Loads table) reply = (reply ≡ Loads table) ⊎ (reply ≡ Refused (refusal_for table))
IsDone wanted reply = reply ≡ wanted

-- A LOAD of rules that is answered by an OK puts the staged ones in force; nothing else changes which are.

abbrev pub IsPutInForce : StagedTable → (was is : Administered) → Type 0
IsPutInForce tables.Rules was is = AreRulesOf is.staged.rules is.rules
IsPutInForce tables.Servers was is = is.rules ≡ was.rules

abbrev pub Forces : Reply → (was is : Administered) → Type 0
Forces (Loads table) was is = IsPutInForce table was is
Forces reply was is = is.rules ≡ was.rules

-- A statement's answer is the one on the rows that are staged, and on what the router runs by; it stages what it says, and puts in force what it loads.
pub record IsStatementAnswer (text : List ℕ) (was is : Administered) (reply : Reply) : Type 0 where
  pub running : Running
  pub wanted : Reply
  pub answered : IsAnswered text was.staged running (is.staged, wanted)
  pub done : IsDone wanted reply
  pub forces : Forces reply was is

abbrev pub IsReplyOf : (text : List ℕ) → (was is : Administered) → (payloads : List (List ℕ)) → Type 0
IsReplyOf text was is payloads = (reply : Reply) × (IsStatementAnswer text was is reply × (payloads ≡ reply_payloads reply))

-- and so are commands, which change nothing: a QUIT has none

abbrev pub IsPlainAnswer : (was is : Administered) → (payload : List ℕ) → (payloads : List (List ℕ)) → Type 0
IsPlainAnswer was is payload payloads = (payloads ≡ payload ∷ []) × (is ≡ was)

abbrev pub IsCommandAnswer : AdminCommand → (was is : Administered) → (payloads : List (List ℕ)) → Type 0
IsCommandAnswer (Query text) was is payloads = IsReplyOf text.now was is payloads
IsCommandAnswer Ping was is payloads = IsPlainAnswer was is (ok_payload status []) payloads
IsCommandAnswer Malformed was is payloads = IsPlainAnswer was is malformed_command payloads
IsCommandAnswer Unknown was is payloads = IsPlainAnswer was is unknown_command payloads
IsCommandAnswer Quit was is payloads = ⊥

abbrev pub IsAdminAnswer : (payload : List ℕ) → (was is : Administered) → (payloads : List (List ℕ)) → Type 0
IsAdminAnswer payload was is payloads = (command : AdminCommand) × (IsCommand payload command × IsCommandAnswer command was is payloads)

-- What a message of a client of this port makes that is answered by these, if it is: an administrator's what it says, and all else nothing.
abbrev pub Makes : Port → (payload : List ℕ) → (answer : Option (List (List ℕ))) → (was is : Administered) → Type 0
Makes Traffic payload answer was is = is ≡ was
Makes Admin payload None was is = is ≡ was
Makes Admin payload (Some payloads) was is = IsAdminAnswer payload was is payloads
