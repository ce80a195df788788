-- What the router decided, of which no byte tells; and what it writes.
use Rattle.std.specs.Prelude.{ℕ, ◌+◌, ◌*◌, ◌%◌, ◌/◌, Bool, false, nat_eq, nat_le, nat_lt, List, [], ◌∷◌, if◌then◌else◌, Option, Some, None}
use Rattle.std.specs.Option.{option_and_then, option_map_or}
use Rattle.server_side.specs.Account.{Account}
use Rattle.client_session.specs.Setups.{Setup as Service}
use Rattle.server_rule.specs.Texts.{read_id_text, set_id_text}
use Rattle.private_model.specs.Names.{ClientNo, Hostgroup, LinkId, MessageName}
use Rattle.private_model.specs.Commands.{Command, Query, InitDb, FieldList, SetId, ReadId, Prepare, Run, Reset, Quit}

-- Where a message of a client goes, its text as rules rewrite it, and where a copy of it goes; of a STMT_PREPARE also the key of
-- its text, and the number by which the client knows what it prepared.
pub record Route : Type 0 where
  pub hostgroup : Hostgroup
  pub text : Option (List ℕ)
  pub key : ℕ
  pub number : ℕ
  pub multiplex : Option Bool
  pub mirror : Option Hostgroup

-- What the router itself answers, maybe nothing, and from which entry of the log on, counted from 1: 0 for a message that it
-- answers as it takes it up, and a later one for a message that it gives up.
pub record OwnAnswer : Type 0 where
  pub from : ℕ
  pub payloads : List (List ℕ)

-- The last that a client is told, where it stands for no message: an ERR, or nothing; alone, for a client that is turned away, in
-- place of the answer to its login, or behind all that it was answered; and from which entry of the log on.

pub data WordPlace : Type 0 where
  Alone : WordPlace
  ForLogin : WordPlace
  Behind : WordPlace

pub record LastWord : Type 0 where
  pub from : ℕ
  pub place : WordPlace
  pub payloads : List (List ℕ)

-- a step: a command, a STMT_CLOSE or a STMT_RESET of a number
pub data StepText : Type 0 where
  Asks : Command → StepText
  Closes : (number : ℕ) → StepText
  Resets : (number : ℕ) → StepText

-- By what clients log in; how many bytes for a client are unwritten while its messages wait; who logs in on each link to a
-- server; where each message goes, if it goes to a server; what the router answers itself; at which entry it ends a client, and
-- its last word to it; and which step it is that begins as so many questions were begun on a link.
pub record Plan : Type 0 where
  pub service : Service
  pub room : ℕ
  pub logins : LinkId → Account
  pub routes : MessageName → Option Route
  pub own : MessageName → Option OwnAnswer
  pub ends : ClientNo → Option ℕ
  pub words : ClientNo → Option LastWord
  pub steps : LinkId → (begun : ℕ) → StepText

-- after so many entries
abbrev pub own_at : Plan → (moment : ℕ) → MessageName → Option (List (List ℕ))
own_at plan moment message = option_and_then (λ answer. if nat_le answer.from moment then Some answer.payloads else None) (plan.own message)

-- the last word to a client, by then
abbrev pub word_at : Plan → (moment : ℕ) → ClientNo → Option LastWord
word_at plan moment client = option_and_then (λ (word : LastWord). if nat_le word.from moment then Some word else None) (plan.words client)

abbrev pub is_now : (moment : ℕ) → Option ℕ → Bool
is_now moment at = option_map_or (λ n. nat_eq n moment) at false

-- it was at an entry before, or is at this one
abbrev pub is_by_now : (moment : ℕ) → Option ℕ → Bool
is_by_now moment at = option_map_or (λ n. nat_le n moment) at false

-- it is given up at this entry
abbrev pub gives_up : Plan → (moment : ℕ) → MessageName → Bool
gives_up plan moment message = option_map_or (λ (answer : OwnAnswer). nat_eq answer.from moment) (plan.own message) false

-- it was at an entry before
abbrev pub is_before : (moment : ℕ) → Option ℕ → Bool
is_before moment at = option_map_or (λ n. nat_lt n moment) at false

-- The copy of a message is a job, which is a client of its own. Clients have numbers of 64 bits, and ordinals count from 1.
abbrev pub job_of : MessageName → ClientNo
job_of message = record { 0 = message.ordinal * 18446744073709551616 + message.client.0 }

-- the first bytes of commands, where they are written and read (client/server protocol, "Command Phase")

abbrev pub com_init_db : ℕ
com_init_db = 0x02

abbrev pub com_query : ℕ
com_query = 0x03

abbrev pub com_field_list : ℕ
com_field_list = 0x04

abbrev pub com_prepare : ℕ
com_prepare = 0x16

abbrev pub com_execute : ℕ
com_execute = 0x17

abbrev pub com_long_data : ℕ
com_long_data = 0x18

abbrev pub com_statement_reset : ℕ
com_statement_reset = 0x1A

abbrev pub com_reset : ℕ
com_reset = 0x1F

-- The payload of a command, but for an execute.

abbrev pub text_payload : Command → List ℕ
text_payload (Query text) = com_query ∷ text
text_payload (InitDb schema) = com_init_db ∷ schema
text_payload (FieldList rest) = com_field_list ∷ rest
text_payload (SetId n) = com_query ∷ set_id_text n.value
text_payload ReadId = com_query ∷ read_id_text
text_payload (Prepare text) = com_prepare ∷ text
text_payload (Run text schema settings args) = []
text_payload Reset = com_reset ∷ []
text_payload Quit = 0x01 ∷ []

-- a command for the prepared statement of a number
abbrev pub with_number : (byte number : ℕ) → List ℕ
with_number byte number = byte ∷ number % 256 ∷ number / 256 % 256 ∷ number / 65536 % 256 ∷ number / 16777216 % 256 ∷ []

abbrev pub step_payload : StepText → List ℕ
step_payload (Asks command) = text_payload command
step_payload (Closes number) = with_number 0x19 number
step_payload (Resets number) = with_number com_statement_reset number
