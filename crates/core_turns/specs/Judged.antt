-- What a message can be of which this becomes.
use Rattle.std.specs.Prelude.{◌≡◌, ◌<◌, ◌⊎◌, ◌&&◌, ℕ, Bool, true, false, is_none, length, nat_eq, nat_le, not, slice_index_or, drop, if◌then◌else◌, List, Option, Some, None}
use Rattle.std.specs.Option.{option_and_then}
use Rattle.mx_base.specs.declared.names.ClientNo.{ClientNo}
use Rattle.mx_base.specs.declared.names.Hostgroup.{Hostgroup}
use Rattle.pin_classifier.specs.Classes.{class_of}
use Rattle.pin_classifier.specs.declared.class.Class.{Class}
use Rattle.query_rules.specs.Effects.{is_first_flag}
use Rattle.query_rules.specs.declared.rule.Rule.{Rule}
use Rattle.server_rule.specs.Classes.{Reads, router_reads}
use Rattle.private_model.specs.Commands.{Command, is_marked}
use Rattle.private_model.specs.Story.{Key}
use Rattle.log_story.specs.Executes.{given_in}
use Rattle.log_story.specs.Plan.{Route, com_execute, com_field_list, com_init_db, com_prepare, com_reset}
use Rattle.link_state.specs.Asks.{marks}
use Rattle.link_state.specs.Classes.{use_class}
use Rattle.link_state.specs.declared.asking.Form.{Form}
use Rattle.link_state.specs.declared.asking.Form.TheVariants as forms
use Rattle.link_state.specs.declared.wish.Command.TheVariants.{Plain}
use Rattle.link_laws.specs.Stands.{IsForm}
use Rattle.desk_laws.specs.Stands.{is_text, kind_of}
use Rattle.row_laws.specs.Readied.{AreClasses}
use Rattle.client_seat.specs.Requests.{Says, text_in}
use Rattle.client_session.specs.Answers.{is_quit}
use Rattle.router_promises.specs.Statements.{execute_size}
use Rattle.router_promises.specs.Verdicts.{Goes, Tells, Verdict as Promised, unplaced}
use Rattle.message_judge.specs.Drafts.{draft_of}
use Rattle.message_judge.specs.Judging.{judged}
use Rattle.message_judge.specs.Told.{IsOwnTold, payloads_of}
use Rattle.message_judge.specs.declared.caller.Caller.{Caller}
use Rattle.message_judge.specs.declared.caller.Prepared.{Prepared}
use Rattle.message_judge.specs.declared.caller.Standing.{Standing}
use Rattle.message_judge.specs.declared.draft.ClassOf.{ClassOf}
use Rattle.message_judge.specs.declared.draft.ClassOf.TheVariants as classes
use Rattle.message_judge.specs.declared.draft.Draft.{Draft}
use Rattle.message_judge.specs.declared.draft.Going.{Going}
use Rattle.core_promises.specs.Judges.{IsTransaction, IsVerdictFor, Rulebook, Situation}
use Rattle.core_promises.specs.Statements.{number_named}
use Rattle.core_turns.specs.declared.judged.Named.{Named}
use Rattle.core_turns.specs.declared.judged.Verdict.{Verdict}
use Rattle.core_turns.specs.declared.judged.Verdict.TheVariants as verdicts

abbrev pub byte_of : (payload : List ℕ) → ℕ
byte_of payload = slice_index_or payload 0 0

-- What goes to a server, and how what has no text stands on a link: the choice of a schema has the class of a USE.

abbrev pub form_by : (payload : List ℕ) → Form
form_by payload = if nat_eq (byte_of payload) com_init_db then forms.Text (use_class (drop 1 payload)) else forms.Fields

abbrev pub sent_text : Hostgroup → (text : Option (List ℕ)) → (multiplex : Option Bool) → (number : Option ℕ) → Class → Verdict
sent_text hostgroup (Some text) multiplex (Some number) class = verdicts.Prepares hostgroup text multiplex class
sent_text hostgroup (Some text) multiplex None class = verdicts.Sends hostgroup (Some text) multiplex (forms.Text class)
sent_text hostgroup None multiplex number class = verdicts.Sends hostgroup None multiplex (forms.Text class)

abbrev pub sent_plain : Hostgroup → (multiplex : Option Bool) → (payload : List ℕ) → Verdict
sent_plain hostgroup multiplex payload = verdicts.Sends hostgroup None multiplex (form_by payload)

abbrev pub sent_own : (payload : List ℕ) → Going → ClassOf → Verdict
sent_own payload going (classes.Own class) = sent_text going.hostgroup going.text going.multiplex going.number class
sent_own payload going _ = sent_plain going.hostgroup going.multiplex payload

abbrev pub sent_by : (payload : List ℕ) → Going → Option Named → Verdict
sent_by payload going (Some named) = verdicts.Runs going.hostgroup going.multiplex named
sent_by payload going None = sent_own payload going going.class

-- It asks for something that is sent as a text, and stands so on a link.
pub record IsSendable (payload : List ℕ) (text : Option (List ℕ)) (form : Form) : Type 0 where
  pub command : Command
  pub asks : text_in payload text ≡ Some (Says command)
  pub kind : kind_of command ≡ Plain
  pub says : is_text command ≡ true
  pub formed : (reads : Reads) → AreClasses reads → IsForm reads form command
  pub marked : (reads : Reads) → AreClasses reads → is_marked reads command ≡ marks form

-- it has no text: the choice of a schema, or the question for a table's columns
abbrev pub IsPlain : (payload : List ℕ) → Type 0
IsPlain payload = (nat_eq (byte_of payload) com_init_db ≡ true) ⊎ (nat_eq (byte_of payload) com_field_list ≡ true)

-- It executes a statement: its NULLs are there, and its types, or these were bound before.

abbrev pub is_whole : Prepared → (payload : List ℕ) → Bool
is_whole known payload =
    nat_le (execute_size known.params payload) (length payload)
    && not (not (nat_eq known.params 0) && (is_none (given_in known.params payload).types && not known.bound))

abbrev pub IsExecute : Prepared → (payload : List ℕ) → Type 0
IsExecute known payload = (nat_eq (byte_of payload) com_execute ≡ true) × (is_whole known payload ≡ true)

-- the client doesn't begin anew by it
abbrev pub IsNoReset : (payload : List ℕ) → Type 0
IsNoReset payload = nat_eq (byte_of payload) com_reset ≡ false

-- and says that it quits
abbrev pub SaysQuit : (payload : List ℕ) → Type 0
SaysQuit payload = IsNoReset payload × (is_quit payload ≡ true)

-- where it names this
abbrev pub IsVerdictOn : Option Named → (payload : List ℕ) → Verdict → Type 0
IsVerdictOn named payload verdicts.Quits = SaysQuit payload
IsVerdictOn named payload (verdicts.Answers told) = Unit {0}
IsVerdictOn named payload (verdicts.Sends hostgroup text multiplex form) = IsSendable payload text form
IsVerdictOn named payload (verdicts.Prepares hostgroup text multiplex class) = (nat_eq (byte_of payload) com_prepare ≡ true) × (class ≡ class_of text)
IsVerdictOn named payload (verdicts.Runs hostgroup multiplex one) = (named ≡ Some one) × IsExecute one.prepared payload

-- What is answered is in the router's own words.
abbrev pub IsOwnVerdict : List Rule → Verdict → Type 0
IsOwnVerdict rules (verdicts.Answers told) = IsOwnTold rules told
IsOwnVerdict rules _ = Unit {0}

-- What becomes of a message is what the promise's verdict says.

-- something that may be known of its client, of which this is so, makes this draft: its next number, and what it prepared that the message names
pub record IsDraftFor (book : Rulebook) (situation : Situation) (next : Option ℕ) (c : ClientNo) (payload : List ℕ) (prepared : Option Prepared) (draft : Draft) : Type 0 where
  pub caller : Caller
  pub standing : Standing
  pub client : caller.number ≡ c
  pub login : caller.user ≡ situation.user
  pub home : caller.home ≡ book.home situation.user
  pub place : caller.place ≡ situation.place
  pub transaction : IsTransaction book situation standing.transaction
  pub next_is : standing.next_number ≡ next
  pub flag : is_first_flag book.rules caller.flag ≡ true
  pub named : (one : Prepared) → prepared ≡ Some one → option_and_then situation.statements (number_named payload) ≡ Some one
  pub known : (number : ℕ) (one : Prepared) → number_named payload ≡ Some number → 0 < number → situation.statements number ≡ Some one → prepared ≡ Some one
  pub number : (n : ℕ) → next ≡ Some n → situation.given n ≡ false
  pub is : draft_of caller prepared draft ≡ (judged router_reads book.rules caller standing prepared payload).draft

abbrev pub route_by : Hostgroup → (text : Option (List ℕ)) → (multiplex : Option Bool) → Route
route_by hostgroup text multiplex = record { hostgroup = hostgroup; text = text; key = 0; number = 0; multiplex = multiplex; mirror = None }

-- it goes by this route; this is to stand under its key
abbrev pub goes_with : Route → Option Key → Promised
goes_with route key = Goes (record { route = route; key = key })

-- it is prepared under the client's next number
pub record IsPreparedSo (book : Rulebook) (situation : Situation) (next : Option ℕ) (c : ClientNo) (payload : List ℕ) (hostgroup : Hostgroup) (text : List ℕ) (multiplex : Option Bool)
    : Type 0 where
  pub number : ℕ
  pub next_is : next ≡ Some number
  pub ruled : IsVerdictFor book situation c payload
      (goes_with (record (route_by hostgroup (Some text) multiplex) { number = number }) (Some (record { text = text; place = situation.place })))

abbrev pub IsAsPromised : Rulebook → Situation → (next : Option ℕ) → ClientNo → (payload : List ℕ) → Verdict → Type 0
IsAsPromised book situation next c payload verdicts.Quits = Unit {0}
IsAsPromised book situation next c payload (verdicts.Answers told) = IsVerdictFor book situation c payload (Tells (payloads_of c.0 told))
IsAsPromised book situation next c payload (verdicts.Sends hostgroup text multiplex form) =
    IsVerdictFor book situation c payload (goes_with (route_by hostgroup text multiplex) None)
IsAsPromised book situation next c payload (verdicts.Prepares hostgroup text multiplex class) =
    IsPreparedSo book situation next c payload hostgroup text multiplex
IsAsPromised book situation next c payload (verdicts.Runs hostgroup multiplex named) =
    IsVerdictFor book situation c payload
    (goes_with (route_by hostgroup None multiplex)
    (unplaced named.prepared.place.schema (record { text = named.prepared.text; place = named.prepared.place }) situation.place.schema))
