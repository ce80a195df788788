-- Turns of a client by what the verdict says of what came up.
use Rattle.std.specs.Prelude.{◌≡◌, ◌<◌, ◌≤◌, ℕ, is_some, nat_le, true, List, [], ◌∷◌, Option, Some}
use Rattle.std.specs.Option.{option_and_then, option_map}
use Rattle.mx_base.specs.declared.names.ClientNo.{ClientNo}
use Rattle.pin_classifier.specs.Classes.{class_of}
use Rattle.client_session.specs.Answers.{is_quit}
use Rattle.client_session.specs.Setups.{Setup}
use Rattle.client_desk.specs.Desks.{session_of}
use Rattle.client_desk.specs.declared.desk.Desk.{Desk}
use Rattle.stmt_map.specs.Client.{statement_at}
use Rattle.stmt_map.specs.declared.client.ClientStatements.{ClientStatements}
use Rattle.stmt_map.specs.declared.statement.Statement.{Statement}
use Rattle.private_model.specs.Story.{Key}
use Rattle.core_service.specs.Serves.{home_in, rules_in}
use Rattle.core_service.specs.declared.service.Service.{Service}
use Rattle.core_tables.specs.Tables.{Tabled}
use Rattle.core_tables.specs.declared.client.Client.{Client}
use Rattle.core_laws.specs.clients.Found.{desk_up, user_in}
use Rattle.core_laws.specs.clients.Turns.{Answers, Choice, Goes, Halt, HaltsSo, IsTurn, Quits, Turns}
use Rattle.router_promises.specs.Statements.{are_types}
use Rattle.message_judge.specs.declared.caller.Prepared.{Prepared}
use Rattle.core_promises.specs.Administers.{Administered, Makes}
use Rattle.core_promises.specs.Judges.{IsRoutedFor, IsToldFor, Rulebook, Situation}

-- what the core serves by
abbrev pub book_of : Service → Rulebook
book_of service = record { rules = rules_in service; home = home_in service.users; hostgroups = service.hostgroups }

-- What a client prepared under a number, where its key has this text and place; and by the texts that are kept.

abbrev pub known_as : Key → Statement → Prepared
known_as key statement = record {
  text = key.text;
  place = key.place;
  params = statement.prepared.params;
  bound = are_types statement.prepared.params statement.types;
  hostgroup = statement.prepared.hostgroup;
  multiplex = statement.prepared.multiplex;
  class = class_of key.text;
}

abbrev pub known_by : (keys : (key : ℕ) → Option Key) → Statement → Option Prepared
known_by keys statement = option_map (λ (key : Key). known_as key statement) (keys statement.prepared.key)

abbrev pub known_in : (keys : (key : ℕ) → Option Key) → ClientStatements → (number : ℕ) → Option Prepared
known_in keys statements number = option_and_then (known_by keys) (statement_at statements number)

-- what is so of a client by its desk; and by its row before the look at which its message came up

abbrev pub situation_at : (keys : (key : ℕ) → Option Key) → Desk → Situation
situation_at keys desk = record {
  port = desk.seat.port;
  user = user_in desk.seat.phase;
  place = desk.seat.place;
  pins = λ hostgroup. (session_of desk hostgroup).pin;
  homes = λ hostgroup. (session_of desk hostgroup).home;
  statements = known_in keys desk.seat.statements;
  given = λ number. nat_le number desk.seat.statements.last;
}

abbrev pub situation_up : (keys : (key : ℕ) → Option Key) → Setup → (default : List ℕ) → Client → Situation
situation_up keys setup default row = situation_at keys (desk_up setup default row)

-- the rules; the texts that are kept by their numbers, of which those up to `since` were given before the entry; and what administrators work on,
-- before and behind
pub record Ruling : Type 0 where
  pub book : Rulebook
  pub since : ℕ
  pub keys : (key : ℕ) → Option Key
  pub was : Administered
  pub is : Administered

abbrev pub ruling_of : Service → (since : ℕ) → (keys : (key : ℕ) → Option Key) → (was is : Administered) → Ruling
ruling_of service since keys was is = record { book = book_of service; since = since; keys = keys; was = was; is = is }

-- up to a state between, and from it on

abbrev pub until : Ruling → Administered → Ruling
until ruling then = record ruling { is = then }

abbrev pub from : Ruling → Administered → Ruling
from ruling then = record ruling { was = then }

-- nothing was made
abbrev pub MakesNothing : Ruling → Type 0
MakesNothing ruling = ruling.is ≡ ruling.was

-- The text of each statement that a client has is kept since before the entry.

pub record IsKept (since : ℕ) (keys : (key : ℕ) → Option Key) (statement : Statement) : Type 0 where
  pub early : statement.prepared.key ≤ since
  pub there : is_some (keys statement.prepared.key) ≡ true

abbrev pub AreKeptBy : (since : ℕ) → (keys : (key : ℕ) → Option Key) → ClientStatements → Type 0
AreKeptBy since keys statements =
    (number : ℕ) (statement : Statement) → 0 < number → statement_at statements number ≡ Some statement → IsKept since keys statement

abbrev pub AreKept : Ruling → ClientStatements → Type 0
AreKept ruling statements = AreKeptBy ruling.since ruling.keys statements

-- this choice is what the verdict says of a message
abbrev pub IsChoiceFor : Choice → Rulebook → Situation → (keys : (key : ℕ) → Option Key) → ClientNo → (payload : List ℕ) → Type 0
IsChoiceFor (Goes route keyed) book situation keys c payload = IsRoutedFor book situation keys c payload route
IsChoiceFor (Answers payloads) book situation keys c payload = IsToldFor book situation c payload payloads

-- it is so at a turn, where the texts of what its client has prepared are kept
abbrev pub IsRuled : Ruling → (choice : Choice) → (setup : Setup) → (default : List ℕ) → (c : ClientNo) → (old new : Tabled)
    → IsTurn choice setup default c old new → Type 0
IsRuled ruling (Goes route keyed) setup default c old new turn =
    (AreKept ruling (desk_up setup default turn.up.row).seat.statements
    → IsChoiceFor (Goes route keyed) ruling.book (situation_up ruling.keys setup default turn.up.row) ruling.keys c turn.up.message.payload)
    × MakesNothing ruling
IsRuled ruling (Answers payloads) setup default c old new turn =
    (AreKept ruling (desk_up setup default turn.up.row).seat.statements
    → IsChoiceFor (Answers payloads) ruling.book (situation_up ruling.keys setup default turn.up.row) ruling.keys c turn.up.message.payload)
    × Makes (desk_up setup default turn.up.row).seat.port turn.up.message.payload (Some payloads) ruling.was ruling.is

-- who quits says so
abbrev pub SaysItQuits : (halt : Halt) → (setup : Setup) → (default : List ℕ) → (c : ClientNo) → (old new : Tabled)
    → HaltsSo halt setup default c old new → Type 0
SaysItQuits Quits setup default c old new there = is_quit there.up.message.payload ≡ true
SaysItQuits _ setup default c old new there = Unit {0}

abbrev pub AreRuled : Ruling → (choices : List Choice) → (halt : Halt) → (setup : Setup) → (default : List ℕ) → (c : ClientNo) → (old new : Tabled)
    → Turns choices halt setup default c old new → Type 0
AreRuled ruling [] halt setup default c old new turns = SaysItQuits halt setup default c old new turns × MakesNothing ruling
AreRuled ruling (choice ∷ others) halt setup default c old new turns =
    (then : Administered)
    × (IsRuled (until ruling then) choice setup default c old turns.0 turns.1
    × AreRuled (from ruling then) others halt setup default c turns.0 new turns.2)
