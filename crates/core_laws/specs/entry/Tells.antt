-- What a core says of a log: its tables stand for the log's tale, and the log is safe, by each plan that has what was decided.
use Rattle.std.specs.Prelude.{◌≡◌, ◌<◌, ◌||◌, ℕ, Bool, true, false, All, is_some, length, List, Option, Some, None}
use Rattle.mx_wire.specs.Log.{Log}
use Rattle.mx_wire.specs.Tells.{IsOpen}
use Rattle.client_seat.specs.Seats.{first_place}
use Rattle.client_session.specs.Answers.{account, opening_of}
use Rattle.client_session.specs.Setups.{Setup as Service}
use Rattle.client_side.specs.Login.{Opening, Says}
use Rattle.server_side.specs.Account.{Account as Login}
use Rattle.private_model.specs.Names.{ClientNo, LinkId, MessageName}
use Rattle.private_model.specs.Story.{Key}
use Rattle.private_model.specs.View.{Setup}
use Rattle.link_laws.specs.Stands.{Codes}
use Rattle.row_laws.specs.Readied.{AreClasses}
use Rattle.log_story.specs.Headline.{tale_of}
use Rattle.log_story.specs.Owed.{talk_of}
use Rattle.log_story.specs.Plan.{LastWord, Plan, Route}
use Rattle.log_story.specs.Servers.{logged_in_as}
use Rattle.log_story.specs.Tale.{Client, Tale}
use Rattle.tale_world.specs.Decided.{Agrees, Decided}
use Rattle.core_tables.specs.Tables.{Tabled}
use Rattle.core_stands.specs.Grounds.{Ground}
use Rattle.core_stands.specs.Stands.{Rests}
use Rattle.core_laws.specs.entry.Dues.{AreWrittenTo}
use Rattle.core_laws.specs.entry.Safe.{IsSafe}

-- A plan that has what was decided until a moment, the last words to clients too.
pub record IsOf (d : Decided) (moment : ℕ) (plan : Plan) : Type 0 where
  pub agrees : Agrees d moment plan
  pub told : (c : ClientNo) (word : LastWord) → d.words c ≡ Some word → plan.words c ≡ Some word
  pub untold : (c : ClientNo) (word : LastWord) → d.words c ≡ None → plan.words c ≡ Some word → moment < word.from

-- A setup fits: it classes texts as code does, the keys of texts are code's numbers and are those that were decided, and a client that is logged
-- in is who it says, and begins where it says. No copies are made.

abbrev pub IsWhoItSays : Setup → Plan → (default : List ℕ) → Client → Opening → Type 0
IsWhoItSays setup plan default client (Says switched response id rest) =
    (login : Login) → account (talk_of plan client) ≡ Some login
    → (setup.accounts client.number ≡ logged_in_as login) × (setup.places client.number ≡ first_place default response)
IsWhoItSays setup plan default client _ = Unit {0}

abbrev pub AreWhoTheySay : Setup → Plan → (default : List ℕ) → List Client → Type 0
AreWhoTheySay setup plan default clients =
    All (λ (client : Client). IsWhoItSays setup plan default client (opening_of (talk_of plan client))) clients

pub record Fits (keys : (key : ℕ) → Option Key) (setup : Setup) (codes : Codes) (plan : Plan) (default : List ℕ) (tale : Tale) : Type 0 where
  pub classes : AreClasses setup.reads
  pub named : (key : ℕ) → codes key ≡ Some key
  pub keyed : (k : ℕ) (key : Key) → keys k ≡ Some key → setup.keys k ≡ key
  pub who : AreWhoTheySay setup plan default tale.clients
  pub single : (m : MessageName) (route : Route) → plan.routes m ≡ Some route → route.mirror ≡ None

-- by what was decided those ended whose end was, and nobody's bytes are left to look at
abbrev pub ground : Setup → Codes → Plan → Decided → Log → Ground
ground setup codes plan d log = record {
  setup = setup;
  codes = codes;
  plan = plan;
  tale = tale_of setup plan log;
  over = λ c. is_some (d.ends c);
  fresh = λ c. false;
}

-- a link that is open has a row
abbrev pub AreOpen : Log → Tabled → Type 0
AreOpen log t = (l : LinkId) → IsOpen l log → (is_some (t.links l) || is_some (t.numbers l)) ≡ true

abbrev pub RestsBy : Service → (default : List ℕ) → Decided → Log → Tabled → (roomy : ClientNo → Bool) → Type 0
RestsBy service default d log t roomy =
    (setup : Setup) (codes : Codes) (plan : Plan) → IsOf d (length log) plan → Fits d.keys setup codes plan default (tale_of setup plan log)
    → Rests service (ground setup codes plan d log) t roomy

abbrev pub IsSafeBy : (default : List ℕ) → Decided → Log → Type 0
IsSafeBy default d log =
    (setup : Setup) (codes : Codes) (plan : Plan) → IsOf d (length log) plan → Fits d.keys setup codes plan default (tale_of setup plan log)
    → IsSafe setup plan log

abbrev pub AreWrittenBy : (default : List ℕ) → Decided → Log → Type 0
AreWrittenBy default d log =
    (setup : Setup) (codes : Codes) (plan : Plan) → IsOf d (length log) plan → Fits d.keys setup codes plan default (tale_of setup plan log)
    → AreWrittenTo (ground setup codes plan d log) log

-- By what the router serves, and the schema in which a client begins that names none.
pub record IsCore (service : Service) (default : List ℕ) (log : Log) (t : Tabled) (roomy : ClientNo → Bool) : Type 0 where
  pub decided : Decided
  pub rests : RestsBy service default decided log t roomy
  pub safe : IsSafeBy default decided log
  pub written : AreWrittenBy default decided log
  pub opened : AreOpen log t
