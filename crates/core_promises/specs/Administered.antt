-- What administrators make along a log of the staged rows, and of the rules in force.
use Rattle.std.specs.Prelude.{◌≡◌, ◌-◌, ℕ, zero, suc, length, slice_get, List, [], ◌∷◌, Option, None, Some}
use Rattle.std.specs.Option.{option_map_or}
use Rattle.mx_base.specs.declared.names.Port.{Port}
use Rattle.mx_wire.specs.Log.{Log}
use Rattle.packet_frame.specs.Packets.{Framed}
use Rattle.query_rules.specs.declared.rule.Rule.{Rule}
use Rattle.private_model.specs.Names.{MessageName}
use Rattle.private_model.specs.View.{Setup}
use Rattle.link_laws.specs.Stands.{Codes}
use Rattle.log_story.specs.Headline.{tale_of}
use Rattle.log_story.specs.Owed.{messages, name_of}
use Rattle.log_story.specs.Plan.{Plan, own_at}
use Rattle.log_story.specs.Tale.{Client, Tale, first_tale}
use Rattle.log_story.specs.Telling.{tale_step}
use Rattle.tale_world.specs.Decided.{Decided}
use Rattle.core_laws.specs.clients.Found.{IsAmong}
use Rattle.core_laws.specs.entry.Tells.{Fits, IsOf}
use Rattle.router_promises.specs.Takings.{Taking, takings_at}
use Rattle.core_promises.specs.Administers.{Administered, AreRulesOf, Makes}

-- By which rules each message is judged, and by what the router answers it, if it does.
pub record Outcomes : Type 0 where
  pub rules : MessageName → List Rule
  pub answers : MessageName → Option (List (List ℕ))

-- by now
abbrev pub outcomes_at : (rules : MessageName → List Rule) → Plan → (moment : ℕ) → Outcomes
outcomes_at rules plan moment = record { rules = rules; answers = own_at plan moment }

-- what a message makes, where there is one
abbrev pub MakesIf : Option Framed → Port → (answer : Option (List (List ℕ))) → (was is : Administered) → Type 0
MakesIf None port answer was is = is ≡ was
MakesIf (Some message) port answer was is = Makes port message.payload answer was is

-- A message of a client that is taken up, as one of these: it is judged by these rules, and makes what it says.
pub record IsTaken (outcomes : Outcomes) (plan : Plan) (takings : List Taking) (force : List Rule) (client : Client) (k : ℕ) (was is : Administered) : Type 0 where
  pub judged : outcomes.rules (name_of client (suc k)) ≡ force
  pub taking : Taking
  pub among : IsAmong takings (name_of client (suc k)) taking
  pub makes : MakesIf (slice_get (messages plan client) k) taking.client.port (outcomes.answers (name_of client (suc k))) was is

-- and so are so many from one on, one after the other
abbrev pub AreTaken : Outcomes → Plan → (takings : List Taking) → (force : List Rule) → Client → (k count : ℕ) → (was is : Administered) → Type 0
AreTaken outcomes plan takings force client k zero was is = is ≡ was
AreTaken outcomes plan takings force client k (suc count) was is =
    (then : Administered) × (IsTaken outcomes plan takings force client k was then × AreTaken outcomes plan takings force client (suc k) count then is)

-- All that an entry takes up: of each client what it wasn't taken up of before, in the order of the clients.
abbrev pub AllTaken : Outcomes → Plan → (takings : List Taking) → (force : List Rule) → (before now : List Client) → (was is : Administered) → Type 0
AllTaken outcomes plan takings force before [] was is = is ≡ was
AllTaken outcomes plan takings force [] (client ∷ clients) was is =
    (then : Administered) × (AreTaken outcomes plan takings force client 0 client.taken was then × AllTaken outcomes plan takings force [] clients then is)
AllTaken outcomes plan takings force (old ∷ before) (client ∷ clients) was is =
    (then : Administered)
    × (AreTaken outcomes plan takings force client old.taken (client.taken - old.taken) was then × AllTaken outcomes plan takings force before clients then is)

-- how many messages were taken up before of the client of this place
abbrev pub taken_at : (before : List Client) → (i : ℕ) → ℕ
taken_at before i = option_map_or (λ (client : Client). client.taken) (slice_get before i) 0

-- Along a log: at each entry by the rules that were in force before it.
abbrev pub AdministersAlong : Outcomes → Setup → Plan → Tale → Log → (was is : Administered) → Type 0
AdministersAlong outcomes setup plan tale [] was is = is ≡ was
AdministersAlong outcomes setup plan tale (e ∷ log) was is =
    (then : Administered)
    × (AllTaken outcomes plan (takings_at setup plan tale e) was.rules tale.clients (tale_step setup plan tale e).clients was then
    × AdministersAlong outcomes setup plan (tale_step setup plan tale e) log then is)

-- At first the configuration's rules are in force, and staged.
pub record IsFirst (configured : List Rule) (first : Administered) : Type 0 where
  pub force : first.rules ≡ configured
  pub staged : AreRulesOf first.staged.rules configured

-- So it is along the log, from the first.
pub record Administers (outcomes : Outcomes) (setup : Setup) (plan : Plan) (configured : List Rule) (log : Log) : Type 0 where
  pub first : Administered
  pub began : IsFirst configured first
  pub last : Administered
  pub along : AdministersAlong outcomes setup plan first_tale log first last

-- by each plan that has what was decided
abbrev pub AdministersBy : (rules : MessageName → List Rule) → (default : List ℕ) → Decided → (configured : List Rule) → Log → Type 0
AdministersBy rules default d configured log =
    (setup : Setup) (codes : Codes) (plan : Plan) → IsOf d (length log) plan → Fits d.keys setup codes plan default (tale_of setup plan log)
    → Administers (outcomes_at rules plan (length log)) setup plan configured log
