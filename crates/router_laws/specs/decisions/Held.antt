-- That the texts are kept which clients may still name.
use Rattle.std.specs.Prelude.{◌≡◌, ◌<◌, ℕ, suc, false, true, All, if◌then◌else◌, is_some, length, nat_le, List, Option, None, Some}
use Rattle.mx_wire.specs.Log.{Log}
use Rattle.private_model.specs.Names.{ClientNo}
use Rattle.private_model.specs.Story.{Key}
use Rattle.private_model.specs.View.{Setup}
use Rattle.link_laws.specs.Stands.{Codes}
use Rattle.log_story.specs.Clients.{is_answered}
use Rattle.log_story.specs.Executes.{Prepared}
use Rattle.log_story.specs.Headline.{tale_of}
use Rattle.log_story.specs.Owed.{name_of}
use Rattle.log_story.specs.Plan.{Plan, Route}
use Rattle.log_story.specs.Tale.{Client, Tale, view_of}
use Rattle.router_promises.specs.Statements.{known_statement}
use Rattle.tale_world.specs.Decided.{Decided}
use Rattle.core_texts.specs.Texts.{key_at}
use Rattle.core_texts.specs.declared.texts.Texts.{Texts}
use Rattle.client_desk.specs.declared.work.Work.{Work}
use Rattle.stmt_map.specs.Client.{statement_at}
use Rattle.stmt_map.specs.declared.statement.Statement.{Statement}
use Rattle.core_tables.specs.Tables.{Tabled}
use Rattle.core_tables.specs.declared.client.Client.{Client as Row}
use Rattle.core_laws.specs.clients.Going.{Going}
use Rattle.core_laws.specs.entry.Tells.{Fits, IsOf}

-- The text of each statement that a client knows is kept, and so is that of what is being prepared for it.
pub record IsHeld (keys : (number : ℕ) → Option Key) (setup : Setup) (plan : Plan) (tale : Tale) (client : Client) : Type 0 where
  pub known : (number : ℕ) (made : Prepared) → 0 < number → known_statement (view_of setup tale) plan client number (suc client.taken) ≡ Some made
      → is_some (keys made.key) ≡ true
  pub asked : (route : Route) → plan.routes (name_of client client.taken) ≡ Some route → 0 < route.number
      → is_answered plan tale (view_of setup tale) client client.taken ≡ false → is_some (keys route.key) ≡ true

-- of each client that goes on
abbrev pub AreHeld : (keys : (number : ℕ) → Option Key) → Decided → Setup → Plan → Tale → Type 0
AreHeld keys d setup plan tale =
    All (λ (client : Client). is_some (d.ends client.number) ≡ false → IsHeld keys setup plan tale client) tale.clients

-- by each plan that has what was decided
abbrev pub AreHeldBy : (keys : (number : ℕ) → Option Key) → (default : List ℕ) → Decided → Log → Type 0
AreHeldBy keys default d log =
    (setup : Setup) (codes : Codes) (plan : Plan) → IsOf d (length log) plan → Fits d.keys setup codes plan default (tale_of setup plan log)
    → AreHeld keys d setup plan (tale_of setup plan log)

-- those of numbers that were given before an entry
abbrev pub keys_since : (since : ℕ) → (keys : (number : ℕ) → Option Key) → (number : ℕ) → Option Key
keys_since since keys number = if nat_le number since then keys number else None

-- they were kept as the entry began
abbrev pub AreHeldSince : Texts → (default : List ℕ) → Decided → Log → Type 0
AreHeldSince texts default d log = AreHeldBy (keys_since texts.since (key_at texts)) default d log

-- where a client goes on
abbrev pub AreHeldFor : Option Going → Texts → (default : List ℕ) → Decided → Log → Type 0
AreHeldFor None texts default d log = Unit {0}
AreHeldFor (Some going) texts default d log = AreHeldSince texts default d log

-- What is forgotten is no row's text: of what its client prepared, and of its statement in work.
pub record KeepsTexts (old new : Texts) (t : Tabled) : Type 0 where
  pub statements : (c : ClientNo) (row : Row) (number : ℕ) (statement : Statement) → t.clients c ≡ Some row
      → statement_at row.desk.seat.statements number ≡ Some statement → key_at new statement.prepared.key ≡ key_at old statement.prepared.key
  pub works : (c : ClientNo) (row : Row) (work : Work) → t.clients c ≡ Some row → row.desk.work ≡ Some work → key_at new work.key ≡ key_at old work.key
