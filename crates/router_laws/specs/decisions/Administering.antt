-- What administrators made so far.
use Rattle.std.specs.Prelude.{◌≡◌, ◌<◌, ℕ, suc, length, List, None}
use Rattle.mx_wire.specs.Log.{Log}
use Rattle.query_rules.specs.declared.rule.Rule.{Rule}
use Rattle.private_model.specs.Names.{MessageName}
use Rattle.private_model.specs.View.{Setup}
use Rattle.link_laws.specs.Stands.{Codes}
use Rattle.log_story.specs.Headline.{tale_of}
use Rattle.log_story.specs.Owed.{name_of}
use Rattle.log_story.specs.Plan.{Plan, own_at}
use Rattle.log_story.specs.Tale.{Client, first_tale}
use Rattle.step_laws.specs.Seats.{IsSeated}
use Rattle.tale_world.specs.Decided.{Decided}
use Rattle.core_laws.specs.entry.Tells.{Fits, IsOf}
use Rattle.core_promises.specs.Administered.{AdministersAlong, Outcomes}
use Rattle.core_promises.specs.Administers.{Administered}

-- of a message: it is judged by these rules, and where it goes nowhere, this is what it is answered by now
pub record IsOutcome (rules : MessageName → List Rule) (plan : Plan) (moment : ℕ) (outcomes : Outcomes) (name : MessageName) : Type 0 where
  pub judged : outcomes.rules name ≡ rules name
  pub answered : plan.routes name ≡ None → outcomes.answers name ≡ own_at plan moment name

-- of all that was taken up
abbrev pub AreOutcomes : (rules : MessageName → List Rule) → Setup → Plan → Log → Outcomes → Type 0
AreOutcomes rules setup plan log outcomes =
    (client : Client) → IsSeated (tale_of setup plan log) client → (k : ℕ) → k < client.taken
    → IsOutcome rules plan (length log) outcomes (name_of client (suc k))

-- by each plan that has what was decided
abbrev pub AdministersSoFar : (rules : MessageName → List Rule) → (default : List ℕ) → Decided → Log → (first last : Administered) → Type 0
AdministersSoFar rules default d log first last =
    (setup : Setup) (codes : Codes) (plan : Plan) → IsOf d (length log) plan → Fits d.keys setup codes plan default (tale_of setup plan log)
    → (outcomes : Outcomes) → AreOutcomes rules setup plan log outcomes → AdministersAlong outcomes setup plan first_tale log first last
