-- What a core stands for: a tale, by one setup and one plan.
use Rattle.std.specs.Prelude.{◌≡◌, ℕ, Some, Bool, false, not, ◌&&◌, ◌||◌}
use Rattle.client_seat.specs.Stands.{Known}
use Rattle.private_model.specs.Names.{ClientNo, LinkId}
use Rattle.private_model.specs.Story.{is_client}
use Rattle.private_model.specs.View.{Setup, View}
use Rattle.link_laws.specs.Stands.{Codes}
use Rattle.log_story.specs.Plan.{Plan, is_by_now}
use Rattle.log_story.specs.Tale.{Tale, first_tale, view_of}

-- code has the law's keys for numbers
abbrev pub AreNamed : Codes → Type 0
AreNamed codes = (key : ℕ) → codes key ≡ Some key

-- `codes` are the numbers that code has for the law's keys; `over` says who ended, and `fresh` of whom bytes were read that weren't looked at.
pub record Ground : Type 0 where
  pub setup : Setup
  pub codes : Codes
  pub plan : Plan
  pub tale : Tale
  pub over : ClientNo → Bool
  pub fresh : ClientNo → Bool

abbrev pub view_on : Ground → View
view_on g = view_of g.setup g.tale

-- what the router knows by now
abbrev pub known_on : Ground → Known
known_on g = record { plan = g.plan; view = view_on g; moment = g.tale.moment }

-- the same with another tale
abbrev pub on : Ground → Tale → Ground
on g tale = record g { tale = tale }

abbrev pub first_ground : Setup → Codes → Plan → Ground
first_ground setup codes plan = record { setup = setup; codes = codes; plan = plan; tale = first_tale; over = λ c. false; fresh = λ c. false }

-- one more ended
abbrev pub ending : ClientNo → Ground → Ground
ending c g = record g { over = λ other. is_client c other || g.over other }

-- bytes were read of one more, and looked at

abbrev pub freshened : ClientNo → Ground → Ground
freshened c g = record g { fresh = λ other. is_client c other || g.fresh other }

abbrev pub looked_at : ClientNo → Ground → Ground
looked_at c g = record g { fresh = λ other. not (is_client c other) && g.fresh other }

-- the plan has ended just these by now
abbrev pub AreOver : Ground → Type 0
AreOver g = (c : ClientNo) → g.over c ≡ is_by_now g.tale.moment (g.plan.ends c)
