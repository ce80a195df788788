-- What begins on a link is what the plan has begin there, and what may stand next there.
use Rattle.std.specs.Prelude.{◌≡◌, ℕ, true, false, List, Option, Some, None}
use Rattle.private_model.specs.Commands.{Command, Quit}
use Rattle.private_model.specs.Names.{LinkId, SessionName}
use Rattle.private_model.specs.Story as story
use Rattle.private_model.specs.Story.{Due}
use Rattle.tale_world.specs.Tests.{is_told_key}
use Rattle.log_story.specs.Plan.{Asks, Closes, Resets, StepText}
use Rattle.log_story.specs.Tale.{link_in}
use Rattle.link_state.specs.declared.asking.Asking.{Asking}
use Rattle.link_state.specs.declared.asking.Purpose.{Purpose}
use Rattle.link_state.specs.declared.asking.Purpose.TheVariants as purposes
use Rattle.link_laws.specs.Stands.{IsPurpose}
use Rattle.lent_link.specs.Rests.{may_begin}
use Rattle.lent_link.specs.declared.link.Begins.{Begins}
use Rattle.lent_link.specs.declared.link.Begins.TheVariants as begins
use Rattle.served_link.specs.declared.row.Row.{Row}
use Rattle.row_laws.specs.Begins.{IsReadied}
use Rattle.core_tables.specs.Tables.{Tabled}
use Rattle.core_tables.specs.declared.server.Server.{Server}
use Rattle.core_stands.specs.Grounds.{Ground, view_on}
use Rattle.core_stands.specs.Servers.{keyed_text}

-- The step that the plan has for what begins next is the one that stands there.

abbrev pub planned_on : Ground → LinkId → StepText
planned_on g l = g.plan.steps l (g.tale.wires l).begun

pub record IsPlannedStep (g : Ground) (l : LinkId) (row : Row) (asking : Asking) (question : Command → story.Question) : Type 0 where
  pub command : Command
  pub planned : planned_on g l ≡ Asks command
  pub said : IsReadied g.setup.reads g.codes row (link_in g.setup g.tale l) asking (question command)

abbrev pub IsPlannedFor : Purpose → Ground → LinkId → Row → Asking → Type 0
IsPlannedFor (purposes.Sync n) g l row asking = IsPlannedStep g l row asking (story.Sync n)
IsPlannedFor purposes.Own g l row asking = IsPlannedStep g l row asking story.Own
IsPlannedFor _ g l row asking = Unit {0}

abbrev pub IsPlanned : Option Begins → Ground → LinkId → Row → Type 0
IsPlanned (Some (begins.Asks asking)) g l row = IsPlannedFor asking.purpose g l row asking
IsPlanned (Some (begins.Closes number)) g l row = planned_on g l ≡ Closes number
IsPlanned (Some (begins.Resets number)) g l row = planned_on g l ≡ Resets number
IsPlanned (Some begins.Quits) g l row = planned_on g l ≡ Asks Quit
IsPlanned None g l row = Unit {0}

-- Something may stand next on the link: the router is logged in there, and nothing stands there and no QUIT.
pub record IsOpen (g : Ground) (t : Tabled) (l : LinkId) (server : Server) : Type 0 where
  pub there : t.links l ≡ Some server
  pub entered : (g.tale.wires l).entered ≡ true
  pub free : may_begin server.row.link ≡ true
  pub stays : server.row.link.quits ≡ false

-- The text of what is due may be prepared there: it is that of its key, under this number, and the link was told its place.
pub record IsToPrepare (g : Ground) (l : LinkId) (n : SessionName) (ordinal key : ℕ) (text : List ℕ) : Type 0 where
  pub keyed : (due : Due) → (view_on g).dues n ≡ Some due → due.ordinal ≡ ordinal
      → IsPurpose g.codes (purposes.Prep n ordinal key) (story.Prep n due.key (keyed_text g due))
  pub text_is : (due : Due) → (view_on g).dues n ≡ Some due → due.ordinal ≡ ordinal → text ≡ keyed_text g due
  pub told : (due : Due) → (view_on g).dues n ≡ Some due → due.ordinal ≡ ordinal
      → is_told_key g.setup due.key (keyed_text g due) (link_in g.setup g.tale l).told ≡ true
