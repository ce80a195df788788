-- A plan has what was decided of a client's messages; and what stands behind its turns.
use Rattle.std.specs.Prelude.{◌≡◌, ℕ, suc, Bool, false, List, [], ◌∷◌, Some, None}
use Rattle.client_session.specs.Setups.{Setup as Service}
use Rattle.private_model.specs.Names.{ClientNo, MessageName}
use Rattle.private_model.specs.Story.{Key, Left}
use Rattle.log_story.specs.Owed.{name_of}
use Rattle.log_story.specs.Plan.{Plan, Route, own_at, word_at}
use Rattle.log_story.specs.Tale as tales
use Rattle.log_story.specs.Tale.{Tale, tell}
use Rattle.row_laws.specs.Readied.{AreClasses}
use Rattle.step_laws.specs.Taken.{IsIdle, all_taken}
use Rattle.step_laws.specs.Seats.{IsSeated}
use Rattle.core_tables.specs.Tables.{Tabled}
use Rattle.core_stands.specs.Grounds.{Ground, ending}
use Rattle.core_stands.specs.Stands.{Stands}
use Rattle.core_laws.specs.arrival.Looks.{IsLetIn}
use Rattle.core_laws.specs.entry.Loops.{IsTaking}
use Rattle.core_laws.specs.clients.Turns.{AreKeyed, Choice, Answers, Goes, Halt, Ends, Quits, Rests, Waits}

-- The plan.

pub record IsRouted (plan : Plan) (moment : ℕ) (name : MessageName) (route : Route) : Type 0 where
  pub routed : plan.routes name ≡ Some route
  pub unanswered : own_at plan moment name ≡ None
  pub single : route.mirror ≡ None

pub record IsOwn (plan : Plan) (moment : ℕ) (name : MessageName) (payloads : List (List ℕ)) : Type 0 where
  pub unrouted : plan.routes name ≡ None
  pub answered : own_at plan moment name ≡ Some payloads

abbrev pub IsChosen : Choice → (keys : (number : ℕ) → Key) → Plan → (moment : ℕ) → MessageName → Type 0
IsChosen (Goes route keyed) keys plan moment name = IsRouted plan moment name route × AreKeyed keyed keys
IsChosen (Answers payloads) keys plan moment name = IsOwn plan moment name payloads

-- a COM_QUIT, which goes nowhere, and isn't answered; and who ends is told no last word
pub record IsLast (plan : Plan) (moment : ℕ) (name : MessageName) : Type 0 where
  pub unrouted : plan.routes name ≡ None
  pub unanswered : own_at plan moment name ≡ None
  pub wordless : word_at plan moment name.client ≡ None

abbrev pub IsHaltIn : Halt → Plan → (moment : ℕ) → MessageName → Type 0
IsHaltIn Waits plan moment name = Unit {0}
IsHaltIn Rests plan moment name = Unit {0}
IsHaltIn Quits plan moment name = IsLast plan moment name
IsHaltIn Ends plan moment name = word_at plan moment name.client ≡ None

-- of the messages from this one on
abbrev pub PlanHas : List Choice → Halt → (keys : (number : ℕ) → Key) → Plan → (moment : ℕ) → MessageName → Type 0
PlanHas [] halt keys plan moment name = IsHaltIn halt plan moment name
PlanHas (choice ∷ others) halt keys plan moment name =
    IsChosen choice keys plan moment name × PlanHas others halt keys plan moment (record name { ordinal = suc name.ordinal })

-- A client that goes on is let in as the setup has it, and texts are classed as code does.
pub record IsTurning (service : Service) (default : List ℕ) (first : tales.Client) (from : Tale) (g : Ground) (t : Tabled) (client : tales.Client) : Type 0 where
  pub taking : IsTaking service first from g t client
  pub classes : AreClasses g.setup.reads
  pub let_in : IsLetIn g default client
  pub going : g.over client.number ≡ false
  pub unrouted : g.plan.routes (name_of client 0) ≡ None

-- What stands behind them, once so many messages were taken up: by another tale, and other bytes that weren't looked at.

abbrev pub turned_to : Ground → Tale → (fresh : ClientNo → Bool) → Ground
turned_to g tale fresh = record g { tale = tale; fresh = fresh }

pub record IsStanding (service : Service) (first : tales.Client) (from : Tale) (taken : ℕ) (g : Ground) (now : Tabled) : Type 0 where
  pub client : tales.Client
  pub count : client.taken ≡ taken
  pub tale : Tale
  pub fresh : ClientNo → Bool
  pub taking : IsTaking service first from (turned_to g tale fresh) now client
  pub idle : IsIdle g.setup g.plan tale client
  pub all : all_taken g.setup g.plan first from ≡ tale
  pub unlooked : (other : ClientNo) → g.fresh other ≡ false → fresh other ≡ false

-- one that ended: that was all
pub record IsGone (service : Service) (first : tales.Client) (from : Tale) (taken : ℕ) (g : Ground) (c : ClientNo) (now : Tabled) : Type 0 where
  pub client : tales.Client
  pub count : client.taken ≡ taken
  pub tale : Tale
  pub fresh : ClientNo → Bool
  pub stands : Stands service (ending c (turned_to g (tell (Left c) tale) fresh)) now
  pub seated : IsSeated tale client
  pub number : client.number ≡ first.number
  pub all : all_taken g.setup g.plan first from ≡ tale
  pub unlooked : (other : ClientNo) → g.fresh other ≡ false → fresh other ≡ false

pub record IsLookedFor (service : Service) (first : tales.Client) (from : Tale) (taken : ℕ) (g : Ground) (c : ClientNo) (now : Tabled) : Type 0 where
  pub standing : IsStanding service first from taken g now
  pub looked : standing.fresh c ≡ false

abbrev pub StandsBehind : Halt → Service → tales.Client → Tale → (taken : ℕ) → Ground → ClientNo → Tabled → Type 0
StandsBehind Waits service first from taken g c now = IsLookedFor service first from taken g c now
StandsBehind Rests service first from taken g c now = IsLookedFor service first from taken g c now
StandsBehind Quits service first from taken g c now = IsGone service first from taken g c now
StandsBehind Ends service first from taken g c now = IsGone service first from taken g c now
