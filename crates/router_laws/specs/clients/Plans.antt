-- What a plan has of an entry.
use Rattle.std.specs.Prelude.{◌≡◌, ℕ, suc, Bool, false, true, ◌||◌, ◌&&◌, All, is_some, List, None, Option, Some}
use Rattle.mx_wire.specs.Log.{Log, opened_links}
use Rattle.mx_wire.specs.declared.entry.Entry.{Entry}
use Rattle.client_session.specs.Setups.{Setup as Service}
use Rattle.private_model.specs.Names.{ClientNo}
use Rattle.private_model.specs.Story.{Key, is_client}
use Rattle.private_model.specs.View.{Setup}
use Rattle.link_laws.specs.Stands.{Codes}
use Rattle.log_story.specs.Headline.{tale_of}
use Rattle.log_story.specs.Plan.{Behind, LastWord, Plan, gives_up, word_at}
use Rattle.step_laws.specs.Freed.{Ascend}
use Rattle.step_laws.specs.Steps.{ends_now}
use Rattle.tale_world.specs.Decided.{Decided}
use Rattle.core_stands.specs.Grounds.{Ground}
use Rattle.core_laws.specs.arrival.Comes.{away_word}
use Rattle.core_laws.specs.entry.Cores.{with_entry}
use Rattle.core_laws.specs.entry.Kinds.{IsStill}
use Rattle.core_laws.specs.entry.Tells.{Fits}
use Rattle.core_laws.specs.clients.Chosen.{PlanHas}
use Rattle.core_laws.specs.clients.Following.{IsPartedIn}
use Rattle.core_laws.specs.clients.Follows.{Parting, ends_by}
use Rattle.core_laws.specs.clients.Turns.{Choice, Halt}

-- At the next moment nothing is given up, these are ended, and whoever goes on is told no last word; those are over then.
pub record IsDecided (g : Ground) (whose over : ClientNo → Bool) : Type 0 where
  pub still : All (IsStill g) g.tale.clients
  pub ends : (c : ClientNo) → ends_now g.plan (suc g.tale.moment) c ≡ whose c
  pub overs : (c : ClientNo) → over c ≡ (g.over c || whose c)
  pub wordless : (c : ClientNo) → over c ≡ false → word_at g.plan (suc g.tale.moment) c ≡ None

-- nobody is ended
abbrev pub nobody : ClientNo → Bool
nobody c = false

-- this client alone, if it is

abbrev pub ends_of : ClientNo → (ends : Bool) → ClientNo → Bool
ends_of c ends other = is_client c other && ends

-- Of one client that goes on: its messages from this ordinal on, and how it ends, with a last word behind all if it has one; and links to servers
-- rise by their ids.
pub record PlansTurns (service : Service) (g : Ground) (log : Log) (c : ClientNo) (ordinal : ℕ) (choices : List Choice) (halt : Halt)
    (parting : Parting) (over : ClientNo → Bool) : Type 0 where
  pub decided : IsDecided g (ends_of c (ends_by halt parting)) over
  pub unrouted : g.plan.routes (record { client = c; ordinal = 0 }) ≡ None
  pub chosen : PlanHas choices halt g.setup.keys g.plan (suc g.tale.moment) (record { client = c; ordinal = ordinal })
  pub parted : IsPartedIn parting service g c (suc g.tale.moment)
  pub said : (word : LastWord) → word_at g.plan (suc g.tale.moment) c ≡ Some word → word.place ≡ Behind
  pub rising : Ascend (λ l. l.0) (opened_links log)

-- Of one that ends at once, with no word.
pub record PlansEnd (g : Ground) (log : Log) (c : ClientNo) (over : ClientNo → Bool) : Type 0 where
  pub decided : IsDecided g (ends_of c true) over
  pub unrouted : g.plan.routes (record { client = c; ordinal = 0 }) ≡ None
  pub wordless_now : word_at g.plan (suc g.tale.moment) c ≡ None
  pub rising : Ascend (λ l. l.0) (opened_links log)

-- those who are over by what was decided
abbrev pub over_by : Decided → ClientNo → Bool
over_by d c = is_some (d.ends c)

-- a setup and a plan fit the log with an entry
abbrev pub FitsThen : (keys : (key : ℕ) → Option Key) → Setup → Codes → Plan → (default : List ℕ) → Log → Entry → Type 0
FitsThen keys setup codes plan default log e = Fits keys setup codes plan default (tale_of setup plan (with_entry log e))

-- Of one that comes, and is served, or turned away by that word.

pub record PlansComing (g : Ground) (c : ClientNo) (whose over : ClientNo → Bool) : Type 0 where
  pub decided : IsDecided g whose over
  pub unrouted : g.plan.routes (record { client = c; ordinal = 0 }) ≡ None
  pub kept : gives_up g.plan (suc g.tale.moment) (record { client = c; ordinal = 0 }) ≡ false
  pub going : g.over c ≡ false

pub record PlansAway (g : Ground) (c : ClientNo) (over : ClientNo → Bool) : Type 0 where
  pub coming : PlansComing g c (ends_of c true) over
  pub word : g.plan.words c ≡ Some (away_word (suc g.tale.moment))
