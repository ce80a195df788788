-- The core with all that is carried from entry to entry.
use Rattle.core_promises.specs.Administered.{IsFirst}
use Rattle.core_promises.specs.Administers.{Administered}
use Rattle.std.specs.Prelude.{◌≡◌, ◌<◌, ◌||◌, ℕ, Bool, is_some, length, List, Option, None, Some}
use Rattle.mx_wire.specs.Log.{Log, is_open}
use Rattle.mx_wire.specs.Moments.{AllLawful}
use Rattle.mx_wire.specs.Tells.{MayFollow}
use Rattle.mx_wire.specs.declared.entry.Entry.{Entry}
use Rattle.core_service.specs.declared.service.Service.{Service}
use Rattle.core_texts.specs.Texts.{key_at, noted_at}
use Rattle.core_texts.specs.declared.texts.Texts.{Texts}
use Rattle.client_session.specs.Setups.{Setup as Serving}
use Rattle.query_rules.specs.Passing.{rules_of}
use Rattle.query_rules.specs.declared.rule.Rule.{Rule}
use Rattle.private_model.specs.Names.{ClientNo, LinkId, MessageName}
use Rattle.private_model.specs.Story.{Key}
use Rattle.private_model.specs.View.{Setup}
use Rattle.link_laws.specs.Stands.{Codes}
use Rattle.log_story.specs.Headline.{tale_of}
use Rattle.log_story.specs.Plan.{Plan}
use Rattle.tale_world.specs.Decided.{Decided}
use Rattle.core_tables.specs.Tables.{Tabled}
use Rattle.core_stands.specs.Stands.{Rests}
use Rattle.core_laws.specs.entry.Cores.{GoesOn, with_entry}
use Rattle.core_laws.specs.entry.Dues.{AreWrittenTo}
use Rattle.core_laws.specs.entry.Safe.{IsSafe}
use Rattle.core_laws.specs.entry.Tells.{Fits, IsCore, IsOf, ground}
use Rattle.router_laws.specs.decisions.Deeds.{AreToldBy, Counts, Deeds, counts_with, decided_with}
use Rattle.router_promises.specs.Terms.{Terms, plan_in, setup_in}
use Rattle.core_promises.specs.Waits.{AreDoneBy, WaitsSo}
use Rattle.core_promises.specs.Causes.{CausedBy}
use Rattle.core_promises.specs.Endings.{EndedBy}
use Rattle.core_promises.specs.Judges.{JudgesBy}
use Rattle.core_promises.specs.Ruled.{book_of}
use Rattle.router_laws.specs.decisions.Administering.{AdministersSoFar}
use Rattle.router_laws.specs.decisions.Held.{AreHeldBy, AreHeldSince}
use Rattle.router_laws.specs.decisions.Noted.{AreNotedBy}
use Rattle.router_laws.specs.decisions.Speaks.{DecidesOwn}
use Rattle.router_laws.specs.decisions.Plans.{AreUngiven, PlansSo}
use Rattle.router_laws.specs.decisions.Records.{AreCountsBy, AreCountsOf, IsRecorded}

-- just the links that are open have a row
abbrev pub AreOpenJust : Log → Tabled → Type 0
AreOpenJust log t = (l : LinkId) → is_open l log ≡ (is_some (t.links l) || is_some (t.numbers l))

-- What stands under a number was decided so; and of numbers that are yet to be given nothing was decided.
pub record AreKnown (texts : Texts) (keys : (number : ℕ) → Option Key) : Type 0 where
  pub told : (number : ℕ) (key : Key) → key_at texts number ≡ Some key → keys number ≡ Some key
  pub later : (number : ℕ) → texts.last < number → keys number ≡ None

pub record IsRouter (service : Service) (texts : Texts) (admin : Administered) (log : Log) (t : Tabled) (roomy : ClientNo → Bool) : Type 0 where
  pub core : IsCore service.setup service.default_schema log t roomy
  pub counts : Counts
  pub recorded : IsRecorded core.decided counts log
  pub counted : AreCountsBy service.default_schema core.decided counts log
  pub known : AreKnown texts core.decided.keys
  pub lawful : AllLawful MayFollow log
  pub open_just : AreOpenJust log t
  pub rules : MessageName → List Rule
  pub first : Administered
  pub began : IsFirst (rules_of service.configured) first
  pub administers : AdministersSoFar rules service.default_schema core.decided log first admin
  pub spoken : DecidesOwn rules core.decided
  pub waited : AreDoneBy service.default_schema core.decided log
  pub judged : JudgesBy (book_of service) rules service.default_schema core.decided log
  pub held : AreHeldBy (key_at texts) service.default_schema core.decided log
  pub noted : AreNotedBy (noted_at texts) service.default_schema core.decided log
  pub caused : CausedBy service.wait_ms service.default_schema core.decided log
  pub ended : EndedBy service.buffer_budget service.default_schema core.decided log

-- as an entry goes on, by which texts came: those that clients may still name were kept before
pub record IsLearned (service : Service) (texts : Texts) (admin : Administered) (log : Log) (t : Tabled) (roomy : ClientNo → Bool) : Type 0 where
  pub router : IsRouter service texts admin log t roomy
  pub since : AreHeldSince texts service.default_schema router.core.decided log

-- where the entry is a wait, all is done
abbrev pub WaitsThen : Service → Log → Entry → Decided → Type 0
WaitsThen service log e d =
    (terms : Terms) (codes : Codes) → IsOf d (length log) (plan_in terms)
    → Fits d.keys (setup_in terms) codes (plan_in terms) service.default_schema (tale_of (setup_in terms) (plan_in terms) log) → WaitsSo terms log e

-- By one setup and plan the core goes on with an entry, and the counts of its deeds are those of the tale.
pub record GoesSo (service : Serving) (setup : Setup) (codes : Codes) (plan : Plan) (log : Log) (e : Entry) (d : Decided) (n : Counts) (deeds : Deeds)
    (t now : Tabled) (roomy room : ClientNo → Bool) : Type 0 where
  pub goes : GoesOn service setup codes plan log e d (decided_with deeds n log e d) t now roomy room
  pub counts : AreCountsOf (counts_with deeds n log e) (tale_of setup plan (with_entry log e))

-- by each that has what is decided then, and fits
abbrev pub GoesSoBy : Serving → (default : List ℕ) → Log → Entry → Decided → Counts → Deeds → (t now : Tabled) → (roomy room : ClientNo → Bool) → Type 0
GoesSoBy service default log e d n deeds t now roomy room =
    (setup : Setup) (codes : Codes) (plan : Plan) → IsOf (decided_with deeds n log e d) (length (with_entry log e)) plan
    → Fits (decided_with deeds n log e d).keys setup codes plan default (tale_of setup plan (with_entry log e))
    → GoesSo service setup codes plan log e d n deeds t now roomy room

-- What there was before an entry, by one setup and plan of what is decided behind it; and the plan has its deeds.
pub record IsBefore (service : Service) (texts : Texts) (admin : Administered) (log : Log) (e : Entry) (t : Tabled) (roomy : ClientNo → Bool)
    (router : IsRouter service texts admin log t roomy) (deeds : Deeds) (setup : Setup) (codes : Codes) (plan : Plan) : Type 0 where
  pub of : IsOf router.core.decided (length log) plan
  pub fits : Fits router.core.decided.keys setup codes plan service.default_schema (tale_of setup plan log)
  pub rests : Rests service.setup (ground setup codes plan router.core.decided log) t roomy
  pub written : AreWrittenTo (ground setup codes plan router.core.decided log) log
  pub safe : IsSafe setup plan log
  pub counts : AreCountsOf router.counts (tale_of setup plan log)
  pub so : AreToldBy router.core.decided.keys deeds
      → AreUngiven (ground setup codes plan router.core.decided log) (λ c. is_some (deeds.given c))
      → PlansSo (ground setup codes plan router.core.decided log) log e deeds
