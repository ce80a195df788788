-- The laws of single fields make the promise.
use Rattle.std.specs.Prelude.{Bool, true, false, [], ◌∷◌, ◌++◌}
use Rattle.mx_base.specs.declared.names.LinkId.{LinkId}
use Rattle.mx_base.specs.declared.tag.Tag.{Tag}
use Rattle.mx_base.specs.declared.tag.Tag.TheVariants as tags
use Rattle.mx_wire.specs.Log.{Log}
use Rattle.mx_wire.specs.Moments.{AllLawful, LawfulAfter}
use Rattle.mx_wire.specs.declared.entry.Entry.{Entry}
use Rattle.mx_wire.specs.declared.entry.Entry.TheVariants as entry
use Rattle.private_model.specs.Commands.{FieldList, InitDb, Prepare, Query, Quit, ReadId, Reset, Run, SetId}
use Rattle.log_story.specs.Plan.{Asks, Closes, Resets, StepText}
use Rattle.log_story.specs.Servers.{may_begin}
use Rattle.router_promises.specs.GivenUp.{GivesUpSo}
use Rattle.router_promises.specs.Now.{Now, now_at, wire_now}
use Rattle.router_promises.specs.Rest.{IsAtRest, RestsSo}
use Rattle.router_promises.specs.Steps.{MayStep, MayStepAs, MayStepFor, StepsSo}
use Rattle.router_promises.specs.Terms.{Terms, plan_in, setup_in}
use Rattle.shared_router.specs.Given.{GivenUpSo, RefusesOneSo}
use Rattle.shared_router.specs.Kept.{EndsSeries, EndsSeriesAs, EndsSeriesFor, EndsSeriesSo, LeavesFewSo}
use Rattle.shared_router.specs.Leads.{IsWantedThere, LeadsAs, LeadsFor, LeadsSo}
use Rattle.shared_router.specs.Rests.{CalmSo, IsCalm, LogsInSo, SaysLogin}
use Rattle.shared_router.specs.Sends.{MaySay, SendsAs, SendsFor, SendsSo}
use Rattle.shared_router.specs.Waited.{AreDone, AreRead, AreTold, AreUnbroken, AreWhole, AreWorked, AsItWaits, AskNothing, ServesAll, WakesSo}

-- rules together

abbrev pub Both : (Log → Entry → Type 0) → (Log → Entry → Type 0) → Log → Entry → Type 0
Both P Q log e = P log e × Q log e

both-from : (P Q : Log → Entry → Type 0) (before later : Log) → LawfulAfter P before later → LawfulAfter Q before later → LawfulAfter (Both P Q) before later
both-from P Q before [] one other = tt
both-from P Q before (e ∷ later) one other = ((one.0, other.0), both-from P Q (before ++ e ∷ []) later one.1 other.1)

pub both : (P Q : Log → Entry → Type 0) (log : Log) → AllLawful P log → AllLawful Q log → AllLawful (Both P Q) log
both P Q log one other = both-from P Q [] log one other

so-from : (P Q : Log → Entry → Type 0) → ((log : Log) (e : Entry) → P log e → Q log e) → (before later : Log) → LawfulAfter P before later → LawfulAfter Q before later
so-from P Q each before [] all = tt
so-from P Q each before (e ∷ later) all = (each before e all.0, so-from P Q each (before ++ e ∷ []) later all.1)

-- Steps.

module _ (terms : Terms) (log : Log) (now : Now) (link : LinkId) where
  step_there : (step : StepText) → MaySay terms log now link step → IsWantedThere terms now link step → EndsSeries terms now link step → MayStep terms log now link step
  step_there (Asks Quit) says wants ends = says
  step_there (Asks (Query text)) says wants ends = record { wanted = wants; series = ends }
  step_there (Asks (InitDb schema)) says wants ends = record { wanted = wants; series = ends }
  step_there (Asks (FieldList rest)) says wants ends = record { wanted = wants; series = ends }
  step_there (Asks (SetId number)) says wants ends = record { wanted = wants; series = ends }
  step_there (Asks ReadId) says wants ends = record { wanted = wants; series = ends }
  step_there (Asks (Prepare text)) says wants ends = record { wanted = wants; series = ends }
  step_there (Asks (Run text schema settings args)) says wants ends = record { wanted = wants; series = ends }
  step_there (Asks Reset) says wants ends = record { wanted = wants; series = ends }
  step_there (Closes number) says wants ends = wants
  step_there (Resets number) says wants ends = says

  step_for : (step : StepText) (tag : Tag) → SendsFor terms log now link step tag → LeadsFor terms now link step tag → EndsSeriesFor terms now link step tag
      → MayStepFor terms log now link step tag
  step_for step tags.Own sends leads ends = step_there step sends leads ends
  step_for step (tags.Sync client hostgroup) sends leads ends = step_there step sends leads ends
  step_for step (tags.For client ordinal) sends leads ends = sends
  step_for step (tags.Prep client ordinal) sends leads ends = leads
  step_for step (tags.End client hostgroup) sends leads ends = sends
  step_for step (tags.Mirror client ordinal) sends leads ends = tt
  step_for step tags.Reply sends leads ends = tt

  step_as : (tag : Tag) (begins : Bool) → SendsAs terms log now link tag begins → LeadsAs terms now link tag begins → EndsSeriesAs terms now link tag begins
      → MayStepAs terms log now link tag begins
  step_as tag true sends leads ends = step_for ((plan_in terms).steps link (wire_now now link).begun) tag sends leads ends
  step_as tag false sends leads ends = tt

abbrev Stepping : Terms → Log → Entry → Type 0
Stepping terms = Both (Both (SendsSo terms) (LeadsSo terms)) (EndsSeriesSo terms)

step_by : (terms : Terms) (log : Log) (e : Entry) → Stepping terms log e → StepsSo terms log e
step_by terms log (entry.Wrote link tag bytes) all =
    λ there. step_as terms log (now_at terms log) link tag (may_begin (setup_in terms) link (wire_now (now_at terms log) link) (now_at terms log).tale)
    (all.0.0 there) (all.0.1 there) (all.1 there)
step_by terms log _ all = tt

pub steps_kept : (terms : Terms) (log : Log) → AllLawful (SendsSo terms) log → AllLawful (LeadsSo terms) log → AllLawful (EndsSeriesSo terms) log → AllLawful (StepsSo terms) log
steps_kept terms log sends leads ends =
    so-from (Stepping terms) (StepsSo terms) (step_by terms) [] log
    (both (Both (SendsSo terms) (LeadsSo terms)) (EndsSeriesSo terms) log (both (SendsSo terms) (LeadsSo terms) log sends leads) ends)

-- What is given up.

pub gives_up_kept : (terms : Terms) (log : Log) → AllLawful (GivenUpSo terms) log → AllLawful (RefusesOneSo terms) log → AllLawful (LeavesFewSo terms) log → AllLawful (GivesUpSo terms) log
gives_up_kept terms log each single few =
    so-from (Both (Both (GivenUpSo terms) (RefusesOneSo terms)) (LeavesFewSo terms)) (GivesUpSo terms)
    (λ before e all. record { each = all.0.0; single = all.0.1; few = all.1 }) [] log
    (both (Both (GivenUpSo terms) (RefusesOneSo terms)) (LeavesFewSo terms) log (both (GivenUpSo terms) (RefusesOneSo terms) log each single) few)

-- Rest.

module _ (terms : Terms)
    (parts : (log : Log) (now : Now) → IsCalm terms log now → AreRead terms log now → AreTold terms log now → ((link : LinkId) → SaysLogin terms log now link)
    → AreUnbroken terms log now → AreWhole terms log now → AskNothing terms log now → AreDone terms log now → IsAtRest terms log now) where
  abbrev Calm : Log → Entry → Type 0
  Calm = Both (CalmSo terms) (LogsInSo terms)

  abbrev Heard : Log → Entry → Type 0
  Heard = Both (AsItWaits AreRead terms) (AsItWaits AreTold terms)

  abbrev Asked : Log → Entry → Type 0
  Asked = Both (AsItWaits AreUnbroken terms) (Both (AsItWaits AreWhole terms) (AsItWaits AskNothing terms))

  abbrev Done : Log → Entry → Type 0
  Done = Both (Both (AsItWaits AreWorked terms) (AsItWaits ServesAll terms)) (WakesSo terms)

  abbrev Resting : Log → Entry → Type 0
  Resting = Both (Both Calm Heard) (Both Asked Done)

  done_by : (log : Log) → AreWorked terms log (now_at terms log) → ServesAll terms log (now_at terms log) → AreDone terms log (now_at terms log)
  done_by log worked served = record { clients = worked; idle = served }

  rest_by : (log : Log) (e : Entry) → Resting log e → RestsSo terms log e
  rest_by log (entry.Woke until_ms now_ms) all = record {
    rests = parts log (now_at terms log) all.0.0.0 all.0.1.0 all.0.1.1 all.0.0.1 all.1.0.0 all.1.0.1.0 all.1.0.1.1 (done_by log all.1.1.0.0 all.1.1.0.1);
    until = all.1.1.1;
  }
  rest_by log entry.WaitFailed all =
      parts log (now_at terms log) all.0.0.0 all.0.1.0 all.0.1.1 all.0.0.1 all.1.0.0 all.1.0.1.0 all.1.0.1.1 (done_by log all.1.1.0.0 all.1.1.0.1)
  rest_by log entry.Over all = parts log (now_at terms log) all.0.0.0 all.0.1.0 all.0.1.1 all.0.0.1 all.1.0.0 all.1.0.1.0 all.1.0.1.1 (done_by log all.1.1.0.0 all.1.1.0.1)
  rest_by log _ all = tt

  pub rests_kept : (log : Log) → AllLawful (CalmSo terms) log → AllLawful (LogsInSo terms) log → AllLawful (AsItWaits AreRead terms) log → AllLawful (AsItWaits AreTold terms) log
      → AllLawful (AsItWaits AreUnbroken terms) log → AllLawful (AsItWaits AreWhole terms) log → AllLawful (AsItWaits AskNothing terms) log → AllLawful (AsItWaits AreWorked terms) log
      → AllLawful (AsItWaits ServesAll terms) log → AllLawful (WakesSo terms) log → AllLawful (RestsSo terms) log
  rests_kept log calm login read told unbroken whole none worked served wakes =
      so-from Resting (RestsSo terms) rest_by [] log
      (both (Both Calm Heard) (Both Asked Done) log
      (both Calm Heard log (both (CalmSo terms) (LogsInSo terms) log calm login) (both (AsItWaits AreRead terms) (AsItWaits AreTold terms) log read told))
      (both Asked Done log
      (both (AsItWaits AreUnbroken terms) (Both (AsItWaits AreWhole terms) (AsItWaits AskNothing terms)) log unbroken (both (AsItWaits AreWhole terms) (AsItWaits AskNothing terms) log whole none))
      (both (Both (AsItWaits AreWorked terms) (AsItWaits ServesAll terms)) (WakesSo terms) log
      (both (AsItWaits AreWorked terms) (AsItWaits ServesAll terms) log worked served) wakes)))
