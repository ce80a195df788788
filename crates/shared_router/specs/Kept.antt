-- What is left of the promise, beside what is a law of each log that the router makes.
use Rattle.std.specs.Prelude.{◌≡◌, Bool, true, false}
use Rattle.mx_base.specs.declared.tag.Tag.{Tag}
use Rattle.mx_base.specs.declared.tag.Tag.TheVariants as tags
use Rattle.mx_wire.specs.Log.{Log}
use Rattle.mx_wire.specs.Moments.{AllLawful}
use Rattle.mx_wire.specs.declared.entry.Entry.{Entry}
use Rattle.mx_wire.specs.declared.entry.Entry.TheVariants.{Wrote}
use Rattle.private_model.specs.Commands.{Quit}
use Rattle.private_model.specs.Names.{LinkId}
use Rattle.log_story.specs.Plan.{Asks, StepText}
use Rattle.log_story.specs.Servers.{may_begin}
use Rattle.log_story.specs.Tale.{is_to_server}
use Rattle.router_promises.specs.GivenUp.{LeavesFew}
use Rattle.router_promises.specs.Now.{Now, next, now_at, wire_now}
use Rattle.router_promises.specs.Steps.{IsInSeries}
use Rattle.router_promises.specs.Terms.{Terms, plan_in, setup_in}
use Rattle.router_promises.specs.Uses.{kind_of_step}

-- a series of steps ends

abbrev pub EndsSeries : Terms → Now → LinkId → StepText → Type 0
EndsSeries terms now link (Asks Quit) = Unit {0}
EndsSeries terms now link (Asks command) = IsInSeries terms now link (kind_of_step command)
EndsSeries terms now link _ = Unit {0}

abbrev pub EndsSeriesFor : Terms → Now → LinkId → StepText → Tag → Type 0
EndsSeriesFor terms now link step tags.Own = EndsSeries terms now link step
EndsSeriesFor terms now link step (tags.Sync client hostgroup) = EndsSeries terms now link step
EndsSeriesFor terms now link step _ = Unit {0}

abbrev pub EndsSeriesAs : Terms → Now → LinkId → Tag → (begins : Bool) → Type 0
EndsSeriesAs terms now link tag true = EndsSeriesFor terms now link ((plan_in terms).steps link (wire_now now link).begun) tag
EndsSeriesAs terms now link tag false = Unit {0}

abbrev pub EndsSeriesBy : Terms → Now → Entry → Type 0
EndsSeriesBy terms now (Wrote link tag bytes) =
    is_to_server now.tale link ≡ true → EndsSeriesAs terms now link tag (may_begin (setup_in terms) link (wire_now now link) now.tale)
EndsSeriesBy terms now _ = Unit {0}

abbrev pub EndsSeriesSo : Terms → Log → Entry → Type 0
EndsSeriesSo terms log e = EndsSeriesBy terms (now_at terms log) e

-- of the statements that waited too long no more are left at a wake than there are links for them
abbrev pub LeavesFewSo : Terms → Log → Entry → Type 0
LeavesFewSo terms log e = LeavesFew terms log (next terms (now_at terms log) e) e

-- Series of steps end.
pub record IsRest (terms : Terms) (log : Log) : Type 0 where
  pub series_end : AllLawful (EndsSeriesSo terms) log
