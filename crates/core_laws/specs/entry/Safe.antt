-- What makes a log safe: each entry that begins a question passed its test, servers tell bytes, what is written on links is
-- what there is to say there, and what is written to clients is due.
use Rattle.std.specs.Prelude.{◌≡◌, false}
use Rattle.mx_wire.specs.Log.{Log}
use Rattle.mx_wire.specs.Moments.{AtEachMoment}
use Rattle.private_model.specs.View.{Setup}
use Rattle.log_story.specs.Headline.{WritesDue, tale_of}
use Rattle.log_story.specs.Plan.{Plan}
use Rattle.log_story.specs.Said.{IsSaidLog}
use Rattle.log_story.specs.Telling.{story_of}
use Rattle.tale_world.specs.Tested.{IsTested, has_broken}
use Rattle.run_laws.specs.Tells.{TellsBytes}

pub record IsSafe (setup : Setup) (plan : Plan) (log : Log) : Type 0 where
  pub tested : IsTested setup plan log
  pub unbroken : has_broken (story_of setup plan log) ≡ false
  pub told : TellsBytes (tale_of setup plan log)
  pub said : IsSaidLog setup plan log
  pub written : AtEachMoment (WritesDue setup plan) log
