-- What each worked log is.
use Rattle.std.specs.Prelude.{◌≡◌}
use Rattle.mx_wire.specs.Log.{Log}
use Rattle.private_model.specs.Lawful.{IsLawful}
use Rattle.private_model.specs.Story.{Story}
use Rattle.small_server.specs.Stories.{setup}
use Rattle.log_story.specs.Headline.{HasPrivateBytes}
use Rattle.log_story.specs.Honest.{IsHonestLog}
use Rattle.log_story.specs.Plan.{Plan}
use Rattle.log_story.specs.Telling.{story_of}
use Rattle.log_cases.specs.Worked.{server}

-- It tells this story, which is lawful, and it is honest; so its bytes are private.
pub record IsWorked (plan : Plan) (log : Log) (story : Story) : Type 0 where
  pub told : story_of setup plan log ≡ story
  pub lawful : IsLawful setup story
  pub honest : IsHonestLog setup plan server log
  pub private : HasPrivateBytes setup plan server log
