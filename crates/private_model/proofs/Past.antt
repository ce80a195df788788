-- The past of a lawful, honest story is one too.
use Rattle.std.specs.Prelude.{[], ◌∷◌, ◌++◌}
use Rattle.private_model.specs.Commands.{Step}
use Rattle.private_model.specs.Honest.{IsHonest}
use Rattle.private_model.specs.Lawful.{IsLawful}
use Rattle.private_model.specs.Story.{Story}
use Rattle.private_model.specs.View.{Setup}

pub lawful_before : (setup : Setup) (later past : Story) → IsLawful setup (later ++ past) → IsLawful setup past
lawful_before setup [] past lawful = lawful
lawful_before setup (e ∷ later) past lawful = lawful_before setup later past lawful.0

pub honest_before : (setup : Setup) (step : Step) (later past : Story) → IsHonest setup step (later ++ past) → IsHonest setup step past
honest_before setup step [] past honest = honest
honest_before setup step (e ∷ later) past honest = honest_before setup step later past honest.0
