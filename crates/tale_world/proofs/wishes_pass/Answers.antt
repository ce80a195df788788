use Rattle.std.specs.Option.{option_map_or}
use Rattle.std.proofs.Common.{ap, refl}
use Rattle.log_story.specs.Plan.{StepText}
use Rattle.std.specs.Prelude.{Option}
use Rattle.tale_world.specs.Wishes.{Says, Sends}
use Rattle.tale_world.proofs.wishes_pass.Goals as goal

pub returns : goal.returns
returns c = record {
  closed = λ setup story link number quiet. quiet;
  reset = λ setup story link number. refl;
  sends = λ link standing question none. ap (λ (o : Option StepText). option_map_or (λ text. Says text) o (Sends question)) none;
}
