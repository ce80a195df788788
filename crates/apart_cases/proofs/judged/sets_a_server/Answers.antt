use Rattle.std.specs.Prelude.{refl}
use Rattle.pin_classifier.specs.declared.class.Refusal.TheVariants.{SetsServer}
use Rattle.apart_cases.proofs.OnClasses.{on_classes}
use Rattle.apart_cases.proofs.judged.sets_a_server.Goals as goal

pub returns : goal.returns
unfolding on_classes
returns c = λ terms payload asks. c.sends_what_is_refused.ensures terms payload _ SetsServer asks refl
