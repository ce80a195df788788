use Rattle.std.specs.Prelude.{refl}
use Rattle.apart_cases.proofs.judged.sends_a_ping.Goals as goal

pub returns : goal.returns
returns c = λ terms rest route sends. c.sends_another_command.ensures terms _ route sends refl
