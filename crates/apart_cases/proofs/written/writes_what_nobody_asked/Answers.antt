use Rattle.apart_cases.proofs.Kept.{nothing-at}
use Rattle.apart_cases.proofs.written.writes_what_nobody_asked.Goals as goal

pub returns : goal.returns
returns c = λ terms before more link keeps there entered quiet no_step stays some. some (nothing-at terms before more link keeps there entered quiet no_step stays)
