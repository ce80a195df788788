use Rattle.step_laws.proofs.Taking.{all_among}
use Rattle.step_laws.proofs.taken.goes_on_among.Goals as goal

pub returns : goal.returns
returns c = λ setup plan view e called tale single passes. all_among setup plan view e called single tale passes
