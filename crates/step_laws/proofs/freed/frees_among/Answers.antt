use Rattle.step_laws.proofs.Giving.{among}
use Rattle.step_laws.proofs.freed.frees_among.Goals as goal

pub returns : goal.returns
returns c = λ setup plan touched tale none. among setup plan touched tale.links tale none
