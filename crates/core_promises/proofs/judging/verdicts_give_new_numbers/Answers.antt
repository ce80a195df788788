use Rattle.core_promises.proofs.Statements.{gives-new}
use Rattle.core_promises.proofs.judging.verdicts_give_new_numbers.Goals as goal

pub returns : goal.returns
returns c = λ book situation keys number text route routed. gives-new book situation keys number text route routed
