use Rattle.std.specs.Prelude.{[]}
use Rattle.core_promises.proofs.Texts.{answered-so}
use Rattle.core_promises.proofs.judging.answers_nothing.Goals as goal

pub returns : goal.returns
returns c = λ terms text answers. answered-so terms text [] answers
