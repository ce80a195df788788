use Rattle.std.proofs.Common.{sym, ◌∙◌}
use Rattle.core_promises.proofs.Done.{no-home, way-at}
use Rattle.core_promises.proofs.waiting.forgets_a_statement.Goals as goal

pub returns : goal.returns
returns c = λ terms before client route expects nowhere.
    let way = way-at terms before client route expects in
    no-home way.link (sym way.home ∙ nowhere)
