use Rattle.router_laws.proofs.OfQuiet.Staying.{with_marks}
use Rattle.router_laws.proofs.quiet.quiet.marks_router.Goals as goal

pub returns : goal.returns
returns c = λ service texts admin log marks t roomy router are few.
    with_marks service texts admin t roomy
    (λ before e stands may quiet drained. c.quiets_router.ensures service texts admin before e t roomy stands may quiet drained) log marks router are few
