use Rattle.router_laws.proofs.OfQuiet.Making.{no_machine}
use Rattle.router_laws.proofs.quiet.quiet.quiet_router.Goals as goal

pub returns : goal.returns
returns c = λ service texts admin log e t roomy router may quiet drained.
    c.quiets_router.ensures service texts admin log e t roomy router may (no_machine e quiet) drained
