use Rattle.core_laws.proofs.OfEntry.Safely.{core_of_none}
use Rattle.core_laws.proofs.entry.cores.first_core.Goals as goal

pub returns : goal.returns
returns c = λ service default roomy.
    core_of_none service default roomy
    (λ setup codes plan served room ends. c.first_stands.ensures service setup codes plan roomy served room ends)
