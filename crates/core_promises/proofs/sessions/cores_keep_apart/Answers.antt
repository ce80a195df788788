use Rattle.core_promises.proofs.Apart.{apart}
use Rattle.core_promises.proofs.sessions.cores_keep_apart.Goals as goal

pub returns : goal.returns
returns c = λ router log t roomy core classes single rules administers judges speaks caused ended waited fits.
    apart router log t roomy core classes single rules administers judges speaks caused ended waited fits
