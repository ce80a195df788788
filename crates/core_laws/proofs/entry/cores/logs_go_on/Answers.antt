use Rattle.core_laws.proofs.OfEntry.Safely.{log_goes_on}
use Rattle.core_laws.proofs.entry.cores.logs_go_on.Goals as goal

pub returns : goal.returns
returns c = λ service setup codes plan d log e t safe safely stands silent written.
    log_goes_on service setup codes plan d log e t safe safely stands silent written
