use Rattle.core_laws.proofs.OfEntry.Safely.{says_last, unbroken}
use Rattle.core_laws.proofs.entry.cores.lawful_unbroken.Goals as goal

pub returns : goal.returns
returns c = record { lawful = unbroken; says = says_last }
