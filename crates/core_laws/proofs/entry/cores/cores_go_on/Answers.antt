use Rattle.core_laws.proofs.OfEntry.Onward.{core_goes_on}
use Rattle.core_laws.proofs.entry.cores.cores_go_on.Goals as goal

pub returns : goal.returns
returns c = λ service default log e t now roomy room new core more goes opened.
    core_goes_on service default log e t now roomy room new core more goes opened
