use Rattle.core_promises.proofs.Made.{quiet_all}
use Rattle.core_promises.proofs.administering.changes_its_rules.Goals as goal

pub returns : goal.returns
returns c = λ outcomes plan takings force before now was is all quiet changes. changes (quiet_all outcomes plan takings force quiet before now was is all)
