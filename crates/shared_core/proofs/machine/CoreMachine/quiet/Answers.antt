use Rattle.shared_core.proofs.Standing.{quiet_carries}
use Rattle.shared_core.proofs.machine.CoreMachine.quiet.Goals as goal

pub returns : goal.returns
returns c = quiet_carries c.quiet_router.ensures
