use Rattle.shared_core.proofs.machine.CoreMachine.lends.Goals as goal

pub returns : goal.returns
returns c = λ machine log link sent stands off is. tt
