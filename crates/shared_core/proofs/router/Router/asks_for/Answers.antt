use Rattle.shared_core.proofs.Acting.{opens_acts}
use Rattle.marked_tables.proofs.Going.{still_goes}
use Rattle.shared_core.proofs.router.Router.asks_for.Goals as goal

pub returns-in-Opens-clause-acts : goal.returns-in-Opens-clause-acts
returns-in-Opens-clause-acts c = opens_acts c.args.self.now c.in-Opens.asked c.requires.closed

pub returns-in-Opens-clause-goes : goal.returns-in-Opens-clause-goes
returns-in-Opens-clause-goes c = still_goes c.args.self.now.marked
