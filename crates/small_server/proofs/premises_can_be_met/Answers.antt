use Rattle.small_server.proofs.Told.{shared_answered, shared_honest, shared_lawful}
use Rattle.small_server.proofs.premises_can_be_met.Goals as goal

pub returns-clause-lawful : goal.returns-clause-lawful
returns-clause-lawful c = shared_lawful

pub returns-clause-honest : goal.returns-clause-honest
returns-clause-honest c = shared_honest

pub returns-clause-answered : goal.returns-clause-answered
returns-clause-answered c = shared_answered
