use Rattle.conn_pool.proofs.Best.{best_key, best_there}
use Rattle.conn_pool.proofs.laws.lends_its_key.Goals as goal

pub returns-clause-key : goal.returns-clause-key
returns-clause-key c = best_key

pub returns-clause-lendable : goal.returns-clause-lendable
returns-clause-lendable c = best_there
