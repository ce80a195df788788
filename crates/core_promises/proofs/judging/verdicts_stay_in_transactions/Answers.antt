use Rattle.core_promises.proofs.Homing.{stays-alone, stays-first}
use Rattle.core_promises.proofs.judging.verdicts_stay_in_transactions.Goals as goal

pub returns-clause-alone : goal.returns-clause-alone
returns-clause-alone c = λ book situation keys number text route hostgroup routed opened. stays-alone book situation keys number text route routed hostgroup opened

pub returns-clause-first : goal.returns-clause-first
returns-clause-first c = λ book situation keys number text route hostgroup routed opened. stays-first book situation keys number text route routed hostgroup opened
