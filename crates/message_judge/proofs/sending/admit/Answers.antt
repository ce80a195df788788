use Rattle.std.proofs.Common.{arith}
use Rattle.own_words.specs.Own.{DiagnosticsGone, NoServerIn}
use Rattle.message_judge.proofs.sending.admit.Goals as goal

pub returns-then-not-reads_own-clause-own : goal.returns-then-not-reads_own-clause-own
returns-then-not-reads_own-clause-own c = λ rules. DiagnosticsGone

pub returns-else-is_there-clause-own : goal.returns-else-is_there-clause-own
returns-else-is_there-clause-own c = λ rules. NoServerIn c.args.hostgroup.0 (omega arith)
