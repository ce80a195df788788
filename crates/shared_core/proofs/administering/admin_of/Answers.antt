use Rattle.std.proofs.lemmas.Result.{IfOk-weaker}
use Rattle.shared_core.proofs.Staging.{are_staged, can_be_staged}
use Rattle.shared_core.proofs.administering.admin_of.Goals as goal

pub of-requires-clause-weights : goal.of-requires-clause-weights
of-requires-clause-weights c = rw c.as_slice.ensures c.requires.servers.weights

pub of-requires-clause-rules : goal.of-requires-clause-rules
of-requires-clause-rules c = rw c.as_slice-2.ensures (can_be_staged c.args.config.now.rules c.requires.rules)

pub returns-clause-staged : goal.returns-clause-staged
returns-clause-staged c =
    IfOk-weaker c.of.result _ _ (λ admin is. are_staged c.args.config.now.rules admin.staged.rules c.requires.rules is)
    (rw c.as_slice-2.ensures at c.of.ensures.staged)
