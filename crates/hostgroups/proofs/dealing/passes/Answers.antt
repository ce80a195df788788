use Rattle.std.proofs.Common.{◌<◌, arith}
use Rattle.std.proofs.lemmas.List.Sorted.{All-permutation}
use Rattle.hostgroups.proofs.Deals.{upto-within}
use Rattle.hostgroups.proofs.dealing.passes.Goals as goal

pub returns-clause-within : goal.returns-clause-within
returns-clause-within c =
    All-permutation (λ p. p < c.args.heaviest) c.loop-pass.passes.items c.sort_by_key.new.self.items c.sort_by_key.ensures.permutation
    (rw c.loop-pass.invariant (upto-within c.loop-pass.pass c.args.heaviest (omega arith)))
