use Rattle.std.proofs.Common.{◌-◌, arith, rules}
use Rattle.std.proofs.lemmas.List.Sorted.{IsNonDecreasingBy-from_sort_by_key}
use Rattle.hostgroups.specs.declared.dealing.Share.{Share}
use Rattle.hostgroups.proofs.Deals.{shares_more, shares_none, shares_sorted}
use Rattle.hostgroups.proofs.dealing.shares.Goals as goal

pub loop-at-init : goal.loop-at-init
loop-at-init c = rw c.new-shares.ensures.items (shares_none _ _ _)

pub loop-at-preserved : goal.loop-at-preserved
loop-at-preserved c =
    shares_more _ _ _ _ _ _ _ _ _ _ c.loop-at-test.true c.requires.heaviest c.loop-at.invariant c.weight-weight.ensures
    c.in_ok-add_share.ensures c.after-first.ensures

pub returns : goal.returns
returns c =
    shares_sorted _ _ _ _ _ _ _ (omega arith) (omega arith) c.requires.heaviest c.loop-at.invariant c.sort_by_key.ensures.permutation
    (IsNonDecreasingBy-from_sort_by_key (λ (s : Share). 65535 - s.weight) _ c.in_ok-sort_by_key.ensures.sorted (λ a r q k. search rules))
