use Rattle.std.proofs.Common.{◌∙◌, rules}
use Rattle.std.proofs.lemmas.List.{take_all}
use Rattle.std.proofs.lemmas.List.Sorted.{IsNonDecreasingBy-from_sort_by_key}
use Rattle.query_rules.specs.declared.row.RuleRow.{RuleRow}
use Rattle.query_rules.proofs.rules.in_order.Goals as goal

pub returns : goal.returns
returns c =
    let copied = c.loop-row.invariant ∙ take_all _ _ c.loop-row-test.false in
    record {
      same = rw copied at c.in_ok-sort_by_key.ensures.permutation;
      ascending = IsNonDecreasingBy-from_sort_by_key (λ (row : RuleRow). row.rule_id) _ c.in_ok-sort_by_key.ensures.sorted
          (λ a r q k. search rules);
    }
