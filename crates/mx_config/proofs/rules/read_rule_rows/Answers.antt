use Rattle.std.proofs.Common.{[], length-append, arith}
use Rattle.mx_config.specs.Lawful.{IsLawfulRule}
use Rattle.mx_config.proofs.OneMore.{EachBehind-push}
use Rattle.std.proofs.lemmas.Result.{err_from_is_err_and}
use Rattle.mx_config.specs.RuleRows.{rule_row}
use Rattle.mx_config.proofs.RowSteps.{goes_on, is_refused, is_read}
use Rattle.mx_config.proofs.rules.read_rule_rows.Goals as goal

pub returns-in_err-row-clause-said : goal.returns-in_err-row-clause-said
returns-in_err-row-clause-said c =
    let p = err_from_is_err_and c.from_residual.result c.from_residual.ensures.1 in
    λ is_pattern agrees. rw (p.1, p.2) (is_refused (rule_row is_pattern) _ _ _ _ _ (c.loop-value.invariant.reads is_pattern agrees)
    c.loop-value-test.true c.value-item.is (c.in_err-row.ensures.said is_pattern agrees))

pub loop-value-preserved : goal.loop-value-preserved
loop-value-preserved c = rw c.in_ok-push.ensures (record {
  counted = simp length-append (omega (arith, c.loop-value.invariant.counted));
  reads = λ is_pattern agrees. goes_on (rule_row is_pattern) _ _ _ _ _ (c.loop-value.invariant.reads is_pattern agrees)
      c.loop-value-test.true c.value-item.is (c.in_ok-row.ensures.said is_pattern agrees);
  lawful = EachBehind-push IsLawfulRule [] _ _ c.loop-value.invariant.lawful c.in_ok-row.ensures.lawful;
})

pub returns-clause-said : goal.returns-clause-said
returns-clause-said c = λ is_pattern agrees. rw c.into_rows.ensures
    (is_read (rule_row is_pattern) _ _ _ (c.loop-value.invariant.reads is_pattern agrees) c.loop-value-test.false)
