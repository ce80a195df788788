use Rattle.std.proofs.Common.{refl}
use Rattle.std.proofs.lemmas.Result.{err_from_is_err_and}
use Rattle.mx_config.specs.RuleRows.{rule_row}
use Rattle.mx_config.proofs.Steps.{refused_before}
use Rattle.mx_config.proofs.rules.read_rule_row.Goals as goal

pub returns-in_err-row-clause-said : goal.returns-in_err-row-clause-said
unfolding rule_row
returns-in_err-row-clause-said c =
    let p = err_from_is_err_and c.from_residual.result c.from_residual.ensures.1 in
    λ is_pattern agrees. rw (p.1, p.2) (rw (← c.len.ensures) (refused_before _ _ _ c.in_err-row.ensures))

pub returns-in_err-rule-clause-said : goal.returns-in_err-rule-clause-said
unfolding rule_row
returns-in_err-rule-clause-said c =
    let p = err_from_is_err_and c.from_residual-in_err-rule.result c.from_residual-in_err-rule.ensures.1 in
    λ is_pattern agrees. rw (p.1, p.2) (rw (← c.len.ensures, c.in_ok-row.ensures.1, ← c.in_ok-row.ensures.0)
    (refused_before _ _ _ (c.in_err-rule.ensures.said is_pattern agrees)))

pub returns-in_err-judge-clause-said : goal.returns-in_err-judge-clause-said
unfolding rule_row
returns-in_err-judge-clause-said c =
    let p = err_from_is_err_and c.from_residual-in_err-judge.result c.from_residual-in_err-judge.ensures.1 in
    λ is_pattern agrees. rw (p.1, p.2) (rw (
      ← c.len.ensures,
      c.in_ok-row.ensures.1,
      ← c.in_ok-row.ensures.0,
      c.in_ok-rule.ensures.said
          is_pattern agrees,
    ) (refused_before _ _ _ c.in_err-judge.ensures.said))

pub returns-clause-said : goal.returns-clause-said
unfolding rule_row
returns-clause-said c = λ is_pattern agrees. rw (
  ← c.len.ensures,
  c.in_ok-row.ensures.1,
  ← c.in_ok-row.ensures.0,
  c.in_ok-rule.ensures.said
      is_pattern agrees,
  c.in_ok-judge.ensures.said,
) refl
