use Rattle.std.proofs.lemmas.Result.{err_from_is_err_and}
use Rattle.mx_config.proofs.Patterns.{pattern_not_there, pattern_refused, pattern_there}
use Rattle.mx_config.proofs.row.Row.pattern_if_there.Goals as goal

pub returns-in_err-text-clause-value : goal.returns-in_err-text-clause-value
returns-in_err-text-clause-value c = λ test agrees.
    let p = err_from_is_err_and c.from_residual.result c.from_residual.ensures.1 in
    rw (p.1, p.2) (pattern_refused _ _ test _ _ c.in_err-text.ensures.value)

pub returns-in-Some-clause-value : goal.returns-in-Some-clause-value
returns-in-Some-clause-value c = λ test agrees.
    rw (pattern_there _ _ test _ c.in-Some.text (rw c.in-Some.is at c.in_ok-text.ensures.value)) (c.pattern.ensures.value test agrees)

pub returns-in-None-clause-value : goal.returns-in-None-clause-value
returns-in-None-clause-value c = λ test agrees. pattern_not_there _ _ test _ (rw c.in-None.is at c.in_ok-text.ensures.value)
