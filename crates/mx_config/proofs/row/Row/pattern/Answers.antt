use Rattle.std.proofs.Common.{Bool, Ok, refl, ap, ◌∙◌}
use Rattle.query_rules.specs.Patterns.{IsPattern, IsRefused}
use Rattle.mx_config.proofs.row.Row.pattern.Goals as goal

pub returns-clause-value : goal.returns-clause-value
returns-clause-value c = λ test agrees.
    let found : IsPattern c.args.text = rw c.as_slice.ensures at
    (c.is_pattern.ensures.yes (c.in_ok-found.was ∙ ap (λ (b : Bool). Ok b) c.if-not-found.false)) in
    rw (agrees.yes c.args.text found) refl

pub returns-clause-pattern : goal.returns-clause-pattern
returns-clause-pattern c = rw c.as_slice.ensures at (c.is_pattern.ensures.yes
    (c.in_ok-found.was ∙ ap (λ (b : Bool). Ok b) c.if-not-found.false))

pub returns-then-not-found-clause-value : goal.returns-then-not-found-clause-value
returns-then-not-found-clause-value c = λ test agrees.
    let refused : IsRefused c.args.text = rw c.as_slice.ensures at
    (c.is_pattern.ensures.no (c.in_ok-found.was ∙ ap (λ (b : Bool). Ok b) c.if-not-found.true)) in
    rw (agrees.no c.args.text refused) c.refusal.ensures
