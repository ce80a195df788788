use Rattle.std.proofs.Common.{sym, ◌∙◌, ◌+◌, drop}
use Rattle.std.specs.Prelude.{fold}
use Rattle.std.proofs.lemmas.List.{at_drop_more, at_drop_all}
use Rattle.mx_base.specs.Decimal.{with_digit}
use Rattle.mx_base.proofs.DecimalSteps.{too_large, held}
use Rattle.mx_base.proofs.decimal.value_of.Goals as goal

pub returns-in_err-value : goal.returns-in_err-value
returns-in_err-value c = rw c.from_residual.ensures
    (too_large _ (drop (c.loop-digit.digit-index + 1) c.args.digits.now) _ c.in_err-value.ensures (sym (at_drop_more (fold with_digit c.loop-digit.value) c.args.digits.now c.loop-digit.digit-index 0 c.loop-digit-test.true) ∙ c.loop-digit.invariant.value))

pub returns : goal.returns
returns c = held _ _ c.loop-digit.invariant.below (sym (at_drop_all (fold with_digit c.loop-digit.value) c.args.digits.now c.loop-digit.digit-index c.loop-digit-test.false) ∙ c.loop-digit.invariant.value)
