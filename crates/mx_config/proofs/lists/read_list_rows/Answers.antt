use Rattle.std.proofs.lemmas.Result.{err_from_is_err_and}
use Rattle.mx_config.specs.Lists.{list_row}
use Rattle.mx_config.proofs.RowSteps.{goes_on, is_refused, is_read}
use Rattle.mx_config.proofs.lists.read_list_rows.Goals as goal

pub returns-in_err-row : goal.returns-in_err-row
returns-in_err-row c =
    let p = err_from_is_err_and c.from_residual.result c.from_residual.ensures.1 in
    rw (p.1, p.2) (is_refused list_row _ _ _ _ _ c.loop-value.invariant c.loop-value-test.true c.value-item.is (rw c.as_slice.ensures at c.in_err-row.ensures))

pub loop-value-preserved : goal.loop-value-preserved
loop-value-preserved c = rw c.in_ok-push.ensures.ok (goes_on list_row _ _ _ _ _ c.loop-value.invariant c.loop-value-test.true c.value-item.is (rw c.as_slice.ensures at c.in_ok-row.ensures))

pub returns : goal.returns
returns c = is_read list_row _ _ _ c.loop-value.invariant c.loop-value-test.false
