use Rattle.std.proofs.Common.{[]}
use Rattle.mx_config.specs.Lawful.{IsLawfulUser}
use Rattle.mx_config.proofs.OneMore.{EachBehind-push}
use Rattle.std.proofs.lemmas.Result.{err_from_is_err_and}
use Rattle.mx_config.specs.Tables.{user_row}
use Rattle.mx_config.proofs.RowSteps.{goes_on, is_refused, is_read}
use Rattle.mx_config.proofs.users.read_user_rows.Goals as goal

pub returns-in_err-row-clause-said : goal.returns-in_err-row-clause-said
returns-in_err-row-clause-said c =
    let p = err_from_is_err_and c.from_residual.result c.from_residual.ensures.1 in
    rw (p.1, p.2) (is_refused user_row _ _ _ _ _ c.loop-value.invariant.reads c.loop-value-test.true c.value-item.is c.in_err-row.ensures.said)

pub loop-value-preserved : goal.loop-value-preserved
loop-value-preserved c = rw c.in_ok-push.ensures (record {
  reads = goes_on user_row _ _ _ _ _ c.loop-value.invariant.reads c.loop-value-test.true c.value-item.is c.in_ok-row.ensures.said;
  lawful = EachBehind-push IsLawfulUser [] _ _ c.loop-value.invariant.lawful c.in_ok-row.ensures.lawful;
})

pub returns-clause-said : goal.returns-clause-said
returns-clause-said c = rw c.into_rows.ensures (is_read user_row _ _ _ c.loop-value.invariant.reads c.loop-value-test.false)
