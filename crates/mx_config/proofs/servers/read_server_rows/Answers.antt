use Rattle.mx_config.proofs.OneMore.{AreLawfulServers-push}
use Rattle.std.proofs.Common.{arith}
use Rattle.std.proofs.lemmas.Result.{err_from_is_err_and}
use Rattle.mx_config.specs.Tables.{server_row}
use Rattle.mx_config.proofs.RowSteps.{goes_on, is_refused, is_read}
use Rattle.mx_config.proofs.servers.read_server_rows.Goals as goal

pub returns-in_err-row-clause-said : goal.returns-in_err-row-clause-said
returns-in_err-row-clause-said c =
    let p = err_from_is_err_and c.from_residual.result c.from_residual.ensures.1 in
    rw (p.1, p.2) (is_refused server_row _ _ _ _ _ c.loop-value.invariant.reads c.loop-value-test.true c.value-item.is c.in_err-row.ensures.said)

pub loop-value-preserved : goal.loop-value-preserved
loop-value-preserved c = rw c.in_ok-push.ensures (record {
  reads = goes_on server_row _ _ _ _ _ c.loop-value.invariant.reads c.loop-value-test.true c.value-item.is c.in_ok-row.ensures.said;
  lawful = AreLawfulServers-push _ _ (omega (arith, c.loop-value.invariant.reads.counted)) c.loop-value.invariant.lawful c.in_ok-row.ensures.lawful;
})

pub returns-clause-said : goal.returns-clause-said
returns-clause-said c = rw c.into_rows.ensures (is_read server_row _ _ _ c.loop-value.invariant.reads c.loop-value-test.false)
