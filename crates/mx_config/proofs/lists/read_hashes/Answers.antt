use Rattle.std.proofs.lemmas.Result.{err_from_is_err_and}
use Rattle.mx_config.specs.Lists.{digest_at}
use Rattle.mx_config.proofs.RowSteps.{goes_on, is_refused, is_read}
use Rattle.mx_config.proofs.lists.read_hashes.Goals as goal

pub returns-in_err-hash : goal.returns-in_err-hash
returns-in_err-hash c =
    let p = err_from_is_err_and c.from_residual.result c.from_residual.ensures.1 in
    rw (p.1, p.2) (is_refused (λ _ entry. digest_at c.args.row.now.place entry) _ _ _ _ _ c.loop-value.invariant c.loop-value-test.true c.value-item.is c.in_err-hash.ensures)

pub loop-value-preserved : goal.loop-value-preserved
loop-value-preserved c = rw c.in_ok-push.ensures.ok (goes_on (λ _ entry. digest_at c.args.row.now.place entry) _ _ _ _ _ c.loop-value.invariant c.loop-value-test.true c.value-item.is c.in_ok-hash.ensures)

pub returns : goal.returns
returns c = is_read (λ _ entry. digest_at c.args.row.now.place entry) _ _ _ c.loop-value.invariant c.loop-value-test.false
