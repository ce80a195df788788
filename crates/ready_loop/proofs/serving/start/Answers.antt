use Rattle.std.proofs.Common.{refl, sym, ◌∙◌}
use Rattle.std.proofs.lemmas.Result.{err_from_is_err_and}
use Rattle.ready_loop.proofs.Ending.{stood_now, broke, on_ok, on_err_more}
use Rattle.ready_loop.proofs.Listening.{both-done, first-failed, second-failed}
use Rattle.ready_loop.proofs.serving.start.Goals as goal

pub returns-in_err-reserve-clause-ends : goal.returns-in_err-reserve-clause-ends
returns-in_err-reserve-clause-ends g c = broke _ _ _ _ _ _ _ _ _ _ c.from_residual.ensures.1 (rw c.reserve.ensures.told (stood_now _ _ _ _ _ c.requires.serves.standing))

pub returns-in_err-listen_once-clause-listens : goal.returns-in_err-listen_once-clause-listens
returns-in_err-listen_once-clause-listens g c =
    let p = err_from_is_err_and c.from_residual-in_err-listen_once.result c.from_residual-in_err-listen_once.ensures.1 in
    rw p.1 (first-failed _ _ _ (λ log is. c.requires.fresh log (sym c.reserve.ensures.told ∙ is)) _ c.in_err-listen_once.ensures.failed)

pub returns-clause-listening : goal.returns-clause-listening
returns-clause-listening g c = on_ok c.listen_once-2.result _ _ _ refl c.listen_once-2.ensures.told (λ two. both-done _ _ _ (λ log is. c.requires.fresh log (sym c.reserve.ensures.told ∙ is)) _ c.in_ok-listen_once.ensures.told _ two)

pub returns-clause-listens : goal.returns-clause-listens
returns-clause-listens g c = on_err_more c.listen_once-2.result _ _ c.listen_once-2.ensures.failed (λ two. second-failed _ _ _ (λ log is. c.requires.fresh log (sym c.reserve.ensures.told ∙ is)) _ c.in_ok-listen_once.ensures.told _ two)
