use Rattle.std.specs.Prelude.{◌≡◌, ◌⊎◌, ℕ, Option, Some}
use Rattle.std.proofs.Common.{inl, inr, sym, ◌∙◌, subst, ap}
use Rattle.std.proofs.lemmas.Result.{err_from_is_err_and}
use Rattle.core_service.specs.Serves.{ServesBy}
use Rattle.mx_wire.specs.Log.{Log}
use Rattle.mx_config.specs.declared.config.Config.{Config}
use Rattle.ready_loop.specs.declared.ends.ServeEnd.TheVariants as ended
use Rattle.ready_loop.specs.Machine.{StandsFor}
use Rattle.ready_loop.specs.Round.{wakes_of}
use Rattle.ready_loop.specs.Serving.{IsOut, IsBusy, IsWanted, ListensFirst, StoodFor}
use Rattle.shared_core.specs.Machine.{IsStanding, unloaded}
use Rattle.shared_core.specs.Says.{awaits, reads, sends}
use Rattle.shared_core.specs.declared.whole.Core.{Core}
use Rattle.proxy_run.specs.Serve.{RefusedAt, ServesAt}
use Rattle.proxy_run.proofs.Keeping.{listens-at, ran-of, shut-of, stood-ran}
use Rattle.proxy_run.proofs.serving.attend.Goals as goal

-- what a core keeps that serves by the configuration
serves : (config : Config) (core : Core) (told : Option Log) → ServesBy config (unloaded core) → StandsFor IsStanding core told
    → ListensFirst config.proxy.listen config.proxy.admin_listen told → ServesAt config told
serves config core told by standing listens = record {
  run = λ log is. record { fits = (ran-of config core log by (standing.holds log is)).fits; listens = listens.holds log is };
  serves = λ log is. (ran-of config core log by (standing.holds log is)).serves;
}

-- and where memory was refused
refused : (config : Config) (core : Core) (told : Option Log) → ServesBy config (unloaded core)
    → StoodFor IsStanding (IsWanted reads sends (λ (c : Core). c.router.acting) (λ (c : Core). c.router.until) awaits) unloaded core told
    → ListensFirst config.proxy.listen config.proxy.admin_listen told → RefusedAt config told
refused config core told by stood listens = record {
  serves = λ log is.
      let ran = stood-ran config core log by (stood.holds log is) in
      record {
        run = record { fits = ran.fits; listens = listens.holds log is };
        before = ran.before;
        serves = ran.serves;
        last = ran.last;
        unwritten = ran.unwritten;
      };
}

worn : (turns : ℕ) (reads : _) (sends : _) (log : Log) → IsOut turns reads sends log ⊎ IsBusy log → (wakes_of log ≡ turns) ⊎ IsBusy log
worn turns reads sends log (inl out) = inl out.woke
worn turns reads sends log (inr busy) = inr busy

pub returns-in_err-core-clause-err : goal.returns-in_err-core-clause-err
returns-in_err-core-clause-err g c =
    let p = err_from_is_err_and c.from_residual.result c.from_residual.ensures.1 in
    rw (p.1, p.2) (inl (record { empty = c.requires.fresh }))

pub serve-end-requires-clause-stands : goal.serve-end-requires-clause-stands
serve-end-requires-clause-stands g c = record {
  holds = λ log is. subst (IsStanding c.in_ok-core.core) (sym (c.requires.fresh log is)) c.in_ok-core.ensures.stands;
}

pub returns-in-Over-clause-ok : goal.returns-in-Over-clause-ok
returns-in-Over-clause-ok g c = record {
  serves = serves _ _ _ (subst (ServesBy c.args.config.now) (sym c.serve-end.ensures.serves_by) c.in_ok-core.ensures.serves)
      (c.serve-end.ensures.stands (λ ran_out. let h : ended.Over ≡ ended.OutOfMemory = sym c.in-Over.is ∙ ran_out in cc))
      (listens-at _ _ _ _ _ c.in_ok-core.ensures.serves.listen c.in_ok-core.ensures.serves.admin_listen c.serve-end.ensures.listens);
  ends = inl (c.serve-end.ensures.over c.in-Over.is);
}

pub returns-in-Stopped-clause-ok : goal.returns-in-Stopped-clause-ok
returns-in-Stopped-clause-ok g c =
    let standing = c.serve-end.ensures.stands (λ ran_out. let h : ended.Stopped ≡ ended.OutOfMemory = sym c.in-Stopped.is ∙ ran_out in cc) in
    record {
      serves = serves _ _ _ (subst (ServesBy c.args.config.now) (sym c.serve-end.ensures.serves_by) c.in_ok-core.ensures.serves) standing
          (listens-at _ _ _ _ _ c.in_ok-core.ensures.serves.listen c.in_ok-core.ensures.serves.admin_listen c.serve-end.ensures.listens);
      ends = inr (record { administrator = λ log is. shut-of _ log (standing.holds log is) (c.serve-end.ensures.stopped c.in-Stopped.is) });
    }

pub returns-in-ListenFault-clause-err : goal.returns-in-ListenFault-clause-err
returns-in-ListenFault-clause-err g c = (
  record {
    serves = serves _ _ _ (subst (ServesBy c.args.config.now) (sym c.serve-end.ensures.serves_by) c.in_ok-core.ensures.serves)
        (c.serve-end.ensures.stands (λ ran_out. let h : ended.ListenFault ≡ ended.OutOfMemory = sym c.in-ListenFault.is ∙ ran_out in cc))
        (listens-at _ _ _ _ _ c.in_ok-core.ensures.serves.listen c.in_ok-core.ensures.serves.admin_listen c.serve-end.ensures.listens);
    ends = c.serve-end.ensures.failed c.in-ListenFault.is;
  },
  c.serve-end.ensures.rose c.in-ListenFault.is,
)

pub returns-in-TurnsSpent-clause-err : goal.returns-in-TurnsSpent-clause-err
returns-in-TurnsSpent-clause-err g c = record {
  serves = serves _ _ _ (subst (ServesBy c.args.config.now) (sym c.serve-end.ensures.serves_by) c.in_ok-core.ensures.serves)
      (c.serve-end.ensures.stands (λ ran_out. let h : ended.TurnsSpent ≡ ended.OutOfMemory = sym c.in-TurnsSpent.is ∙ ran_out in cc))
      (listens-at _ _ _ _ _ c.in_ok-core.ensures.serves.listen c.in_ok-core.ensures.serves.admin_listen c.serve-end.ensures.listens);
  ends = record { worn = λ log is. worn _ _ _ log ((c.serve-end.ensures.spent c.in-TurnsSpent.is).holds log is) };
}

pub returns-in-OutOfMemory-clause-err : goal.returns-in-OutOfMemory-clause-err
returns-in-OutOfMemory-clause-err g c = inr (refused _ _ _ (subst (ServesBy c.args.config.now) (sym c.serve-end.ensures.serves_by) c.in_ok-core.ensures.serves)
    (c.serve-end.ensures.broke c.in-OutOfMemory.is)
    (listens-at _ _ _ _ _ c.in_ok-core.ensures.serves.listen c.in_ok-core.ensures.serves.admin_listen c.serve-end.ensures.listens))
