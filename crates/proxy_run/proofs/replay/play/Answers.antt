use Rattle.std.specs.Prelude.{◌≡◌, ◌⊎◌, ℕ, ◌+◌, ◌*◌, ◌≤◌, [], ◌∷◌, ◌++◌}
use Rattle.std.proofs.Common.{inl, inr, subst, ap, sym, ◌∙◌}
use Rattle.core_service.specs.Serves.{ServesBy}
use Rattle.mx_wire.specs.Log.{Log}
use Rattle.mx_wire.specs.declared.entry.Entry.{Entry}
use Rattle.mx_wire.specs.declared.entry.Entry.TheVariants as entry
use Rattle.ready_loop.specs.declared.ends.ServeEnd.TheVariants as ended
use Rattle.mem_wire.specs.Play.{IsPlay}
use Rattle.ready_loop.specs.Round.{calls_since_wake, wakes_of}
use Rattle.ready_loop.specs.Serving.{IsOver, IsOut, IsBusy}
use Rattle.proxy_run.proofs.Keeping.{listens-at, ran-of, shut-of}
use Rattle.proxy_run.proofs.Turns.{spent-busy}
use Rattle.proxy_run.proofs.replay.play.Goals as goal

ends : (log : Log) → ((before : Log) × ((e : Entry) × IsOver e × (log ≡ before ++ e ∷ []))) → (before : Log) × (log ≡ before ++ entry.Over ∷ [])
ends log (before, (entry.Over, over, is)) = (before, is)
ends log (before, (_, over, is)) = absurd over

spends : (turns : ℕ) (reads : _) (sends : _) (log : Log) → IsOut turns reads sends log ⊎ IsBusy log → (wakes_of log ≡ turns) ⊎ (4294967296 ≤ calls_since_wake log)
spends turns reads sends log (inl out) = inl out.woke
spends turns reads sends log (inr busy) = inr busy

pub returns-in-Over-clause-ok : goal.returns-in-Over-clause-ok
returns-in-Over-clause-ok c = record {
  plays = λ log play. subst (λ lines. IsPlay lines log) (c.serve-end.ensures.ruled_by ∙ ap (λ tape. tape.recording) c.new-tape.ensures) play;
  serves = λ log is.
      let stands = (c.serve-end.ensures.stands (λ ran_out. let h : ended.Over ≡ ended.OutOfMemory = sym c.in-Over.is ∙ ran_out in cc)).holds log is in
      let by : ServesBy c.args.config.now _ = subst (ServesBy c.args.config.now) (sym c.serve-end.ensures.serves_by) c.in_ok-core.ensures.serves in
      let ran = ran-of c.args.config.now _ log by stands in
      inl (record {
        run = record { fits = ran.fits; listens = (listens-at _ _ _ _ _ c.in_ok-core.ensures.serves.listen c.in_ok-core.ensures.serves.admin_listen c.serve-end.ensures.listens).holds log is };
        serves = ran.serves;
        before = (ends log ((c.serve-end.ensures.over c.in-Over.is).last log is)).0;
        over = (ends log ((c.serve-end.ensures.over c.in-Over.is).last log is)).1;
      });
}

pub returns-in-Stopped-clause-ok : goal.returns-in-Stopped-clause-ok
returns-in-Stopped-clause-ok c = record {
  plays = λ log play. subst (λ lines. IsPlay lines log) (c.serve-end.ensures.ruled_by ∙ ap (λ tape. tape.recording) c.new-tape.ensures) play;
  serves = λ log is.
      let stands = (c.serve-end.ensures.stands (λ ran_out. let h : ended.Stopped ≡ ended.OutOfMemory = sym c.in-Stopped.is ∙ ran_out in cc)).holds log is in
      let by : ServesBy c.args.config.now _ = subst (ServesBy c.args.config.now) (sym c.serve-end.ensures.serves_by) c.in_ok-core.ensures.serves in
      let ran = ran-of c.args.config.now _ log by stands in
      inr (record {
        run = record { fits = ran.fits; listens = (listens-at _ _ _ _ _ c.in_ok-core.ensures.serves.listen c.in_ok-core.ensures.serves.admin_listen c.serve-end.ensures.listens).holds log is };
        serves = ran.serves;
        administrator = shut-of _ log stands (c.serve-end.ensures.stopped c.in-Stopped.is);
      });
}

pub returns-in-Some-clause-err : goal.returns-in-Some-clause-err
returns-in-Some-clause-err c =
    let log : Log = c.in-Some.field-0.now in
    let is = sym c.in-Some.ensures.told in
    let stands = (c.serve-end.ensures.stands (λ ran_out. let h : ended.TurnsSpent ≡ ended.OutOfMemory = sym c.in-TurnsSpent.is ∙ ran_out in cc)).holds log is in
    let by : ServesBy c.args.config.now _ = subst (ServesBy c.args.config.now) (sym c.serve-end.ensures.serves_by) c.in_ok-core.ensures.serves in
    let ran = ran-of c.args.config.now _ log by stands in
    let play : IsPlay c.args.entries.items log = subst (λ lines. IsPlay lines log) (c.serve-end.ensures.ruled_by ∙ ap (λ tape. tape.recording) c.new-tape.ensures) (c.in-Some.ensures.plays log is) in
    let spent = spends _ _ _ log ((c.serve-end.ensures.spent c.in-TurnsSpent.is).holds log is) in (
      log,
      record {
        play = play;
        run = record { fits = ran.fits; listens = (listens-at _ _ _ _ _ c.in_ok-core.ensures.serves.listen c.in_ok-core.ensures.serves.admin_listen c.serve-end.ensures.listens).holds log is };
        serves = ran.serves;
        spent = spent-busy c.args.entries.items log play (subst (λ n. (wakes_of log ≡ 2 * n + 16) ⊎ (4294967296 ≤ calls_since_wake log)) (c.len.ensures ∙ c.args.entries.ok.0) spent);
      },
    )
