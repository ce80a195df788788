use Rattle.std.specs.Prelude.{◌≡◌, ℕ, List, Option, Some, None, Result, Ok, Err, OnOk, IfErr}
use Rattle.std.proofs.Common.{refl, subst}
use Rattle.mem_rule.specs.Stored.{step}
use Rattle.scripted_wire.specs.Plays.{Cast, IsPlayOf}
use Rattle.generated_load.specs.Configs.{load_config}
use Rattle.generated_load.specs.declared.ask.LoadAsk.{LoadAsk}
use Rattle.mx_wire.specs.Log.{Log}
use Rattle.proxy_run.specs.declared.stop.Stop.{Stop}
use Rattle.proxy_run.specs.declared.stop.Stop.TheVariants as stop
use Rattle.proxy_run.specs.Load.{Counted, IsCastOf, IsDoneLoad, IsLoad, LoadStops, PutCountsStops, PutsCounts, RunStops, told_stop}
use Rattle.proxy_run.specs.Serve.{Attended, IsServed}
use Rattle.ready_loop.specs.Serving.{EndsWith, IsOver}
use Rattle.proxy_run.proofs.Loads.{all-said, ends-over}
use Rattle.proxy_run.proofs.loading.load.Goals as goal

on-ok : {A B : Type 0} (r : Result (Unit {0}) Stop) → (A → B) → OnOk r A → OnOk r B
on-ok (Ok done) more held = more held
on-ok (Err given) more held = tt

if-err : {P Q : Stop → Type 0} (r : Result (Unit {0}) Stop) → ((given : Stop) → P given → Q given) → IfErr r P → IfErr r Q
if-err (Ok done) more held = tt
if-err (Err given) more held = more given held

-- what is so of a log that this cast tells
pub record IsCalled (ask : LoadAsk) (cast : Cast) (told : Option Log) : Type 0 where
  pub is : IsCastOf ask cast
  pub plays : (log : Log) → told ≡ Some log → IsPlayOf step cast log

-- the log that is told is one of a load
load-of : (ask : LoadAsk) (cast : Cast) (Ends : Option Log → Type 0) (told : Option Log) (log : Log) → told ≡ Some log → IsCalled ask cast told → Attended load_config Ends told → IsLoad ask Ends log
load-of ask cast Ends told log is called attended = record { cast = cast; is = called.is; plays = called.plays log is; attended = subst (Attended load_config Ends) is attended }

-- which is done, where it was served
done-load : (ask : LoadAsk) (cast : Cast) (told : Option Log) (log : Log) → told ≡ Some log → IsCalled ask cast told → Attended load_config IsServed told → IsDoneLoad ask log
done-load ask cast told log is called attended =
    let plays : IsPlayOf step cast log = called.plays log is in
    let served : Attended load_config IsServed (Some log) = subst (Attended load_config IsServed) is attended in
    let over : EndsWith IsOver (Some log) = ends-over step cast log plays.scene plays.plays served.ends in
    record {
      load = record { cast = cast; is = called.is; plays = plays; attended = record { serves = served.serves; ends = over } };
      over = all-said step cast log plays.scene plays.plays over;
    }

counted : (ask : LoadAsk) (cast : Cast) (told : Option Log) (old new : Option (List ℕ)) → IsCalled ask cast told → Attended load_config IsServed told → PutsCounts ask told old new → Counted ask old new
counted ask cast told old new called attended puts = record { log = puts.log; load = done-load ask cast told puts.log puts.is called attended; put = puts.put }

unput : (given : Stop) (ask : LoadAsk) (cast : Cast) (told : Option Log) (old : Option (List ℕ)) (before : ℕ) (new : Option (List ℕ)) (now : ℕ) → IsCalled ask cast told → Attended load_config IsServed told
    → PutCountsStops given ask told old before new now → LoadStops given ask old before new now
unput stop.SinkFault ask cast told old before new now called attended stops = record { log = stops.log; load = done-load ask cast told stops.log stops.is called attended; put = stops.put; rose = stops.rose }
unput stop.OutOfMemory ask cast told old before new now called attended stops = stops
unput _ ask cast told old before new now called attended stops = absurd stops

unserved : (given : Stop) (ask : LoadAsk) (cast : Cast) (told : Option Log) (old : Option (List ℕ)) (before : ℕ) → IsCalled ask cast told → RunStops given ask told → LoadStops (told_stop told given) ask old before old before
unserved given ask cast None old before called stops = record { same = refl; calm = refl }
unserved stop.OutOfMemory ask cast (Some log) old before called stops = record { same = refl; calm = refl }
unserved stop.ListenFault ask cast (Some log) old before called stops = ((log, load-of ask cast _ (Some log) log refl called stops), record { same = refl; calm = refl })
unserved stop.TurnsSpent ask cast (Some log) old before called stops = ((log, load-of ask cast _ (Some log) log refl called stops), record { same = refl; calm = refl })
unserved _ ask cast (Some log) old before called stops = absurd stops

pub returns-in-Ok-clause-ok : goal.returns-in-Ok-clause-ok
returns-in-Ok-clause-ok g c =
    let ask = c.args.ask.now in
    let wire = c.serve_load.new.wire in
    let called : IsCalled ask wire.cast wire.told = record { is = rw c.serve_load.ensures.cast c.in_ok-wire.ensures.cast; plays = c.log.ensures.plays } in
    on-ok c.put.result (counted ask wire.cast wire.told (g.O.Sink.taken c.args.out.now) (g.O.Sink.taken c.put.new.out) called c.in-Ok.ensures.ok)
    (subst (λ (told : Option Log). OnOk c.put.result (PutsCounts ask told (g.O.Sink.taken c.args.out.now) (g.O.Sink.taken c.put.new.out))) c.log.ensures.told c.put.ensures.ok)

pub returns-in-Ok-clause-err : goal.returns-in-Ok-clause-err
returns-in-Ok-clause-err g c =
    let ask = c.args.ask.now in
    let wire = c.serve_load.new.wire in
    let called : IsCalled ask wire.cast wire.told = record { is = rw c.serve_load.ensures.cast c.in_ok-wire.ensures.cast; plays = c.log.ensures.plays } in
    if-err c.put.result (λ given. unput given ask wire.cast wire.told (g.O.Sink.taken c.args.out.now) (g.O.Sink.faults c.args.out.now) (g.O.Sink.taken c.put.new.out) (g.O.Sink.faults c.put.new.out) called c.in-Ok.ensures.ok)
    (subst (λ (told : Option Log). IfErr c.put.result (λ given. PutCountsStops given ask told (g.O.Sink.taken c.args.out.now) (g.O.Sink.faults c.args.out.now) (g.O.Sink.taken c.put.new.out) (g.O.Sink.faults c.put.new.out))) c.log.ensures.told c.put.ensures.err)

pub returns-clause-err : goal.returns-clause-err
returns-clause-err g c =
    let called : IsCalled c.args.ask.now c.serve_load.new.wire.cast c.serve_load.new.wire.told = record { is = rw c.serve_load.ensures.cast c.in_ok-wire.ensures.cast; plays = c.log-in-Err.ensures.plays } in
    rw c.told_stop.ensures (rw c.log-in-Err.ensures.told (unserved _ _ _ _ _ _ called c.in-Err.ensures.err))
