use Rattle.std.specs.Prelude.{◌≡◌, ℕ, [], Option, Some, Result, Ok, Err, OnOk, IfErr}
use Rattle.std.proofs.Common.{sym, subst, ◌∙◌}
use Rattle.generated_load.specs.Configs.{load_config}
use Rattle.generated_load.specs.declared.ask.LoadAsk.{LoadAsk}
use Rattle.mx_config.specs.declared.config.Config.{Config}
use Rattle.mx_wire.specs.Log.{Log}
use Rattle.proxy_run.specs.declared.stop.Stop.{Stop}
use Rattle.proxy_run.specs.declared.stop.Stop.TheVariants as stop
use Rattle.proxy_run.specs.Load.{RunStops, load_turns}
use Rattle.proxy_run.specs.Serve.{Attended, AttendStops, IsServed}
use Rattle.proxy_run.proofs.loading.serve_load.Goals as goal

on-ok : {A B : Type 0} (r : Result (Unit {0}) Stop) → (A → B) → OnOk r A → OnOk r B
on-ok (Ok done) more held = more held
on-ok (Err given) more held = tt

if-err : {P Q : Stop → Type 0} (r : Result (Unit {0}) Stop) → ((given : Stop) → P given → Q given) → IfErr r P → IfErr r Q
if-err (Ok done) more held = tt
if-err (Err given) more held = more given held

stops-so : (given : Stop) (ask : LoadAsk) (told : Option Log) (pb pn : ℕ) → AttendStops given (load_turns ask) load_config told pb pn → RunStops given ask told
stops-so stop.OutOfMemory ask told pb pn stops = tt
stops-so stop.ListenFault ask told pb pn stops = stops.0
stops-so stop.TurnsSpent ask told pb pn stops = stops
stops-so _ ask told pb pn stops = absurd stops

same-log : (told : Option Log) (log : Log) → told ≡ Some [] → told ≡ Some log → log ≡ []
same-log told log was is = let both : Some log ≡ Some [] = sym is ∙ was in cc

pub attend-requires-clause-fresh : goal.attend-requires-clause-fresh
attend-requires-clause-fresh c = λ log is. same-log _ log c.requires.fresh is

pub returns-clause-ok : goal.returns-clause-ok
returns-clause-ok c =
    on-ok c.attend.result (λ attended. subst (λ (config : Config). Attended config IsServed c.attend.new.wire.told) c.in_ok-config.ensures.config attended) c.attend.ensures.ok

pub returns-clause-err : goal.returns-clause-err
returns-clause-err c =
    let told = c.attend.new.wire.told in
    let before = c.args.wire.now.failed.ports in
    let after = c.attend.new.wire.failed.ports in
    if-err c.attend.result (λ given stops. stops-so given c.args.ask.now told before after
    (subst (λ (turns : ℕ). AttendStops given turns load_config told before after) c.load_turns.ensures
    (subst (λ (config : Config). AttendStops given c.load_turns.result config told before after) c.in_ok-config.ensures.config stops)))
    c.attend.ensures.err
