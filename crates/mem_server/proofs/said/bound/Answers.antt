use Rattle.std.proofs.Common.{◌≡◌, ◌+◌, ◌-◌, ◌++◌, ◌∷◌, ◌∙◌, [], ap, None, Some}
use Rattle.mem_rule.specs.Statements.{bound_at, bound_from}
use Rattle.mem_server.proofs.Bindings.{none_bound, one_bound}
use Rattle.mem_server.proofs.said.bound.Goals as goal

pub returns-in-None : goal.returns-in-None
returns-in-None c =
    let none : bound_at c.args.b.now c.loop-parameter.parameter c.loop-parameter.at ≡ None = let a = c.in_ok-bound_at.ensures in let b = c.in-None.is in let w = c.in_ok-bound_at.was in cc in
    none_bound c.args.count c.loop-parameter.parameter c.loop-parameter.at c.args.b.now c.loop-parameter.out _ c.loop-parameter-test.true c.loop-parameter.invariant none

pub loop-parameter-preserved : goal.loop-parameter-preserved
loop-parameter-preserved c =
    let there : bound_at c.args.b.now c.loop-parameter.parameter c.loop-parameter.at ≡ Some (c.in-Some.value, c.in-Some.next) = let a = c.in_ok-bound_at.ensures in let b = c.in-Some.is in let w = c.in_ok-bound_at.was in cc in
    let pushed : c.push.new.self ≡ c.loop-parameter.out ++ c.in-Some.value ∷ [] = let p = c.in_ok-push-in-Some.ensures.ok in cc in
    ap (λ items. bound_from (c.args.count - (c.loop-parameter.parameter + 1)) (c.loop-parameter.parameter + 1) c.in-Some.next c.args.b.now items) pushed
    ∙ one_bound c.args.count c.loop-parameter.parameter c.loop-parameter.at c.args.b.now c.loop-parameter.out _ c.in-Some.value c.in-Some.next c.loop-parameter-test.true c.loop-parameter.invariant there
