use Rattle.std.proofs.Common.{◌≡◌, drop}
use Rattle.query_rules.specs.Passing.{rules_of, passed}
use Rattle.query_rules.proofs.rules.Rules.passed.Given as goal

-- what is left of the pass leads to the same end
abbrev pub invariant-loop-rule : goal.invariant-loop-rule
invariant-loop-rule l = record {
  received : l.received ≡ l.ask.text;
  left : passed l.ask (drop l.rule-index (rules_of l.self)) l.pass ≡ passed l.ask (rules_of l.self) l.initial.pass;
}
