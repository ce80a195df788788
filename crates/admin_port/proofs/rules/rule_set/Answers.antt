use Rattle.std.proofs.Common.{◌∙◌, ◌++◌, List, ap, subst}
use Rattle.admin_port.specs.Faults.{Gives}
use Rattle.admin_port.specs.RowValues.{rule_said}
use Rattle.admin_port.specs.declared.pair.Pair.{Pair}
use Rattle.admin_port.proofs.rules.rule_set.Goals as goal

pub returns : goal.returns
returns c =
    subst (λ (all : List Pair). Gives c.read_rule.result (rule_said c.args.patterned all))
    (c.deref.ensures.value ∙ c.in_ok-put_copies.ensures ∙ ap (λ (before : List Pair). before ++ c.args.pairs.now) c.in_ok-all.ensures) c.read_rule.ensures
