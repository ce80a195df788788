use Rattle.std.proofs.Common.{◌≡◌, ◌++◌, map, length, All, None}
use Rattle.std.specs.Vec.Iter.{into_iter_items, into_iter_len}
use Rattle.query_rules.specs.Building.{IsCompiled, AllStand, IsFirstOf}
use Rattle.query_rules.specs.declared.fault.RuleFault.{RuleFault}
use Rattle.query_rules.specs.declared.rule.Rule.{Rule}
use Rattle.query_rules.proofs.rules.compiled.Given as goal

-- what holds of the rows that are left holds of all
abbrev pub invariant-loop-row : goal.invariant-loop-row
invariant-loop-row l = record {
  rows : map (λ (rule : Rule). rule.row) l.rules ++ into_iter_items l.row-iterator ≡ into_iter_items l.initial.row-iterator;
  patterns : All IsCompiled l.rules;
  stand : AllStand l.last (into_iter_items l.row-iterator) → AllStand None (into_iter_items l.initial.row-iterator);
  first : (fault : RuleFault) → IsFirstOf l.last (into_iter_items l.row-iterator) fault
      → IsFirstOf None (into_iter_items l.initial.row-iterator) fault;
  size : into_iter_len l.row-iterator ≡ length (into_iter_items l.row-iterator);
}
