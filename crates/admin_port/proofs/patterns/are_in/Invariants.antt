use Rattle.std.proofs.Common.{drop}
use Rattle.admin_port.specs.Patterns.{AllPatterns, SomeRefused, patterns_in}
use Rattle.admin_port.proofs.patterns.are_in.Given as goal

-- what is found in those that are left is found in all
abbrev pub invariant-loop-pair : goal.invariant-loop-pair
invariant-loop-pair l = record {
  all : AllPatterns (patterns_in (drop l.pair-index l.pairs)) → AllPatterns (patterns_in l.pairs);
  some : SomeRefused (patterns_in (drop l.pair-index l.pairs)) → SomeRefused (patterns_in l.pairs);
}
