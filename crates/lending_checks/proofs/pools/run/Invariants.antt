use Rattle.lending_checks.specs.Small.{IsTable}
use Rattle.lending_checks.proofs.pools.run.Given as goal

abbrev pub invariant-loop-step : goal.invariant-loop-step
invariant-loop-step l = IsTable l.pool
    × (goal.iterator-loop-step).can_next l.step-iterator
    × (goal.iterator-loop-step).is_finite l.step-iterator
