use Rattle.std.proofs.Common.{◌≡◌, ◌≤◌, length}
use Rattle.session_vars.specs.Settings.{padded}
use Rattle.session_vars.proofs.settings.reach.Given as goal

abbrev pub invariant-loop-i : goal.invariant-loop-i
invariant-loop-i l = record {
  same : padded l.values.items ≡ padded l.initial.values.items;
  few : length l.values.items ≤ 67;
  at : length l.values.items ≡ l._i;
}
