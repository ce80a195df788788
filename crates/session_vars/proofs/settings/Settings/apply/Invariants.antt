use Rattle.std.proofs.Common.{◌≡◌, drop, length}
use Rattle.session_vars.specs.Settings.{applied}
use Rattle.session_vars.proofs.settings.Settings.apply.Given as goal

abbrev pub invariant-loop-change : goal.invariant-loop-change
invariant-loop-change l = record { left : applied l.next (drop l.change-index l.changes) ≡ applied l.fn.self l.changes; all : length l.next ≡ 67 }
