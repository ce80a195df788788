use Rattle.std.proofs.Common.{◌≡◌, ◌+◌, ◌≤◌, length, option_copied}
use Rattle.mem_rule.specs.Scenes.{taken, rows_of}
use Rattle.mem_server.proofs.scene.taken.Given as goal

-- what is counted, with what is left, is all of it
abbrev pub invariant-loop-left : goal.invariant-loop-left
invariant-loop-left l = (l.count + taken (rows_of (option_copied l.table)) l.schema l.left ≡ taken (rows_of (option_copied l.table)) l.schema l.notes) × (l.count + length l.left ≤ length l.notes)

abbrev pub decreases-loop-left : goal.decreases-loop-left
decreases-loop-left l = length l.left
