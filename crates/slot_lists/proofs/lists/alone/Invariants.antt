use Rattle.std.proofs.Common.{◌≡◌, ℕ, ◌<◌, length}
use Rattle.std.specs.Prelude.{slice_index}
use Rattle.slot_lists.proofs.lists.alone.Given as goal

abbrev pub invariant-loop-node : goal.invariant-loop-node
invariant-loop-node l = (length l.all.items ≡ l.node) × ((node : ℕ) → node < l.node → slice_index l.all.items node ≡ node)
