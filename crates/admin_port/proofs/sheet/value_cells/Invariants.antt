use Rattle.std.proofs.Common.{◌≡◌, map, take}
use Rattle.admin_port.specs.RowValues.{cell_of}
use Rattle.admin_port.proofs.sheet.value_cells.Given as goal

abbrev pub invariant-loop-pair : goal.invariant-loop-pair
invariant-loop-pair l = l.cells.items ≡ map (λ pair. cell_of pair.value) (take l.pair-index l.pairs)
