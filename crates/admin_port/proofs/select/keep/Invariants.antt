use Rattle.std.proofs.Common.{◌≡◌, ◌++◌, map, filter}
use Rattle.std.specs.Vec.Iter.{into_iter_items}
use Rattle.admin_port.specs.RowValues.{cell_of}
use Rattle.admin_port.specs.Selecting.{cell_at, same_cell}
use Rattle.admin_port.proofs.select.keep.Given as goal

-- the rows that are kept, and those of what is left
abbrev pub invariant-loop-row : goal.invariant-loop-row
invariant-loop-row l =
    map (λ row. row.items) l.left.items
    ++ filter (λ row. same_cell (cell_at row l.place) (cell_of l.value)) (map (λ row. row.items) (into_iter_items l.row-iterator))
    ≡ filter (λ row. same_cell (cell_at row l.place) (cell_of l.value)) (map (λ row. row.items) (into_iter_items l.initial.row-iterator))
