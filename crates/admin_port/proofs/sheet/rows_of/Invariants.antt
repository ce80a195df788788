use Rattle.std.proofs.Common.{◌≡◌, map, take}
use Rattle.admin_port.proofs.sheet.rows_of.Given as goal

abbrev pub invariant-loop-row : goal.invariant-loop-row
invariant-loop-row g l = map (λ row. row.items) l.all.items ≡ map g.R.Listed.cells_of (take l.row-index l.rows)
