use Rattle.std.proofs.Common.{◌≡◌, map, take}
use Rattle.admin_port.specs.Selecting.{at_places}
use Rattle.admin_port.proofs.select.rows_at.Given as goal

abbrev pub invariant-loop-row : goal.invariant-loop-row
invariant-loop-row l = map (λ row. row.items) l.all.items ≡ map (at_places l.places) (map (λ row. row.items) (take l.row-index l.rows))
