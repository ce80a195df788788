use Rattle.std.proofs.Common.{◌≡◌, map, take}
use Rattle.admin_port.specs.Selecting.{cell_at}
use Rattle.admin_port.proofs.select.at_places.Given as goal

abbrev pub invariant-loop-place : goal.invariant-loop-place
invariant-loop-place l = l.cells.items ≡ map (cell_at l.row) (take l.place-index l.places)
