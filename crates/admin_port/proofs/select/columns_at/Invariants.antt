use Rattle.std.proofs.Common.{◌≡◌, [], map, take}
use Rattle.std.specs.Prelude.{slice_index_or}
use Rattle.admin_port.proofs.select.columns_at.Given as goal

abbrev pub invariant-loop-place : goal.invariant-loop-place
invariant-loop-place l = l.all.items ≡ map (λ place. slice_index_or l.columns place []) (take l.place-index l.places)
