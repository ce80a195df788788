use Rattle.std.proofs.Common.{◌≡◌, [], ◌∷◌, Some, map, take}
use Rattle.admin_port.proofs.answer.one_cell_rows.Given as goal

abbrev pub invariant-loop-value : goal.invariant-loop-value
invariant-loop-value l = map (λ row. row.items) l.all.items ≡ map (λ value. Some value.now ∷ []) (take l.value-index l.values)
