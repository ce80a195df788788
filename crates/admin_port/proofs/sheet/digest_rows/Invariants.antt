use Rattle.std.proofs.Common.{◌≡◌, ◌++◌, map}
use Rattle.admin_port.specs.Sheets.{digest_cells}
use Rattle.admin_port.proofs.sheet.digest_rows.Given as goal

-- the rows so far, and those of the digests that are left
abbrev pub invariant-loop-key : goal.invariant-loop-key
invariant-loop-key l = map (λ row. row.items) l.all.items ++ map digest_cells l.key-iterator ≡ map digest_cells l.digests
