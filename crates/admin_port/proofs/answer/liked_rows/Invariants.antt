use Rattle.std.proofs.Common.{◌≡◌, map, take, filter}
use Rattle.admin_port.specs.Answers.{like}
use Rattle.admin_port.specs.Sheets.{named_cells}
use Rattle.admin_port.proofs.answer.liked_rows.Given as goal

abbrev pub invariant-loop-row : goal.invariant-loop-row
invariant-loop-row l = map (λ row. row.items) l.all.items ≡ map named_cells (filter (λ row. like l.pattern row.name) (take l.row-index l.rows))
