use Rattle.std.proofs.Common.{map, take}
use Rattle.reply_text.specs.Tables.{row_payload}
use Rattle.reply_text.proofs.Written.{Written}
use Rattle.reply_text.proofs.table.append_rows.Given as goal

abbrev pub invariant-loop-row : goal.invariant-loop-row
invariant-loop-row l = Written l.fn.first l.fn.out.items l.out.items (map (λ row. row_payload row.items) (take l.row-index l.rows)) l.id
