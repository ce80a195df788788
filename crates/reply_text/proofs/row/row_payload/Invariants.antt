use Rattle.std.proofs.Common.{◌≡◌, take}
use Rattle.reply_text.specs.Tables.{row_payload}
use Rattle.reply_text.proofs.row.row_payload.Given as goal

abbrev pub invariant-loop-cell : goal.invariant-loop-cell
invariant-loop-cell l = l.payload.items ≡ row_payload (take l.cell-index l.row)
