use Rattle.std.proofs.Common.{map, take}
use Rattle.reply_text.specs.Tables.{definition_payload}
use Rattle.reply_text.proofs.Written.{Written}
use Rattle.reply_text.proofs.table.append_definitions.Given as goal

abbrev pub invariant-loop-column : goal.invariant-loop-column
invariant-loop-column l = Written l.fn.first l.fn.out.items l.out.items (map definition_payload (take l.column-index l.columns)) l.id
