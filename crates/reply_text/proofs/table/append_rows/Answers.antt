use Rattle.std.proofs.Common.{◌≡◌, ◌++◌, ◌∙◌, ap, arith, Vec, Global, Option, List, ℕ}
use Rattle.packet_frame.specs.Packets.{spelling, id_behind}
use Rattle.reply_text.specs.Tables.{row_payload}
use Rattle.reply_text.proofs.Written.{written-next}
use Rattle.reply_text.proofs.table.append_rows.Goals as goal

pub loop-row-preserved : goal.loop-row-preserved
loop-row-preserved c =
    let payload : c.deref-in-loop-row.result.now ≡ row_payload c.row-item.result.items = c.deref-in-loop-row.ensures.value ∙ c.in_ok-payload.ensures ∙ ap row_payload c.deref.ensures.value in
    written-next (λ (row : Vec (Option (List ℕ)) Global). row_payload row.items) c.args.first c.args.out.now.items c.loop-row.out.items c.write_message.new.out.items c.args.rows.now c.loop-row.row-index c.row-item.result c.loop-row.id c.in_ok-id.id (omega arith) c.row-item.is c.loop-row.invariant
    (c.in_ok-id.ensures.bytes ∙ ap (λ bs. c.loop-row.out.items ++ spelling c.loop-row.id bs) payload) (c.in_ok-id.ensures.behind ∙ ap (id_behind c.loop-row.id) payload)
