use Rattle.std.proofs.Common.{◌≡◌, ◌++◌, ◌∙◌, ap, arith}
use Rattle.packet_frame.specs.Packets.{spelling, id_behind}
use Rattle.reply_text.specs.Tables.{definition_payload}
use Rattle.reply_text.proofs.Written.{written-next}
use Rattle.reply_text.proofs.table.append_definitions.Goals as goal

pub loop-column-preserved : goal.loop-column-preserved
loop-column-preserved c =
    let payload : c.deref.result.now ≡ definition_payload c.column-item.result = c.deref.ensures.value ∙ c.in_ok-payload.ensures ∙ ap definition_payload c.as_slice.ensures in
    written-next definition_payload c.args.first c.args.out.now.items c.loop-column.out.items c.write_message.new.out.items c.args.columns.now c.loop-column.column-index c.column-item.result c.loop-column.id c.in_ok-id.id (omega arith) c.column-item.is c.loop-column.invariant
    (c.in_ok-id.ensures.bytes ∙ ap (λ bs. c.loop-column.out.items ++ spelling c.loop-column.id bs) payload) (c.in_ok-id.ensures.behind ∙ ap (id_behind c.loop-column.id) payload)
