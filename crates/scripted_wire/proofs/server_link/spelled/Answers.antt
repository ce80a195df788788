use Rattle.std.proofs.Common.{◌≡◌, ◌+◌, [], ◌∷◌, ◌++◌, ◌∙◌, ap, sym, take, arith, append-nil}
use Rattle.std.proofs.lemmas.List.{take_more}
use Rattle.packet_frame.specs.Packets.{spelling, id_behind}
use Rattle.reply_text.proofs.Written.{written-more}
use Rattle.scripted_wire.proofs.server_link.spelled.Goals as goal

pub loop-payload-preserved : goal.loop-payload-preserved
loop-payload-preserved c =
    let out = c.loop-payload.packets.items in
    let id = c.loop-payload.id in
    let x = c.payload-item.result in
    let i = c.loop-payload.payload-index in
    let xs = c.args.payloads.now in
    let one : take (i + 1) xs ≡ take i xs ++ x ∷ [] = take_more xs i x (omega arith) ∙ ap (λ y. take i xs ++ y ∷ []) (sym c.payload-item.is) in
    rw one
    (written-more c.args.first [] out c.write_message.new.out.items (take i xs) (x ∷ []) id c.in_ok-id.id c.loop-payload.invariant
    (c.in_ok-id.ensures.bytes ∙ ap (λ p. out ++ spelling id p) c.as_slice.ensures ∙ ap (λ bs. out ++ bs) (sym (append-nil (spelling id x))))
    (c.in_ok-id.ensures.behind ∙ ap (id_behind id) c.as_slice.ensures))
