use Rattle.std.proofs.Common.{◌++◌, ◌+◌, ◌%◌, ◌∙◌, ap, List, ℕ}
use Rattle.packet_frame.specs.Packets.{id_from}
use Rattle.packet_frame.specs.Joining.{joined_message}
use Rattle.packet_frame.proofs.Joins.{untold, told-message}
use Rattle.packet_frame.proofs.Headers.{id-open, id-whole}
use Rattle.packet_frame.proofs.answer_id.answer_id.Goals as goal

pub returns-in-Some : goal.returns-in-Some
returns-in-Some c =
    let message = told-message (joined_message c.args.kept.now) c.in-Some.field-0 c.in-Some.ensures in
    c.due.ensures ∙ id-whole c.requires.0 c.args.kept.now message.0 c.args.unfed.now c.requires.1 message.1

pub returns-in-None : goal.returns-in-None
returns-in-None c =
    c.id_behind_headers-in-None.ensures
    ∙ ap (λ i. id_from i (c.rest-in-None.result.now ++ c.args.unfed.now)) c.due-in-None.ensures
    ∙ ap (λ (xs : List ℕ). id_from ((c.args.kept.now.first + c.args.kept.now.packets) % 256) (xs ++ c.args.unfed.now)) c.rest-in-None.ensures
    ∙ id-open c.requires.0 c.args.kept.now c.args.unfed.now c.requires.1 (untold (joined_message c.args.kept.now) c.in-None.ensures) (λ none. c.if-packets-eq0.false (c.packets.ensures ∙ none))
