use Rattle.std.proofs.Common.{◌∙◌, ap, sym, Ok}
use Rattle.packet_frame.specs.Packets.{Found}
use Rattle.packet_frame.specs.Joining.{next_joined}
use Rattle.packet_frame.proofs.Joins.{due-body}
use Rattle.packet_frame.proofs.kept.Kept.join_next.Goals as goal

pub join-requires-clause-there : goal.join-requires-clause-there
join-requires-clause-there c =
    (due-body c.args.limit c.args.self.now c.size-announced.result c.due.result c.rest.result.now c.in-Some.body c.size-announced.ensures.is c.due.ensures c.rest.ensures c.packet_of.ensures.bytes
    (ap Ok (sym c.in-Some.is) ∙ sym c.in_ok-body.was ∙ c.packet_of.ensures.told)).there

pub join-requires-clause-most : goal.join-requires-clause-most
join-requires-clause-most c =
    (due-body c.args.limit c.args.self.now c.size-announced.result c.due.result c.rest.result.now c.in-Some.body c.size-announced.ensures.is c.due.ensures c.rest.ensures c.packet_of.ensures.bytes
    (ap Ok (sym c.in-Some.is) ∙ sym c.in_ok-body.was ∙ c.packet_of.ensures.told)).most

pub returns-in-Some-clause-after : goal.returns-in-Some-clause-after
returns-in-Some-clause-after c =
    let at =
    due-body c.args.limit c.args.self.now c.size-announced.result c.due.result c.rest.result.now c.in-Some.body c.size-announced.ensures.is c.due.ensures c.rest.ensures c.packet_of.ensures.bytes
    (ap Ok (sym c.in-Some.is) ∙ sym c.in_ok-body.was ∙ c.packet_of.ensures.told) in
    c.join.ensures ∙ ap (λ (found : Found). next_joined found c.args.self.now) (sym at.is)
