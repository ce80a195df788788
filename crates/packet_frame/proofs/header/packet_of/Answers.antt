use Rattle.std.proofs.Common.{◌≡◌, ap, arith}
use Rattle.packet_frame.specs.Packets.{packet_length, packet_id}
use Rattle.packet_frame.specs.declared.header.Header.{Header}
use Rattle.packet_frame.proofs.Joins.{told-whole}
use Rattle.packet_frame.proofs.header.packet_of.Goals as goal

pub returns-clause-told : goal.returns-clause-told
returns-clause-told c =
    let header = c.in-Some.ensures in
    let length : c.in-Some.header.length ≡ packet_length c.args.bytes.now = ap (λ (h : Header). h.length) header.1 in
    let id : c.in-Some.header.id ≡ packet_id c.args.bytes.now = ap (λ (h : Header). h.id) header.1 in
    rw length (told-whole c.args.limit c.args.announced c.args.id c.args.bytes.now header.0 (cc) (omega (arith, length)) (omega (arith, length)))
