use Rattle.std.proofs.Common.{ap, ◌++◌, ◌∙◌, arith}
use Rattle.packet_frame.specs.Packets.{packet}
use Rattle.packet_frame.proofs.Spelt.{spelt-none, spelt-packet, begins-again}
use Rattle.packet_frame.proofs.write.write_packets.Goals as goal

pub loop-rest-init : goal.loop-rest-init
loop-rest-init c = spelt-none c.args.out.now.items c.args.first c.args.payload.now

pub returns-in_err-write_packet-clause-err : goal.returns-in_err-write_packet-clause-err
returns-in_err-write_packet-clause-err c = begins-again _ _ _ c.loop-rest.invariant.begins c.write_packet.ensures.err

pub loop-rest-preserved : goal.loop-rest-preserved
loop-rest-preserved c =
    rw (c.following-id.ensures, c.split_at.ensures.back)
    (spelt-packet c.args.out.now.items c.loop-rest.out.items c.write_packet.new.out.items c.args.first c.args.payload.now c.loop-rest.id c.loop-rest.rest.now (omega arith)
    (c.in_ok-write_packet.ensures.bytes ∙ ap (λ body. c.loop-rest.out.items ++ packet c.loop-rest.id body) c.split_at.ensures.front)
    c.loop-rest.invariant)
