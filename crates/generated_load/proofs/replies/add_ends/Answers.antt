use Rattle.std.proofs.Common.{◌≡◌, ◌-◌, length, arith}
use Rattle.generated_load.proofs.Ends.{ends-behind, goes-on-behind, tail-size}
use Rattle.generated_load.proofs.replies.add_ends.Goals as goal

pub returns-in-None : goal.returns-in-None
returns-in-None c =
    ends-behind c.args.bytes.now c.args.ends.now.items c.loop.bytes c.first_end.new.bytes c.loop.at c.loop.counter c.loop.ends.items c.loop.invariant (omega arith) c.in-None.ensures.first

pub loop-preserved : goal.loop-preserved
loop-preserved c =
    let size : length c.first_end.new.bytes ≡ length c.loop.bytes - c.loop.at = omega (arith, c.first_end.auto.bytes, tail-size c.loop.at c.loop.bytes) in
    rw c.in_ok-push-in-Some.ensures.items
    (goes-on-behind c.args.bytes.now c.args.ends.now.items c.loop.bytes c.first_end.new.bytes c.loop.at c.loop.counter c.loop.ends.items c.in-Some.first c.loop.invariant (omega arith)
    c.in-Some.ensures.first size)
