use Rattle.std.proofs.Common.{◌≡◌, ◌∙◌, ap, drop, arith}
use lib.Seq.{paste}
use Rattle.packet_frame.proofs.Laid.{paste-same}
use Rattle.packet_frame.proofs.kept.move_down.Goals as goal

pub returns-else-from-to : goal.returns-else-from-to
returns-else-from-to c =
    let same : c.args.to ≡ c.args.from = omega (arith, c.if-from-to.false) in
    paste-same c.args.to c.args.n c.args.items.now.items ∙ ap (λ n. paste c.args.items.now.items c.args.to (drop n c.args.items.now.items) c.args.n) same
