use Rattle.std.proofs.Common.{◌≤◌, ◌+◌, ◌*◌, ◌∙◌, ap, length, drop, arith}
use Rattle.packet_frame.specs.Joining.{Joined, joined_of, with_body}
use Rattle.packet_frame.proofs.Laid.{laid-joined}
use Rattle.packet_frame.proofs.kept.Kept.join.Goals as goal

pub returns : goal.returns
returns c =
    let there : 4 + c.args.body ≤ length (drop (4 * c.self.inside.packets + c.self.inside.size) (drop c.self.inside.gone c.self.inside.items.items)) =
    omega (arith, c.requires.there, ap (λ (j : Joined). length j.rest) c.self.view_is) in
    ap (λ xs. joined_of (c.self.inside.packets + 1) c.self.inside.first (c.self.inside.size + c.args.body) (drop c.self.inside.gone xs)) c.move_down.ensures
    ∙ laid-joined c.self.inside.gone c.self.inside.packets c.self.inside.first c.self.inside.size c.args.body c.self.inside.items.items c.self.invariant there
    ∙ ap (with_body c.args.body) c.self.view_is
