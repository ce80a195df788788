use Rattle.std.proofs.Common.{◌≡◌, ◌+◌, ◌-◌, ◌∙◌, ap, sym, take, drop, arith}
use Rattle.std.proofs.lemmas.List.{drop-drop}
use Rattle.packet_frame.specs.Joining.{Joined}
use Rattle.packet_frame.proofs.kept.Kept.payload.Goals as goal

pub returns : goal.returns
returns c =
    let size : (c.self.inside.gone + 4 + c.self.inside.size) - (c.self.inside.gone + 4) ≡ c.self.inside.size = omega arith in
    ap (λ n. take n (drop (c.self.inside.gone + 4) c.deref.result.now)) size
    ∙ ap (λ xs. take c.self.inside.size (drop (c.self.inside.gone + 4) xs)) c.deref.ensures.value
    ∙ ap (take c.self.inside.size) (sym (drop-drop 4 c.self.inside.gone c.self.inside.items.items))
    ∙ ap (λ (j : Joined). j.payload) c.self.view_is
