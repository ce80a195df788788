use Rattle.std.proofs.Common.{◌≡◌, ℕ, List, rules, ap, ◌∙◌}
use Rattle.indexmap.proofs.CallerLemmas.{filter-RetainsPairs}
use Rattle.link_state.specs.Stood.{closed}
use Rattle.link_state.proofs.standing.Standing.close.Goals as goal

pub returns : goal.returns
returns c =
    let filtered : c.retain.new.self.entries ≡ closed c.self.inside.numbers.entries c.args.number =
    filter-RetainsPairs _ _ _ (λ k v b w g call. search rules) _ _ c.retain.ensures.filtered in
    filtered ∙ ap (λ (entries : List (ℕ × ℕ)). closed entries c.args.number) c.self.view_is
