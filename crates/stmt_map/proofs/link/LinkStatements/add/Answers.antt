use Rattle.std.proofs.Common.{ℕ, List, rules, ap, ◌∙◌}
use Rattle.std.specs.Prelude.{nat_eq}
use Rattle.indexmap.specs.IndexMap.{insert_entry}
use Rattle.indexmap.proofs.CallerLemmas.{filter-RetainsPairs}
use Rattle.stmt_map.proofs.link.LinkStatements.add.Goals as goal

pub returns-in-Ok : goal.returns-in-Ok
returns-in-Ok c =
    c.in-Ok.ensures.entries
    ∙ ap (λ (entries : List (ℕ × ℕ)). insert_entry nat_eq entries c.args.key c.args.number)
    (filter-RetainsPairs _ _ _ (λ k v b w g call. search rules) _ _ c.retain.ensures.filtered)
