use Rattle.std.proofs.Common.{◌≡◌, ◌∷◌, ◌++◌, ℕ, List, IfOk, codes, decimal, subst, ◌∙◌}
use Rattle.link_state.specs.Spells.{spelt}
use Rattle.link_state.proofs.spells.spell_id.Goals as goal

pub returns : goal.returns
returns c =
    let text : c.deref.result.now ≡ codes "SET SESSION last_insert_id = " ++ decimal c.args.id = c.deref.ensures.value ∙ c.in_ok-text.ensures in
    subst (λ (bytes : List ℕ). IfOk c.spell_text.result (λ (whole : List ℕ). whole ≡ spelt (3 ∷ bytes))) text c.spell_text.ensures
