use Rattle.std.specs.Prelude.{List, [], ◌∷◌, ◌≡◌, ℕ, map, Some, Option}
use Rattle.std.proofs.Common.{Bor, refl, ◌∙◌}
use Rattle.admin_port.specs.Sheets.{Cell}
use Rattle.admin_port.proofs.answer.one_column.Goals as goal

cells : (values : List (Bor (List ℕ))) → map (λ (value : Bor (List ℕ)). Some value.now ∷ []) values
    ≡ map (λ (value : List ℕ). Some value ∷ []) (map (λ (value : Bor (List ℕ)). value.now) values)
cells [] = refl
cells (value ∷ values) = λ i. (Some value.now ∷ []) ∷ cells values i

pub returns : goal.returns
returns c = λ i. record { columns = c.in_ok-columns.ensures i; rows = (c.in_ok-rows.ensures ∙ cells c.args.values.now) i }
