use Rattle.std.specs.Prelude.{◌≡◌, ℕ, List, [], ◌∷◌, Some}
use Rattle.std.proofs.Common.{refl, sym, ap, ◌∙◌, inl, inr}
use Rattle.private_model.specs.Lawful.{IsPlaced}
use Rattle.private_model.specs.Story.{Due}
use Rattle.private_model.specs.View.{Link}
use Rattle.private_model.proofs.no_schema_is_left.Goals as goal

unplaced : (link : Link) (due : Due) (name : ℕ) (rest : List ℕ) → link.told.schema ≡ Some (name ∷ rest) → due.place.schema ≡ []
    → IsPlaced link.told due.place → ⊥
unplaced link due name rest told none placed =
    let both : Some (name ∷ rest) ≡ Some [] = sym told ∙ placed.schema ∙ ap Some none in absurd (cc)

pub returns-clause-statement : goal.returns-clause-statement
returns-clause-statement c = λ setup view n due link name rest told none may. elim may.fits.how [
  | inl begins ↦ unplaced link due name rest told none begins.begins.placed
  | inr goes_on ↦ unplaced link due name rest told none goes_on.goes_on.placed
]

pub returns-clause-step : goal.returns-clause-step
returns-clause-step c = λ setup view n link may. may.fits.fits refl

pub returns-clause-own : goal.returns-clause-own
returns-clause-own c = λ setup view link may. may.fits.fits refl
