use Rattle.pin_classifier.proofs.Together.{stand_together, together_found}
use Rattle.pin_classifier.specs.Statement.{releases}
use Rattle.pin_classifier.proofs.laws.release_stands.Goals as goal

pub returns-clause-found : goal.returns-clause-found
returns-clause-found c = λ text tokens. stand_together (releases text) tokens

pub returns-clause-only : goal.returns-clause-only
returns-clause-only c = λ text tokens. together_found (releases text) tokens
