use Rattle.pin_classifier.proofs.Together.{stand_together, together_found}
use Rattle.pin_classifier.specs.Statement.{calls}
use Rattle.pin_classifier.proofs.laws.call_stands.Goals as goal

pub returns-clause-found : goal.returns-clause-found
returns-clause-found c = λ text name tokens. stand_together (calls text name) tokens

pub returns-clause-only : goal.returns-clause-only
returns-clause-only c = λ text name tokens. together_found (calls text name) tokens
