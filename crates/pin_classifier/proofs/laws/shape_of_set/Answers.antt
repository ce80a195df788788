use Rattle.pin_classifier.proofs.Sets as sets
use Rattle.pin_classifier.proofs.laws.shape_of_set.Goals as goal

pub returns : goal.returns
returns c = sets.shape_of_set
