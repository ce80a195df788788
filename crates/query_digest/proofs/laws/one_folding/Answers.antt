use Rattle.query_digest.proofs.LongestRuns.{folds_to, only_folded}
use Rattle.query_digest.proofs.laws.one_folding.Goals as goal

pub returns-clause-found : goal.returns-clause-found
returns-clause-found c = folds_to

pub returns-clause-only : goal.returns-clause-only
returns-clause-only c = only_folded
