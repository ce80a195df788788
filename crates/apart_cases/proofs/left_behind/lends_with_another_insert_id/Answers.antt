use Rattle.apart_cases.proofs.Kept.{could-come}
use Rattle.apart_cases.proofs.LeftBehind.{ids-agree}
use Rattle.apart_cases.proofs.left_behind.lends_with_another_insert_id.Goals as goal

pub returns : goal.returns
returns c = λ terms past link n due tells marked first other. other (ids-agree _ _ n due _ (could-come terms past _ tells).fits marked first)
