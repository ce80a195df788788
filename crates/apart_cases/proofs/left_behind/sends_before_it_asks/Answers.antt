use Rattle.apart_cases.proofs.Kept.{could-come}
use Rattle.apart_cases.proofs.LeftBehind.{asked-first}
use Rattle.apart_cases.proofs.left_behind.sends_before_it_asks.Goals as goal

pub returns : goal.returns
returns c = λ terms past link n due tells free unknown. asked-first _ _ n due _ (could-come terms past _ tells).fits free unknown
