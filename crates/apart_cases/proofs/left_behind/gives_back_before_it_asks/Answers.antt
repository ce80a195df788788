use Rattle.apart_cases.proofs.Kept.{could-come}
use Rattle.apart_cases.proofs.LeftBehind.{kept-until-known}
use Rattle.apart_cases.proofs.left_behind.gives_back_before_it_asks.Goals as goal

pub returns : goal.returns
returns c = λ terms past link n tells carries unknown here. kept-until-known _ _ n (could-come terms past _ tells) carries unknown here
