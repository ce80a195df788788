use Rattle.std.proofs.Common.{sym, ◌∙◌}
use Rattle.router_promises.proofs.Refusals.{never}
use Rattle.apart_cases.proofs.Kept.{could-come, freed-clean}
use Rattle.apart_cases.proofs.lent.gives_back_what_is_unreset.Goals as goal

pub returns : goal.returns
returns c = λ terms past link n tells carries needs. never (sym needs ∙ freed-clean _ _ n (could-come terms past _ tells) carries)
