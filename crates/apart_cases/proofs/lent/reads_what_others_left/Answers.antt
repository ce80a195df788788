use Rattle.std.proofs.Common.{sym, ◌∙◌}
use Rattle.router_promises.proofs.Refusals.{never, own-read}
use Rattle.apart_cases.proofs.Kept.{could-come}
use Rattle.apart_cases.proofs.lent.reads_what_others_left.Goals as goal

pub returns : goal.returns
returns c = λ terms past link n due tells others. never (sym (own-read _ _ n due _ (could-come terms past _ tells).fits) ∙ others)
