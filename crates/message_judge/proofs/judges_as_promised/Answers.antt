use Rattle.std.specs.Prelude.{[]}
use Rattle.std.proofs.Common.{ap, ◌∙◌}
use Rattle.mx_base.specs.declared.names.Port.{Port}
use Rattle.router_promises.specs.Verdicts.{kind_in, verdict_at}
use Rattle.message_judge.proofs.Judging.{judged-so}
use Rattle.message_judge.proofs.judges_as_promised.Goals as goal

pub returns-clause-verdict : goal.returns-clause-verdict
returns-clause-verdict c = λ terms servers flag taking caller standing prepared is stands names.
    ap (λ (port : Port). verdict_at port terms servers flag taking (kind_in terms taking)) is.port
    ∙ (judged-so terms servers flag taking caller standing prepared is stands names).verdict

pub returns-clause-flag : goal.returns-clause-flag
returns-clause-flag c = λ terms flag taking caller standing prepared is stands names.
    (judged-so terms [] flag taking caller standing prepared is stands names).flag_is
