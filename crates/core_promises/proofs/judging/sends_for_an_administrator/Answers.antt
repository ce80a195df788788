use Rattle.std.specs.Prelude.{◌≡◌}
use Rattle.std.proofs.Common.{sym, ◌∙◌}
use Rattle.mx_base.specs.declared.names.Port.TheVariants.{Admin, Traffic}
use Rattle.core_promises.specs.Judges.{Situation}
use Rattle.core_promises.proofs.Texts.{as-stood, route-for}
use Rattle.core_promises.proofs.judging.sends_for_an_administrator.Goals as goal

pub returns : goal.returns
returns c = λ terms payload route sends admin.
    let came = as-stood terms payload sends.up (λ (situation : Situation). situation.port ≡ Admin) admin in
    absurd (let no : Admin ≡ Traffic = sym came ∙ (route-for terms payload route sends).port in cc)
