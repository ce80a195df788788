use Rattle.std.specs.Prelude.{◌∷◌, ◌≡◌, None}
use Rattle.std.specs.Option.{option_and_then}
use Rattle.std.proofs.Common.{subst}
use Rattle.log_story.specs.Plan.{com_execute}
use Rattle.core_promises.specs.Judges.{Situation}
use Rattle.core_promises.specs.Statements.{number_named}
use Rattle.core_promises.specs.Wrong.{book_up, IsOfStatement}
use Rattle.core_promises.proofs.Statements.{runs-prepared}
use Rattle.core_promises.proofs.Texts.{as-stood, keys_in, route-for, stood}
use Rattle.core_promises.proofs.judging.runs_what_wasnt_prepared.Goals as goal

pub returns : goal.returns
returns c = λ terms rest route sends unprepared.
    let ran =
    runs-prepared (book_up sends.up) (stood terms (com_execute ∷ rest) sends.up) (keys_in terms) sends.up.client.number rest route
    (route-for terms (com_execute ∷ rest) route sends) in
    subst (IsOfStatement ran.transaction route)
    (as-stood terms (com_execute ∷ rest) sends.up
    (λ (situation : Situation). option_and_then situation.statements (number_named (com_execute ∷ rest)) ≡ None) unprepared)
    ran.of
