use Rattle.std.specs.Prelude.{◌∷◌, ◌≡◌, Some}
use Rattle.std.specs.Option.{option_and_then}
use Rattle.log_story.specs.Plan.{com_execute}
use Rattle.message_judge.specs.declared.caller.Prepared.{Prepared}
use Rattle.core_promises.specs.Judges.{IsClosed, Situation}
use Rattle.core_promises.specs.Statements.{number_named}
use Rattle.core_promises.specs.Wrong.{book_up}
use Rattle.core_promises.proofs.Homing.{asked-closed}
use Rattle.core_promises.proofs.Statements.{of-prepared, runs-prepared}
use Rattle.core_promises.proofs.Texts.{as-stood, keys_in, route-for, stood}
use Rattle.core_promises.proofs.judging.runs_elsewhere.Goals as goal

pub returns : goal.returns
returns c = λ terms rest route sends hostgroup closed there elsewhere.
    let situation : Situation = stood terms (com_execute ∷ rest) sends.up in
    let ran = runs-prepared (book_up sends.up) situation (keys_in terms) sends.up.client.number rest route (route-for terms (com_execute ∷ rest) route sends) in
    elsewhere
    (of-prepared ran.transaction route hostgroup
    (option_and_then situation.statements (number_named (com_execute ∷ rest)))
    (asked-closed (book_up sends.up) situation ran.transaction ran.in_transaction (as-stood terms (com_execute ∷ rest) sends.up IsClosed closed))
    (as-stood terms (com_execute ∷ rest) sends.up
    (λ (s : Situation). (one : Prepared) → option_and_then s.statements (number_named (com_execute ∷ rest)) ≡ Some one → one.hostgroup ≡ hostgroup) there)
    ran.of)
