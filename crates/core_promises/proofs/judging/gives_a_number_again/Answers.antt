use Rattle.std.specs.Prelude.{◌∷◌, ◌≡◌, true}
use Rattle.std.proofs.Common.{sym, ◌∙◌}
use Rattle.std.proofs.lemmas.Bool.{true≢false}
use Rattle.log_story.specs.Plan.{com_prepare}
use Rattle.core_promises.specs.Judges.{Situation}
use Rattle.core_promises.specs.Wrong.{book_up}
use Rattle.core_promises.proofs.Statements.{gives-new}
use Rattle.core_promises.proofs.Texts.{as-stood, keys_in, route-for, stood}
use Rattle.core_promises.proofs.judging.gives_a_number_again.Goals as goal

pub returns : goal.returns
returns c = λ terms text route sends given.
    let again = as-stood terms (com_prepare ∷ text) sends.up (λ (situation : Situation). situation.given route.number ≡ true) given in
    true≢false (sym again
    ∙ gives-new (book_up sends.up) (stood terms (com_prepare ∷ text) sends.up) (keys_in terms) sends.up.client.number text route
    (route-for terms (com_prepare ∷ text) route sends))
