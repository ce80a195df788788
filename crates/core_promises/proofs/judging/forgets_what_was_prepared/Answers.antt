use Rattle.std.specs.Prelude.{◌∷◌, ◌≡◌, [], Some}
use Rattle.log_story.specs.Plan.{com_execute, com_statement_reset}
use Rattle.router_promises.specs.Errors.{unknown_statement}
use Rattle.core_promises.specs.Judges.{Situation}
use Rattle.core_promises.specs.Wrong.{book_up}
use Rattle.core_promises.proofs.Forgetting.{resets-known, runs-known}
use Rattle.core_promises.proofs.Texts.{answer-for, as-stood, stood}
use Rattle.core_promises.proofs.judging.forgets_what_was_prepared.Goals as goal

pub returns : goal.returns
returns c = record {
  runs = λ terms rest number id one answers named some there.
      runs-known (book_up answers.up) (stood terms (com_execute ∷ rest) answers.up) answers.up.client.number rest number id one some
      (as-stood terms (com_execute ∷ rest) answers.up (λ (situation : Situation). situation.statements number ≡ Some one) there)
      (answer-for terms (com_execute ∷ rest) (unknown_statement id ∷ []) answers) named;
  resets = λ terms rest number id one answers named some there.
      resets-known (book_up answers.up) (stood terms (com_statement_reset ∷ rest) answers.up) answers.up.client.number rest number id one some
      (as-stood terms (com_statement_reset ∷ rest) answers.up (λ (situation : Situation). situation.statements number ≡ Some one) there)
      (answer-for terms (com_statement_reset ∷ rest) (unknown_statement id ∷ []) answers) named;
}
