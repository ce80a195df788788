use Rattle.std.proofs.Common.{arith}
use Rattle.core_promises.specs.Judges.{rulebook_of}
use Rattle.core_promises.specs.Wrong.{book_up}
use Rattle.core_promises.proofs.Texts.{answer-for, stood}
use Rattle.core_promises.proofs.Verdicts.{choice-told}
use Rattle.core_promises.proofs.judging.answers_a_choice.Goals as goal

pub returns : goal.returns
returns c = λ terms schema info status answers.
    let error = choice-told (book_up answers.up) (stood terms _ answers.up) _ schema _ (answer-for terms _ _ answers) in
    absurd (omega (arith, error))
