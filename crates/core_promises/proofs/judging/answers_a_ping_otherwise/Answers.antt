use Rattle.core_promises.specs.Judges.{rulebook_of}
use Rattle.core_promises.specs.Wrong.{book_up}
use Rattle.core_promises.proofs.Texts.{answer-for, stood}
use Rattle.core_promises.proofs.Verdicts.{ping-told}
use Rattle.core_promises.proofs.judging.answers_a_ping_otherwise.Goals as goal

pub returns : goal.returns
returns c = λ terms rest payloads answers other.
    let told = ping-told (book_up answers.up) (stood terms _ answers.up) _ rest payloads (answer-for terms _ payloads answers) in
    other told.status told.is
