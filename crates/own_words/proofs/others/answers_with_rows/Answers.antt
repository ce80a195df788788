use Rattle.own_words.proofs.Words.{answer-rows}
use Rattle.own_words.proofs.others.answers_with_rows.Goals as goal

pub returns : goal.returns
returns c = λ rules client payloads first second more answers rows none.
    let number = answer-rows rules client payloads first second more answers rows in
    none number.0 number.1
