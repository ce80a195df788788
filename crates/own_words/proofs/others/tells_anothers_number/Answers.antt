use Rattle.own_words.specs.Own.{number_payloads}
use Rattle.std.proofs.Common.{refl}
use Rattle.own_words.proofs.Words.{answer-rows, same-number}
use Rattle.own_words.proofs.others.tells_anothers_number.Goals as goal

pub returns : goal.returns
returns c = λ rules client other status answers fits other_fits apart.
    let number = answer-rows rules client (number_payloads status other.0) _ _ _ answers refl in
    apart (same-number other.0 client.0 other_fits fits status number.0 number.1)
