use Rattle.own_words.proofs.Words.{own-any}
use Rattle.own_words.proofs.others.own_answers_are_everybodys.Goals as goal

pub returns : goal.returns
returns c = own-any
