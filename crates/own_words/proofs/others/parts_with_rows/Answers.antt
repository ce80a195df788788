use Rattle.own_words.proofs.Words.{last-one}
use Rattle.own_words.proofs.others.parts_with_rows.Goals as goal

pub returns : goal.returns
returns c = λ rules plan c word first second more speaks is rows. last-one word.payloads first second more (speaks.words c word is) rows
