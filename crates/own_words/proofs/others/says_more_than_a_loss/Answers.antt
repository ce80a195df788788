use Rattle.std.proofs.Common.{refl}
use Rattle.own_words.proofs.Words.{own-lost}
use Rattle.own_words.proofs.others.says_more_than_a_loss.Goals as goal

pub returns : goal.returns
returns c = λ rules plan m from state text speaks is other. other (own-lost (rules m) m.client _ state text (speaks.own m _ is) refl)
