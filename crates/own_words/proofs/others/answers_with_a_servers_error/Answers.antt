use Rattle.std.proofs.Common.{refl}
use Rattle.own_words.proofs.Words.{own-error}
use Rattle.own_words.proofs.others.answers_with_a_servers_error.Goals as goal

pub returns : goal.returns
returns c = λ rules plan m from code state text speaks is other. own-error (rules m) m.client _ code state text (speaks.own m _ is) refl other
