use Rattle.std.proofs.Common.{sym, ◌∙◌}
use Rattle.std.proofs.Common.{refl}
use Rattle.own_words.proofs.Words.{own-info, never}
use Rattle.own_words.proofs.others.answers_ok_with_any_text.Goals as goal

pub returns : goal.returns
returns c = λ rules plan m from status text speaks is some none. never (sym (own-info (rules m) m.client _ status text (speaks.own m _ is) refl some) ∙ none)
