use Rattle.std.proofs.Common.{sym, ◌∙◌}
use Rattle.std.proofs.Common.{refl}
use Rattle.own_words.proofs.Words.{own-text, never}
use Rattle.own_words.proofs.others.answers_with_any_refusal.Goals as goal

pub returns : goal.returns
returns c = λ rules plan m from text speaks is none. never (sym (own-text (rules m) m.client _ text (speaks.own m _ is) refl) ∙ none)
