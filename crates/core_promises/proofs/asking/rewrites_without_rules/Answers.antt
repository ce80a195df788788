use Rattle.core_promises.specs.Wrong.{book_up}
use Rattle.core_promises.proofs.Texts.{own-text, rewritten-as}
use Rattle.core_promises.proofs.asking.rewrites_without_rules.Goals as goal

pub returns : goal.returns
returns c = λ terms payload text asks none other. other (own-text (book_up asks.sends.up).rules payload text (rewritten-as terms payload text asks) none)
