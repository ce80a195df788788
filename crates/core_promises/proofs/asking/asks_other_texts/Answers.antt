use Rattle.core_promises.proofs.Texts.{rewritten-as}
use Rattle.core_promises.proofs.asking.asks_other_texts.Goals as goal

pub returns : goal.returns
returns c = λ terms payload text asks other.
    let made = rewritten-as terms payload text asks in
    other made.ask made.own made.is
