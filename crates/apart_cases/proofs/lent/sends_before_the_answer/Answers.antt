use Rattle.apart_cases.proofs.Kept.{could-come}
use Rattle.apart_cases.proofs.lent.sends_before_the_answer.Goals as goal

pub returns : goal.returns
returns c = λ terms past link question tells busy. busy (could-come terms past _ tells).quiet
