use Rattle.core_laws.proofs.OfHearing.Numbered.{numbered_so}
use Rattle.core_laws.proofs.hearing.numbers.numbers_are_heard.Goals as goal

pub returns : goal.returns
returns c = λ setup codes plan tale l row bytes stands entered fine are.
    numbered_so setup codes plan tale l row bytes stands entered fine are c.numbers_are_read.ensures
