use Rattle.std.proofs.Common.{refl}
use Rattle.row_laws.proofs.readied.others_are_spelt.Goals as goal

pub returns-clause-closes : goal.returns-clause-closes
returns-clause-closes c number purpose row = refl

pub returns-clause-resets : goal.returns-clause-resets
returns-clause-resets c number purpose row = refl

pub returns-clause-quits : goal.returns-clause-quits
returns-clause-quits c row = refl
