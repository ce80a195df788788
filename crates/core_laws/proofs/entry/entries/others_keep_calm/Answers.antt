use Rattle.core_laws.proofs.OfEntry.Calming.{none_idle, one_idle}
use Rattle.core_laws.proofs.OfEntry.Telling.{told_aside}
use Rattle.core_laws.proofs.entry.entries.others_keep_calm.Goals as goal

pub returns : goal.returns
returns c = record {
  told = λ setup plan client tale e aside. told_aside setup plan client tale e aside;
  one = λ setup plan client called tale e ended freed is theirs other calm. one_idle setup plan client tale e called ended freed is theirs other calm;
  none = λ setup plan client tale e ended freed whose is theirs other calm. none_idle setup plan client tale e ended freed whose is theirs other calm;
}
