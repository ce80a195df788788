use Rattle.core_laws.proofs.OfEntry.Resting.{none_seats, one_seats, told_seats}
use Rattle.core_laws.proofs.entry.entries.others_keep_seats.Goals as goal

pub returns : goal.returns
returns c = record {
  told = λ setup plan whose tale e its. told_seats setup plan whose tale e its;
  one = λ setup plan client tale e ended freed is theirs its. one_seats setup plan client tale e ended freed is theirs its;
  none = λ setup plan whose tale e ended freed is its. none_seats setup plan whose tale e ended freed is its;
}
