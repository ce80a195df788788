use Rattle.step_laws.proofs.Sparing.{more_spared, spares_along}
use Rattle.step_laws.proofs.spared.spares_along.Goals as goal

pub returns : goal.returns
returns c = record {
  along = λ setup touched whose old mid new first next. spares_along setup touched whose old mid new first next;
  more = λ setup touched others whose more old new links sessions spares. more_spared setup touched others whose more old new links sessions spares;
}
