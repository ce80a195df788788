use Rattle.step_laws.proofs.Sparing.{tell_spares, wire_spares}
use Rattle.step_laws.proofs.spared.happenings_spare.Goals as goal

pub returns : goal.returns
returns c = record {
  told = λ setup e tale. tell_spares setup e tale;
  wire = λ setup link wire whose tale. wire_spares setup link wire whose tale;
}
