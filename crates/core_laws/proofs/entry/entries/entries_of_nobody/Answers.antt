use Rattle.core_laws.proofs.OfEntry.Composing.{rest_of_nobody, told_alone}
use Rattle.core_laws.proofs.entry.entries.entries_of_nobody.Goals as goal

pub returns : goal.returns
returns c = record {
  step = λ service g t roomy e rests nobody. told_alone service g t t roomy roomy e rests nobody;
  rest = λ service g t now roomy room e whose rests nobody its spared stands rooms own.
      rest_of_nobody service g t now roomy room e rests nobody whose its spared stands rooms own;
}
