use Rattle.core_laws.proofs.OfEntry.Spoken.{of_speaker, speaker_goes}
use Rattle.core_laws.proofs.entry.kinds.entries_of_a_speaker.Goals as goal

pub returns : goal.returns
returns c = record {
  one = λ g link bytes client ended over is ends. of_speaker g link bytes client over is ended ends;
  takes = λ g link bytes client over is. speaker_goes g link bytes client over is;
}
