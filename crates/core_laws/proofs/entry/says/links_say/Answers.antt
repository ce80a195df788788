use Rattle.core_laws.proofs.OfEntry.Saying.{row_says}
use Rattle.core_laws.proofs.OfEntry.Silence.{says_still}
use Rattle.core_laws.proofs.entry.says.links_say.Goals as goal

pub returns : goal.returns
returns c = record {
  by_row = row_says;
  still = λ setup plan tale e l silent is. says_still setup l plan tale e silent is;
}
