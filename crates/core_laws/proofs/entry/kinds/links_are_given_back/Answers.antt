use Rattle.core_laws.proofs.OfEntry.Freeing.{frees_all}
use Rattle.core_laws.proofs.entry.kinds.links_are_given_back.Goals as goal

pub returns : goal.returns
returns c = λ service g t links stands there. frees_all service (c.freed_stands.ensures.stands service) links g t stands there
