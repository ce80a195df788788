use Rattle.core_laws.proofs.OfEntry.Linked.{link_alone}
use Rattle.core_laws.proofs.entry.kinds.entries_of_a_link.Goals as goal

pub returns : goal.returns
returns c = link_alone
