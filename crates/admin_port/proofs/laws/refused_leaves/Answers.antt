use Rattle.admin_port.proofs.Refusals.{refused_leaves}
use Rattle.admin_port.proofs.laws.refused_leaves.Goals as goal

pub returns : goal.returns
returns c = refused_leaves
