use Rattle.tale_world.proofs.Owing.{due_so_far}
use Rattle.tale_world.proofs.due_so_far.Goals as goal

pub returns : goal.returns
returns c = λ client view moment plan other same. due_so_far client view moment plan other same
