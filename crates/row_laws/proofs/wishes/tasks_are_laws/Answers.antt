use Rattle.row_laws.proofs.Wishing.{task_so}
use Rattle.row_laws.proofs.wishes.tasks_are_laws.Goals as goal

pub returns : goal.returns
returns c = task_so
