use Rattle.private_model.proofs.FromLaws.{tame_runs}
use Rattle.private_model.proofs.Law.{private_law}
use Rattle.private_model.proofs.private_world.Goals as goal
use Rattle.private_model.specs.Commands.{runs}

pub returns : goal.returns
returns c = λ setup tests server story tame. private_law setup tests (runs server) story (tame_runs setup.reads tests server tame)
