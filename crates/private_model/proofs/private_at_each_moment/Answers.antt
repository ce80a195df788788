use Rattle.private_model.proofs.Past.{honest_before, lawful_before}
use Rattle.private_model.proofs.private_at_each_moment.Goals as goal
use Rattle.private_model.specs.Commands.{runs}

pub returns : goal.returns
returns c = λ setup tests server later past tame accepted lawful honest. c.private_world.ensures setup tests server past tame accepted (lawful_before setup later past lawful) (honest_before setup (runs server) later past honest)
