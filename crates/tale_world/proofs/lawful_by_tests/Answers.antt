use Rattle.tale_world.proofs.Lawfully.{lawful_so}
use Rattle.tale_world.proofs.lawful_by_tests.Goals as goal

pub returns : goal.returns
returns c = λ setup plan log tested unbroken. lawful_so setup plan log tested unbroken
