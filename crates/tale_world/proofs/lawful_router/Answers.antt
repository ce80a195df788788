use Rattle.std.proofs.Common.{refl}
use Rattle.tale_world.specs.Decided.{plan_of}
use Rattle.tale_world.specs.World.{first_world, world_after}
use Rattle.tale_world.proofs.Agreeing.{agrees-itself}
use Rattle.tale_world.proofs.Lawfully.{lawful_so}
use Rattle.tale_world.proofs.Tested.{tested_follows}
use Rattle.tale_world.proofs.lawful_router.Goals as goal

pub returns : goal.returns
returns g c = λ setup by service room more log tested unbroken.
    let last = world_after setup by service room more log in
    lawful_so setup (plan_of last.decided) log
    (tested_follows setup by log (first_world service room more) (plan_of last.decided) refl (agrees-itself last.decided last.tale.moment) tested) unbroken
