use Rattle.shared_core.proofs.Standing.{loads_stand, still_stand}
use Rattle.shared_core.proofs.whole.Core.follow_rules.Goals as goal

pub returns-in-Some-clause-stands : goal.returns-in-Some-clause-stands
returns-in-Some-clause-stands c =
    loads_stand c.routers_load.ensures c.args.self.now c.in-Some.loaded c.take.new.self c.in-Some.ensures.value c.take.ensures.after

pub returns-in-None-clause-stands : goal.returns-in-None-clause-stands
returns-in-None-clause-stands c = still_stand c.args.self.now c.take.new.self c.in-None.ensures.value c.take.ensures.after
