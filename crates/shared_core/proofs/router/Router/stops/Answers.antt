use Rattle.std.proofs.Common.{refl}
use Rattle.core_laws.specs.clients.Turns.{Ends, Quits}
use Rattle.shared_core.specs.Stands.{tables}
use Rattle.shared_core.proofs.Goings.{stays-so, stop-so}
use Rattle.shared_core.proofs.router.Router.stops.Goals as goal

pub returns-in_ok-waits-in-Waits-clause-parts : goal.returns-in_ok-waits-in-Waits-clause-parts
returns-in_ok-waits-in-Waits-clause-parts c =
    stop-so c.args.service.now.buffer_budget c.args.client c.args.ends c.args.stop _ _ _ c.in-Waits.is (λ rested. c.in_ok-waits-in-Waits.ensures.parts c.args.service.now.buffer_budget)

pub returns-in_ok-rests-in-Rests-clause-parts : goal.returns-in_ok-rests-in-Rests-clause-parts
returns-in_ok-rests-in-Rests-clause-parts c =
    stop-so c.args.service.now.buffer_budget c.args.client c.args.ends c.args.stop _ _ _ c.in-Rests.is (λ rested. c.in_ok-rests-in-Rests.ensures.parts rested)

pub returns-in-Ends-clause-parts : goal.returns-in-Ends-clause-parts
returns-in-Ends-clause-parts c =
    stop-so c.args.service.now.buffer_budget c.args.client c.args.ends c.args.stop _ _ _ c.in-Ends.is
    (λ rested. stays-so c.args.service.now.buffer_budget c.args.client c.args.ends Ends (tables c.args.self.now) (λ is. refl))

pub returns-in-Quits-clause-parts : goal.returns-in-Quits-clause-parts
returns-in-Quits-clause-parts c =
    stop-so c.args.service.now.buffer_budget c.args.client c.args.ends c.args.stop _ _ _ c.in-Quits.is
    (λ rested. stays-so c.args.service.now.buffer_budget c.args.client c.args.ends Quits (tables c.args.self.now) (λ is. refl))
