use Rattle.core_turns.specs.Turned.{halt_of}
use Rattle.shared_core.proofs.Goings.{parts-so}
use Rattle.shared_core.proofs.Keeping.{chosen_keeps, chosen_still, keeps_along}
use Rattle.shared_core.proofs.router.Router.parts.Goals as goal

pub returns-clause-parts : goal.returns-clause-parts
returns-clause-parts c = λ rested.
    parts-so c.args.service.now.buffer_budget c.args.client c.args.ends (halt_of c.args.stop) _ _ _ _ c.changed.ensures c.in_ok-stops.ensures.parts (chosen_still c.stops.new.self) rested

pub returns-clause-keeps : goal.returns-clause-keeps
returns-clause-keeps c =
    keeps_along _ _ _ c.in_ok-stops.ensures.keeps (chosen_keeps _ _ c.changed.ensures)
