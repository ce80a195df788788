use Rattle.ready_loop.proofs.Ending.{stood_now}
use Rattle.ready_loop.proofs.serving.serve.Goals as goal

pub returns-in_default-clause-broke : goal.returns-in_default-clause-broke
returns-in_default-clause-broke g c = λ refused. stood_now _ _ _ _ _ c.requires.stands

pub returns-in-Ok-start-clause-listens : goal.returns-in-Ok-start-clause-listens
returns-in-Ok-start-clause-listens g c = (c.serve_turns.ensures.proceeds.listens _ _ c.in-Ok-start.ensures.listening).first
