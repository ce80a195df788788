use Rattle.core_promises.proofs.administering.loads_other_rules.Goals as goal

pub returns : goal.returns
returns c = λ text was is answer other. other answer.forces
