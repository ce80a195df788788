use Rattle.scripted_wire.proofs.scripted.Scripted.log.Goals as goal

pub returns-clause-plays : goal.returns-clause-plays
returns-clause-plays g c = rw (← c.self.view_is) (λ log is. record { scene = record { stage = c.self.inside.stage; hosted = c.self.inside.hosts }; plays = c.self.invariant.1.plays log is })
