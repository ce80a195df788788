use Rattle.private_model.proofs.private_replies.Goals as goal

pub returns : goal.returns
returns c = λ setup tests step story tame accepted lawful honest message reply read. (c.private_world.ensures setup tests step story tame accepted lawful honest).replies message reply read
