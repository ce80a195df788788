use Rattle.std.specs.Prelude.{length}
use Rattle.std.proofs.Common.{arith}
use Rattle.log_story.specs.Owed.{messages}
use Rattle.core_laws.proofs.OfClients.Finding.{turning_of}
use Rattle.core_laws.specs.clients.Following.{to_look}
use Rattle.core_laws.proofs.clients.follows.follows_find.Goals as goal

pub returns : goal.returns
returns law = λ service default g mid now fresh e client freed choices halt parting c same is stands turns.
    law.turns_find.ensures service default client client freed (to_look g fresh freed) mid now choices halt c same
    (turning_of service default g mid fresh e client freed choices halt parting is stands) is.chosen turns (length (messages g.plan client)) (omega arith)
