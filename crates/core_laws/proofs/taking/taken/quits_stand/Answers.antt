use Rattle.core_laws.proofs.OfTaking.Laws.{quitting}
use Rattle.core_laws.proofs.taking.taken.quits_stand.Goals as goal

pub returns : goal.returns
returns c = λ service g t other client row stands is. quitting c.same_stands.ensures c.seats_stand.ensures service g t other client row stands is c.left_stands.ensures.ends
