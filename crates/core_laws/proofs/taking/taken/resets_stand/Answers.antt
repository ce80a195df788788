use Rattle.core_laws.proofs.OfTaking.Laws.{resets}
use Rattle.core_laws.proofs.taking.taken.resets_stand.Goals as goal

pub returns : goal.returns
returns c = λ service g t other client row stands is. resets c.same_stands.ensures c.seats_stand.ensures service g t other client row stands is c.anew_stands.ensures c.left_stands.ensures.anew
