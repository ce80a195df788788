use Rattle.core_laws.proofs.OfTaking.Laws.{own_answers}
use Rattle.core_laws.proofs.taking.taken.own_answers_stand.Goals as goal

pub returns : goal.returns
returns c = λ service g t other client row stands is. own_answers c.same_stands.ensures c.seats_stand.ensures service g t other client row stands is
