use Rattle.hostgroups.proofs.Turning.{next_in_round, next_in_later, next_in_none}
use Rattle.hostgroups.proofs.round.next_ready.Goals as goal

pub returns-then-later-coming-clause-some : goal.returns-then-later-coming-clause-some
returns-then-later-coming-clause-some c = next_in_round _ _ _ _ _ c.requires c.split_at.ensures.back c.first_ready-later.ensures
    c.if-later-coming.true

pub returns-then-place-over-clause-some : goal.returns-then-place-over-clause-some
returns-then-place-over-clause-some c =
    next_in_later _ _ _ _ _ _ _ c.requires c.split_at.ensures.back c.split_at.ensures.front c.first_ready-later.ensures
    c.if-later-coming.false c.first_ready-place.ensures c.if-place-over.true

pub returns-else-place-over-clause-none : goal.returns-else-place-over-clause-none
returns-else-place-over-clause-none c =
    next_in_none _ _ _ _ _ _ _ c.requires c.split_at.ensures.back c.split_at.ensures.front c.first_ready-later.ensures
    c.if-later-coming.false c.first_ready-place.ensures c.if-place-over.false
