use Rattle.hostgroups.proofs.Deals.{Shares}
use Rattle.hostgroups.proofs.dealing.shares.Given as goal

abbrev pub invariant-loop-at : goal.invariant-loop-at
invariant-loop-at l = Shares l.rows l.hostgroup l.heaviest l.at l.shares.items l.first
