use Rattle.std.proofs.Common.{◌≡◌, false, take}
use Rattle.std.specs.List.{list_any}
use Rattle.hostgroups.specs.Picks.{is_online_at}
use Rattle.hostgroups.proofs.round.any_online.Given as goal

abbrev pub invariant-loop-turn : goal.invariant-loop-turn
invariant-loop-turn l = list_any (is_online_at l.servers) (take l.turn-index l.turns) ≡ false
