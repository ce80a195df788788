use Rattle.std.proofs.Common.{◌≡◌, take}
use Rattle.std.specs.List.{position_or_len}
use Rattle.hostgroups.specs.Picks.{is_ready}
use Rattle.hostgroups.proofs.round.first_ready.Given as goal

abbrev pub invariant-loop-place : goal.invariant-loop-place
invariant-loop-place l = position_or_len (is_ready l.servers l.counts) (take l.place l.turns) ≡ l.place
