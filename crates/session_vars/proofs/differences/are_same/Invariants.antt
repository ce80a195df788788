use Rattle.std.proofs.Common.{◌≡◌, take}
use Rattle.session_vars.proofs.differences.are_same.Given as goal

abbrev pub invariant-loop-place : goal.invariant-loop-place
invariant-loop-place l = take l.place l.from ≡ take l.place l.to
