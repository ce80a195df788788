use Rattle.std.proofs.Common.{◌≡◌, ◌++◌, take, flat_map}
use Rattle.sql_whitelist.specs.Text.{behind}
use Rattle.sql_whitelist.proofs.text.write_hashes.Given as goal

-- the hashes so far
abbrev pub invariant-loop-hash : goal.invariant-loop-hash
invariant-loop-hash l = l.out ≡ l.initial.out ++ flat_map behind (take l.hash-index l.rest)
