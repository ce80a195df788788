use Rattle.std.proofs.Common.{◌≡◌, ◌++◌, take}
use Rattle.session_vars.specs.Names.{lower_case}
use Rattle.session_vars.proofs.names.push_lower_case.Given as goal

abbrev pub invariant-loop-byte : goal.invariant-loop-byte
invariant-loop-byte l = l.out.items ≡ l.initial.out.items ++ lower_case (take l.byte-index l.bytes)
