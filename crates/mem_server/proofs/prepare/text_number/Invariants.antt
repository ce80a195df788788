use Rattle.std.proofs.Common.{◌≡◌, ◌<◌, ◌^◌, drop}
use Rattle.std.specs.Prelude.{fold}
use Rattle.mem_rule.specs.Commands.{mixed}
use Rattle.mem_server.proofs.prepare.text_number.Given as goal

abbrev pub invariant-loop-byte : goal.invariant-loop-byte
invariant-loop-byte l = (fold mixed l.sum (drop l.byte-index l.text) ≡ fold mixed 7 l.text) × (l.sum < 2 ^ 32)
