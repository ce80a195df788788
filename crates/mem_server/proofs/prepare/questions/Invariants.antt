use Rattle.std.proofs.Common.{◌≡◌, replicate, codes}
use Rattle.mem_server.proofs.prepare.questions.Given as goal

abbrev pub invariant-loop : goal.invariant-loop
invariant-loop l = l.out ≡ replicate l.counter (codes "?")
