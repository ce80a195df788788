use Rattle.generated_load.proofs.Ends.{InEnds}
use Rattle.generated_load.proofs.replies.add_ends.Given as goal

abbrev pub invariant-loop : goal.invariant-loop
invariant-loop l = InEnds l.fn.bytes l.fn.ends.items l.bytes l.at l.counter l.ends.items
