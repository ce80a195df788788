use Rattle.mem_wire.proofs.Arrivals.{tape-first}
use Rattle.mem_wire.proofs.tape.Tape.new.Goals as goal

pub invariant_of-result : goal.invariant_of-result
invariant_of-result c = tape-first c.args.entries.items c.new_stage.result c.new.result c.requires c.new_stage.ensures c.new.ensures
