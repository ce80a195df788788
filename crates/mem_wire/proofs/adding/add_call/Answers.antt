use Rattle.mem_wire.specs.Adds.{late_entries}
use Rattle.mem_wire.proofs.Telling.{calls_after}
use Rattle.mem_wire.proofs.adding.add_call.Goals as goal

pub returns : goal.returns
returns c = calls_after _ _ _ (late_entries c.args.late.now) c.args.entry c.add_marks.ensures c.add.ensures.adds c.add.ensures.bounded
