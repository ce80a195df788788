use Rattle.std.specs.Prelude.{take}
use Rattle.run_laws.specs.Wholes.{AreShort}
use Rattle.core_turns.proofs.judged.measure.Given as goal

abbrev pub invariant-loop-part : goal.invariant-loop-part
invariant-loop-part l = AreShort (take l.part-index l.parts)
