use Rattle.std.proofs.Common.{◌≡◌, take}
use Rattle.std.specs.List.{flat_map}
use Rattle.link_state.specs.Spells.{long_bytes}
use Rattle.link_state.proofs.spells.spell_parts.Given as goal

abbrev pub invariant-loop-part : goal.invariant-loop-part
invariant-loop-part l = l.bytes.items ≡ flat_map (long_bytes l.number) (take l.part-index l.parts)
