use Rattle.std.proofs.Common.{◌≡◌, take}
use Rattle.std.specs.List.{flat_map}
use Rattle.generated_load.specs.Replies.{wrote_on}
use Rattle.generated_load.proofs.replies.written_on.Given as goal

abbrev pub invariant-loop-entry : goal.invariant-loop-entry
invariant-loop-entry l = l.bytes.items ≡ flat_map (wrote_on l.link) (take l.entry-index l.log)
