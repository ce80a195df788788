use Rattle.std.proofs.Common.{◌≡◌, take}
use Rattle.std.specs.List.{flat_map}
use Rattle.generated_load.specs.Replies.{ends_for}
use Rattle.generated_load.proofs.replies.ends_of.Given as goal

abbrev pub invariant-loop-entry : goal.invariant-loop-entry
invariant-loop-entry l = l.ends.items ≡ flat_map (ends_for l.log) (take l.entry-index l.log)
