use Rattle.std.proofs.Common.{◌-◌, ◌+◌, vec_len}
use Rattle.mem_wire.specs.Tracks.{SameTracks}
use Rattle.mem_wire.proofs.tracks.reach.Given as goal

abbrev pub invariant-loop-alloc : goal.invariant-loop-alloc
invariant-loop-alloc l = SameTracks l.initial.tracks.items l.tracks.items

abbrev pub decreases-loop-alloc : goal.decreases-loop-alloc
decreases-loop-alloc l = (l.at + 1) - vec_len l.tracks
