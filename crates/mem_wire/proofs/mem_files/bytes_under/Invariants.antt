use Rattle.std.proofs.Common.{◌≡◌, drop}
use Rattle.std.specs.Prelude.{bytes_eq}
use Rattle.std.specs.Map.{lookup}
use Rattle.mem_wire.proofs.mem_files.bytes_under.Given as goal

abbrev pub invariant-loop-key : goal.invariant-loop-key
invariant-loop-key l = lookup (bytes_eq l.name) l.files ≡ lookup (bytes_eq l.name) (drop l.key-index l.files)
