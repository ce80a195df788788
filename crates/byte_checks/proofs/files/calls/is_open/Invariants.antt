use Rattle.std.proofs.Common.{◌≡◌, take}
use Rattle.mx_wire.specs.Log.{is_open}
use Rattle.byte_checks.proofs.files.calls.is_open.Given as goal

abbrev pub invariant-loop-entry : goal.invariant-loop-entry
invariant-loop-entry l = l.open ≡ is_open l.link (take l.entry-index l.log)
