use Rattle.std.proofs.Common.{◌≡◌, drop}
use Rattle.std.specs.Prelude.{fold}
use Rattle.reply_relay.specs.Cells.{byte_taken}
use Rattle.reply_relay.proofs.cell.OneCell.read.Given as goal

abbrev pub invariant-loop-byte : goal.invariant-loop-byte
invariant-loop-byte l = fold byte_taken l.self (drop l.byte-index l.bytes) ≡ fold byte_taken l.initial.self l.bytes
