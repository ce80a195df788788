use Rattle.std.proofs.Common.{◌≡◌, ◌++◌, drop}
use Rattle.place_keys.specs.Keys.{spelled}
use Rattle.place_keys.proofs.key.put_text.Given as goal

abbrev pub invariant-loop-byte : goal.invariant-loop-byte
invariant-loop-byte l = l.key.items ++ spelled (drop l.byte-index l.text) ≡ l.fn.key.items ++ spelled l.text
