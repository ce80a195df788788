use Rattle.std.proofs.Common.{◌≡◌, ◌-◌, length, drop}
use Rattle.sql_tokens.specs.Bytes.{later}
use Rattle.sql_tokens.specs.Quotes.{to_closing}
use Rattle.sql_tokens.proofs.quote.to_closing.Given as goal

-- what is found from here on is what is found from the front on
abbrev pub invariant-loop-i : goal.invariant-loop-i
invariant-loop-i l = later l.i (to_closing l.quote (drop l.i l.bytes)) ≡ to_closing l.quote l.bytes

abbrev pub decreases-loop-i : goal.decreases-loop-i
decreases-loop-i l = length l.bytes - l.i
