-- What is known of the opens that a recording refuses.
use Rattle.std.specs.Prelude.{◌≡◌, ℕ, nat_eq, List, IfSome}
use Rattle.std.specs.HashSet.{contains}
use Rattle.recording.specs.declared.entry.RecordEntry.{RecordEntry}
use Rattle.mem_wire.specs.declared.refusals.Refusals.{Refusals}
use Rattle.mem_wire.specs.Lines.{is_refused}

-- once they were looked for, the numbers that were found are those of the `refuse` lines
abbrev pub Knows : List RecordEntry → Refusals → Type 0
Knows entries refusals = IfSome refusals.found (λ found. (k : ℕ) → contains nat_eq found k ≡ is_refused k entries)
