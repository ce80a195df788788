-- What a call puts behind a log that may be told.
use Rattle.std.specs.Prelude.{◌≡◌, ◌++◌, [], ◌∷◌, Option, Some, None}
use Rattle.mx_wire.specs.Adds.{Adds, IsBounded}
use Rattle.mx_wire.specs.Log.{Log}
use Rattle.mx_wire.specs.declared.entry.Entry.{Entry}
use Rattle.mem_wire.specs.declared.late.Late.{Late}
use Rattle.mem_wire.specs.Marks.{entries_of}

abbrev pub late_entries : Late → Log
late_entries late = entries_of late.link late.marks

-- a call has put marks and its entry behind the log
pub record Calls (old : Option Log) (marks : Log) (e : Entry) (new : Option Log) : Type 0 where
  pub adds : Adds old (marks ++ e ∷ []) new
  pub bounded : IsBounded new

-- the same, where there was memory for the entry, or else the log is told no more
abbrev pub CallsIf : Option Log → Log → Option Entry → Option Log → Type 0
CallsIf old marks (Some e) new = Calls old marks e new
CallsIf old marks None new = new ≡ None
