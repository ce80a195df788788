-- What is printed of a load.
use Rattle.std.specs.Prelude.{ℕ, List, ◌++◌, codes}
use Rattle.std.specs.Fmt.{decimal}
use Rattle.mx_wire.specs.Log.{Log}
use Rattle.generated_load.specs.Counts.{counts_of}
use Rattle.generated_load.specs.declared.ask.LoadAsk.{LoadAsk}
use Rattle.generated_load.specs.declared.counts.Counts.{Counts}

-- the line of a number
unfoldable pub line_of : (name : List ℕ) (number : ℕ) → List ℕ
line_of name number = name ++ (codes " " ++ (decimal number ++ codes "\n"))

abbrev pub lines_of : LoadAsk → Counts → List ℕ
lines_of ask counts =
    line_of (codes "clients") ask.clients ++ line_of (codes "statements") ask.statements ++ line_of (codes "opens") counts.opens ++ line_of (codes "resets") counts.resets
    ++ line_of (codes "ok") counts.ok ++ line_of (codes "errors") counts.errors

-- six lines
abbrev pub load_text : LoadAsk → Log → List ℕ
load_text ask log = lines_of ask (counts_of log)
