-- What the words of the command line ask for of a file of statements.
use Rattle.std.specs.Prelude.{ℕ, ◌==◌, if◌then◌else◌, List, [], ◌∷◌, codes, Option, Some, None}
use Rattle.std.specs.Str.{bytes_eq}
use Rattle.mx_base.specs.Decimal.{number_to}
use Rattle.proxy_run.specs.declared.report_words.ReportKind.{ReportKind}
use Rattle.proxy_run.specs.declared.report_words.ReportKind.TheVariants.{Audit, Learn}

-- the names of the files that a report reads, and the number of its workers
pub record ReportNamed : Type 0 where
  pub kind : ReportKind
  pub config : List ℕ
  pub lines : List ℕ
  pub workers : ℕ

abbrev pub kind_of : (command : List ℕ) → Option ReportKind
kind_of command = if bytes_eq command (codes "audit") then Some Audit else if bytes_eq command (codes "learn") then Some Learn else None

abbrev pub not_none : Option ℕ → Option ℕ
not_none None = None
not_none (Some n) = if n == 0 then None else Some n

-- from 1 to 64, in decimal digits
abbrev pub workers_of : (word : List ℕ) → Option ℕ
workers_of word = not_none (number_to 64 word)

abbrev pub named_by : Option ReportKind → (workers : Option ℕ) → (config lines : List ℕ) → Option ReportNamed
named_by (Some kind) (Some workers) config lines = Some (record { kind = kind; config = config; lines = lines; workers = workers })
named_by _ _ config lines = None

-- the report that is asked for
abbrev pub report_words : List (List ℕ) → Option ReportNamed
report_words (command ∷ config ∷ lines ∷ workers ∷ []) = named_by (kind_of command) (workers_of workers) config lines
report_words _ = None
