-- The words of the command line that ask for a generated load.
use Rattle.std.specs.Prelude.{ℕ, ◌==◌, if◌then◌else◌, List, [], ◌∷◌, codes, Option, Some, None}
use Rattle.std.specs.Str.{bytes_eq}
use Rattle.mx_base.specs.Decimal.{number, number_to}
use Rattle.generated_load.specs.declared.ask.LoadAsk.{LoadAsk}

abbrev pub at_least_one : Option ℕ → Option ℕ
at_least_one None = None
at_least_one (Some n) = if n == 0 then None else Some n

-- from 1 to so much, in decimal digits
abbrev pub from_one_to : (most : ℕ) → (word : List ℕ) → Option ℕ
from_one_to most word = at_least_one (number_to most word)

abbrev pub ask_of : (start clients statements : Option ℕ) → Option LoadAsk
ask_of (Some start) (Some clients) (Some statements) = Some (record { start = start; clients = clients; statements = statements })
ask_of _ _ _ = None

-- any start of 64 bits, 1 to 1,000 clients, and 1 to 100,000 statements
abbrev pub ask_by : (start clients statements : List ℕ) → Option LoadAsk
ask_by start clients statements = ask_of (number start) (from_one_to 1000 clients) (from_one_to 100000 statements)

-- the load that is asked for
abbrev pub load_words : List (List ℕ) → Option LoadAsk
load_words (command ∷ start ∷ clients ∷ statements ∷ []) = if bytes_eq command (codes "load") then ask_by start clients statements else None
load_words _ = None
