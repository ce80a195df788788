-- The faults of a configuration, and what a reader answered beside what there is to read.
use Rattle.std.specs.Prelude.{◌≡◌, ℕ, List, Option, Some, None, Result, Ok, Err}
use Rattle.mx_config.specs.declared.fault.Kind.{Kind}
use Rattle.mx_config.specs.declared.fault.Kind.TheVariants.{NotToml, UnknownKey, MissingKey, WrongType, OutOfRange, DuplicateUser, DuplicateServer, DuplicateRule, BadPattern, ReplaceWithoutPattern, BadAddress}
use Rattle.mx_config.specs.declared.fault.TableName.{TableName}
use Rattle.mx_config.specs.declared.fault.TableName.TheVariants.{File, Proxy, Users, Servers, Rules, Whitelist}
use Rattle.mx_config.specs.declared.fault.Place.{Place}
use Rattle.mx_config.specs.declared.fault.ConfigFault.{ConfigFault}
use Rattle.mx_config.specs.declared.fault.ConfigRefusal.{ConfigRefusal}
use Rattle.mx_config.specs.declared.fault.ConfigRefusal.TheVariants.{Fault, OutOfMemory}

abbrev pub kind_number : Kind → ℕ
kind_number NotToml = 1
kind_number UnknownKey = 2
kind_number MissingKey = 3
kind_number WrongType = 4
kind_number OutOfRange = 5
kind_number DuplicateUser = 6
kind_number DuplicateServer = 7
kind_number DuplicateRule = 8
kind_number BadPattern = 9
kind_number ReplaceWithoutPattern = 10
kind_number BadAddress = 11

abbrev pub table_number : TableName → ℕ
table_number File = 0
table_number Proxy = 1
table_number Users = 2
table_number Servers = 3
table_number Rules = 4
table_number Whitelist = 5

-- what is said of a row or a key, or its first fault
abbrev pub Said : Type 0 → Type 0
Said X = Result X ConfigFault

abbrev pub at_row : TableName → ℕ → Place
at_row table row = record { table = table; row = row }

unfoldable pub fault_at : Place → Kind → (key : List ℕ) → ConfigFault
fault_at place kind key = record { kind = kind_number kind; table = table_number place.table; row = place.row; key = key }

-- the second step, if the first has no fault
infixl 10 ◌>>=◌
abbrev pub ◌>>=◌ : {A B : Type 0} → Said A → (A → Said B) → Said B
Ok x >>= f = f x
Err fault >>= f = Err fault

abbrev pub fault_of : {X : Type 0} → Said X → Option ConfigFault
fault_of (Ok x) = None
fault_of (Err fault) = Some fault

-- unless memory was refused, a refusal is the fault
abbrev pub Refuses : ConfigRefusal → Option ConfigFault → Type 0
Refuses (Fault fault) said = said ≡ Some fault
Refuses OutOfMemory said = Unit {0}

-- unless memory was refused, the answer is what is said
abbrev pub Gives : {X : Type 0} → Result X ConfigRefusal → Said X → Type 0
Gives (Ok x) said = said ≡ Ok x
Gives (Err refusal) said = Refuses refusal (fault_of said)
