-- The arguments of an execute that are whole: those of a statement with so many parameters, in bytes that can be read.
use Rattle.std.specs.Prelude.{◌≡◌, ◌<◌, ◌≤◌, ◌+◌, ◌*◌, ◌/◌, ℕ, zero, suc, true, false, length, nat_eq, nat_lt, List, [], ◌∷◌, ◌++◌, Some, None}
use Rattle.session_vars.specs.declared.long_part.LongPart.{LongPart}
use Rattle.private_model.specs.Commands.{Args}
use Rattle.link_state.specs.Spells.{args_bytes}

-- no written message is longer (log_story, `written_in`)
abbrev pub limit : ℕ
limit = 36893488147419103232

-- Long data: each part is of a parameter that is there, and of one alone.

abbrev pub NotOf : (parameter : ℕ) → List ℕ → Type 0
NotOf parameter [] = Unit {0}
NotOf parameter (n ∷ ns) = (nat_eq n parameter ≡ false) × NotOf parameter ns

-- behind those of these parameters
abbrev pub AreParts : (params : ℕ) → (front : List ℕ) → List LongPart → Type 0
AreParts params front [] = Unit {0}
AreParts params front (part ∷ parts) =
    (nat_lt part.parameter params ≡ true) × NotOf part.parameter front × AreParts params (front ++ part.parameter ∷ []) parts

-- its packets can be read: the command, its number and the parameter's stand before its bytes
abbrev pub AreShort : List LongPart → Type 0
AreShort [] = Unit {0}
AreShort (part ∷ parts) = (7 + length part.bytes ≤ limit) × AreShort parts

-- Where there are parameters, their types are there, two bytes each, and which of them are NULL, a bit each.
abbrev pub AreGiven : (params : ℕ) → Args → Type 0
AreGiven zero args = (args.types ≡ None) × (args.nulls ≡ []) × (args.values ≡ [])
AreGiven (suc more) args =
    (types : List ℕ) × ((args.types ≡ Some types) × (length types ≡ 2 * suc more) × (length args.nulls ≡ (suc more + 7) / 8))

pub record AreWhole (params : ℕ) (args : Args) : Type 0 where
  pub few : params < 65536
  pub given : AreGiven params args
  pub parts : AreParts params [] args.long
  pub short : AreShort args.long
  pub size : 10 + length (args_bytes args.nulls args.types args.values) ≤ limit
