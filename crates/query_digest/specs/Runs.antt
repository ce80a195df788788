-- Runs of values in a digest, and what it means that they are folded.
use Rattle.std.specs.Prelude.{◌≡◌, ◌⊎◌, ◌<◌, Bool, true, false, ◌&&◌, List, [], ◌∷◌, ◌++◌, length}
use Rattle.query_digest.specs.Parts.{Spaced, is_values, is_comma}
use Rattle.query_digest.specs.Parts.Part.{Values}

-- values with single commas between them
abbrev pub IsRun : List Spaced → Type 0
IsRun [] = ⊥
IsRun (part ∷ []) = is_values part.part ≡ true
IsRun (part ∷ comma ∷ parts) = (is_values part.part ≡ true) × (is_comma comma.part ≡ true) × IsRun parts

-- a run would go on with these: a comma and a value
abbrev pub goes_on : List Spaced → Bool
goes_on [] = false
goes_on (comma ∷ []) = false
goes_on (comma ∷ value ∷ parts) = is_comma comma.part && is_values value.part

-- a list of values in the place of a part
abbrev pub list_for : Spaced → Spaced
list_for part = record { apart = part.apart; part = Values }

-- parts that begin with this one: it stands for itself, and no run of two begins with it; or it is the list that a
-- longest run of two or more makes, with the first one's blank
pub record Begins (parts : List Spaced) (part : Spaced) (rest : List Spaced) : Type 0 where
  pub first : Spaced
  pub more : List Spaced
  pub all : parts ≡ (first ∷ more) ++ rest
  pub stands : ((more ≡ []) × (part ≡ first) × (is_values first.part ≡ true → goes_on rest ≡ false)) ⊎ ((0 < length more) × (part ≡ list_for first) × IsRun (first ∷ more) × (goes_on rest ≡ false))

-- the parts, with each longest run of two or more values as one list
abbrev pub FoldsTo : (parts folded : List Spaced) → Type 0
FoldsTo parts [] = parts ≡ []
FoldsTo parts (part ∷ folded) = (rest : List Spaced) × Begins parts part rest × FoldsTo rest folded
