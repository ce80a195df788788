-- The rules of a table, and its first fault.
use Rattle.std.specs.Prelude.{◌≡◌, ◌≢◌, ◌⊎◌, ℕ, true, false, List, [], ◌∷◌, IsPermutation, Option, Some, None}
use Rattle.std.specs.List.Sorted.{IsNonDecreasingBy}
use Rattle.regex.specs.declared.bytes.regex.Regex.{Regex}
use Rattle.query_rules.specs.declared.fault.RuleFault.{RuleFault}
use Rattle.query_rules.specs.declared.fault.RuleFault.TheVariants.{DuplicateId, BadPattern, ReplaceWithoutPattern, OutOfMemory}
use Rattle.query_rules.specs.declared.row.RuleRow.{RuleRow}
use Rattle.query_rules.specs.declared.rule.Rule.{Rule}
use Rattle.query_rules.specs.Patterns.{IsReadIn, IsRefused}
use Rattle.query_rules.specs.Rows.{replaces_nothing}

-- the same rows, in order of rule_id
pub record IsInOrder (rows sorted : List RuleRow) : Type 0 where
  pub same : IsPermutation rows sorted
  pub ascending : IsNonDecreasingBy (λ (row : RuleRow). row.rule_id) sorted

-- the pattern is what `regex` reads in the field, and is there where the field is
abbrev pub IsFieldRead : (field : Option (List ℕ)) → Option Regex → Type 0
IsFieldRead (Some text) (Some pattern) = IsReadIn text pattern
IsFieldRead None None = Unit {0}
IsFieldRead field pattern = ⊥

-- the rule's patterns are those of its row
pub record IsCompiled (rule : Rule) : Type 0 where
  pub match_digest : IsFieldRead rule.row.match_digest rule.match_digest
  pub match_pattern : IsFieldRead rule.row.match_pattern rule.match_pattern

-- `regex` reads a pattern in the field, if it is there
abbrev pub IsFieldPattern : Option (List ℕ) → Type 0
IsFieldPattern field = (pattern : Option Regex) × IsFieldRead field pattern

-- the row's patterns are patterns, and its template is not without a match
pub record IsSound (row : RuleRow) : Type 0 where
  pub match_digest : IsFieldPattern row.match_digest
  pub match_pattern : IsFieldPattern row.match_pattern
  pub replaces : replaces_nothing row ≡ false

-- a row that can stand behind a row of this id, or behind none
pub record Stands (last : Option ℕ) (row : RuleRow) : Type 0 where
  pub apart : last ≢ Some row.rule_id
  pub sound : IsSound row

-- rows in order that can stand, no two of one id
abbrev pub AllStand : (last : Option ℕ) → List RuleRow → Type 0
AllStand last [] = Unit {0}
AllStand last (row ∷ rows) = Stands last row × AllStand (Some row.rule_id) rows

abbrev pub IsFieldRefused : Option (List ℕ) → Type 0
IsFieldRefused None = ⊥
IsFieldRefused (Some text) = IsRefused text

abbrev pub IsPatternRefused : RuleRow → Type 0
IsPatternRefused row = IsFieldRefused row.match_digest ⊎ IsFieldRefused row.match_pattern

-- what is wrong with a pattern of a row of this id
abbrev pub IsFieldFault : (id : ℕ) → Option (List ℕ) → RuleFault → Type 0
IsFieldFault id field (BadPattern n) = (n ≡ id) × IsFieldRefused field
IsFieldFault id field OutOfMemory = Unit {0}
IsFieldFault id field fault = ⊥

-- what is wrong with a row of an id that no row before it has
abbrev pub IsFaultOfNew : RuleRow → RuleFault → Type 0
IsFaultOfNew row (DuplicateId id) = ⊥
IsFaultOfNew row (BadPattern id) = (id ≡ row.rule_id) × IsPatternRefused row
IsFaultOfNew row (ReplaceWithoutPattern id) =
    (id ≡ row.rule_id) × (replaces_nothing row ≡ true) × IsFieldPattern row.match_digest × IsFieldPattern row.match_pattern
IsFaultOfNew row OutOfMemory = Unit {0}

-- what is wrong with a row behind a row of this id: in order of rule_id a row stands right behind the others of its id
abbrev pub IsFaultOf : (last : Option ℕ) → RuleRow → RuleFault → Type 0
IsFaultOf last row fault =
    ((last ≡ Some row.rule_id) × (fault ≡ DuplicateId row.rule_id)) ⊎ ((last ≢ Some row.rule_id) × IsFaultOfNew row fault)

-- the fault of the first row that can't stand
abbrev pub IsFirstOf : (last : Option ℕ) → List RuleRow → RuleFault → Type 0
IsFirstOf last [] fault = ⊥
IsFirstOf last (row ∷ rows) fault = IsFaultOf last row fault ⊎ (Stands last row × IsFirstOf (Some row.rule_id) rows fault)

-- want of memory, or the first fault in order of rule_id
abbrev pub IsFirstFault : List RuleRow → RuleFault → Type 0
IsFirstFault rows fault = fault ≢ OutOfMemory → (sorted : List RuleRow) × IsInOrder rows sorted × IsFirstOf None sorted fault
