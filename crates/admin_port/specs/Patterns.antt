-- The texts of patterns that a statement gives, and whether they are patterns.
use Rattle.std.specs.Prelude.{◌⊎◌, ℕ, Bool, true, false, if◌then◌else◌, List, [], ◌∷◌, codes, Option, Some, None}
use Rattle.query_rules.specs.Patterns.{IsPattern, IsRefused}
use Rattle.admin_port.specs.Columns.{is_among}
use Rattle.admin_port.specs.Statements.{text_in}
use Rattle.admin_port.specs.declared.pair.Pair.{Pair}
use Rattle.admin_port.specs.declared.statement.Statement.{Statement}
use Rattle.admin_port.specs.declared.statement.Statement.TheVariants.{Stage}

-- the text that a column gives, where it is match_digest or match_pattern
abbrev pub pattern_text : Pair → Option (List ℕ)
pattern_text pair = if is_among (codes "match_digest" ∷ codes "match_pattern" ∷ []) pair.column then text_in pair.value else None

abbrev pub onto : Option (List ℕ) → List (List ℕ) → List (List ℕ)
onto None texts = texts
onto (Some t) texts = t ∷ texts

-- the texts that are given for them
abbrev pub patterns_in : List Pair → List (List ℕ)
patterns_in [] = []
patterns_in (pair ∷ pairs) = onto (pattern_text pair) (patterns_in pairs)

abbrev pub patterns_of : Statement → List (List ℕ)
patterns_of (Stage action change) = patterns_in change.pairs
patterns_of _ = []

-- each is a pattern, or one is none
abbrev pub AllPatterns : List (List ℕ) → Type 0
AllPatterns [] = Unit {0}
AllPatterns (t ∷ texts) = IsPattern t × AllPatterns texts

abbrev pub SomeRefused : List (List ℕ) → Type 0
SomeRefused [] = ⊥
SomeRefused (t ∷ texts) = IsRefused t ⊎ SomeRefused texts

-- a text that is there is none
abbrev pub IsRefusedText : Option (List ℕ) → Type 0
IsRefusedText None = ⊥
IsRefusedText (Some t) = IsRefused t

abbrev pub ArePatterned : Bool → List (List ℕ) → Type 0
ArePatterned true texts = AllPatterns texts
ArePatterned false texts = SomeRefused texts
