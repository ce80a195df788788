-- The pieces of a text between separators.
use Rattle.std.specs.Prelude.{ℕ, ◌==◌, Bool, List, [], ◌∷◌, Option, Some, None}
use Rattle.std.specs.List.{slice_split, list_any}

-- the byte is one of these
abbrev pub is_among : List ℕ → ℕ → Bool
is_among separators b = list_any (λ s. s == b) separators

-- between two pieces stands one separator; a text without any is one piece
abbrev pub pieces : (separators text : List ℕ) → List (List ℕ)
pieces separators text = slice_split (is_among separators) text

-- the pieces that are left, if there are any
abbrev pub pieces_left : (separators : List ℕ) → Option (List ℕ) → List (List ℕ)
pieces_left separators None = []
pieces_left separators (Some text) = pieces separators text

-- the pieces, where they are just so many
abbrev pub one : List (List ℕ) → Option (List ℕ)
one (a ∷ []) = Some a
one _ = None

abbrev pub two : List (List ℕ) → Option (List ℕ × List ℕ)
two (a ∷ b ∷ []) = Some (a, b)
two _ = None

abbrev pub three : List (List ℕ) → Option (List ℕ × List ℕ × List ℕ)
three (a ∷ b ∷ c ∷ []) = Some (a, b, c)
three _ = None

abbrev pub four : List (List ℕ) → Option (List ℕ × List ℕ × List ℕ × List ℕ)
four (a ∷ b ∷ c ∷ d ∷ []) = Some (a, b, c, d)
four _ = None
