-- Words of a line, with one blank between two.
use Rattle.std.specs.Prelude.{ℕ, ◌==◌, Bool, List}
use Rattle.std.specs.List.{before_first, after_first}

abbrev pub is_blank : ℕ → Bool
is_blank b = b == 32

-- the first word, and what stands behind the blank after it
abbrev pub first_word : List ℕ → List ℕ
first_word text = before_first is_blank text

abbrev pub behind_word : List ℕ → List ℕ
behind_word text = after_first is_blank text
