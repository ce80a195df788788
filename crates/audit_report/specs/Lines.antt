-- The lines of a file.
use Rattle.std.specs.Prelude.{ℕ, ◌==◌, if◌then◌else◌, List, [], ◌∷◌}

-- a byte at the begin of the first line
abbrev pub in_first : ℕ → List (List ℕ) → List (List ℕ)
in_first byte [] = (byte ∷ []) ∷ []
in_first byte (line ∷ lines) = (byte ∷ line) ∷ lines

-- a line feed ends a line, and so does the end of the file
abbrev pub lines_of : (file : List ℕ) → List (List ℕ)
lines_of [] = []
lines_of (byte ∷ file) = if byte == 10 then [] ∷ lines_of file else in_first byte (lines_of file)
