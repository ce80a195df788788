-- The codes of the router's own errors.
use Rattle.std.specs.Prelude.{ℕ, ◌+◌, ◌*◌, Bool, ◌||◌, nat_eq, List, [], ◌∷◌, slice_index_or}
use Rattle.std.specs.List.{list_any}

-- the code that an error tells
abbrev pub code_in : (payload : List ℕ) → ℕ
code_in payload = slice_index_or payload 1 0 + slice_index_or payload 2 0 * 256

-- of those that answer a message as it is taken up, the last three an administrator's
abbrev pub refusal_codes : List ℕ
refusal_codes = 1047 ∷ 1148 ∷ 1243 ∷ 9100 ∷ 9106 ∷ 9107 ∷ 9108 ∷ 9109 ∷ 9113 ∷ 9120 ∷ 9121 ∷ 9122 ∷ []

-- of those by which a statement is given up
abbrev pub failure_codes : List ℕ
failure_codes = 1053 ∷ 9101 ∷ 9102 ∷ 9103 ∷ 9104 ∷ 9105 ∷ 9110 ∷ 9112 ∷ 9199 ∷ []

abbrev pub is_among : List ℕ → (code : ℕ) → Bool
is_among codes code = list_any (nat_eq code) codes

-- an answer, or a last word, has it
abbrev pub is_own_code : (code : ℕ) → Bool
is_own_code code = is_among refusal_codes code || is_among failure_codes code

abbrev pub is_last_code : (code : ℕ) → Bool
is_last_code code = is_among (1040 ∷ []) code || is_among failure_codes code
