-- Quoted texts and names.
use Rattle.std.specs.Prelude.{ℕ, Bool, false, ◌||◌, ◌&&◌, not, nat_eq, List, [], ◌∷◌, drop, slice_index_or, Option, Some, None, if◌then◌else◌}
use Rattle.sql_tokens.specs.Bytes.{has_byte, later}

-- a backslash escapes the byte behind it, but not between backticks
abbrev pub escapes : (quote byte : ℕ) → Bool
escapes quote byte = nat_eq byte 92 && not (nat_eq quote 96)

-- two bytes that stand for one inside: an escaped byte, or the quote doubled
abbrev pub is_pair : (quote first second : ℕ) → Bool
is_pair quote first second = escapes quote first || (nat_eq first quote && nat_eq second quote)

-- a byte that neither ends what is quoted nor begins a pair
abbrev pub is_inside : (quote byte : ℕ) → Bool
is_inside quote byte = not (nat_eq byte quote) && not (nat_eq byte 92)

abbrev pub begins_pair : (quote : ℕ) → List ℕ → Bool
begins_pair quote [] = false
begins_pair quote (b ∷ []) = false
begins_pair quote (b ∷ c ∷ bytes) = is_pair quote b c

-- what follows an opening quote, to the closing one and with it
abbrev pub to_closing : (quote : ℕ) → List ℕ → Option ℕ
to_closing quote [] = None
to_closing quote (b ∷ []) = if nat_eq b quote then Some 1 else None
to_closing quote (b ∷ c ∷ bytes) =
    if is_pair quote b c then later 2 (to_closing quote bytes)
    else if nat_eq b quote then Some 1
    else later 1 (to_closing quote (c ∷ bytes))

-- `'` or `"`
unfoldable pub begins_quoted : List ℕ → Bool
begins_quoted bytes = has_byte bytes 0 39 || has_byte bytes 0 34

-- a backtick
unfoldable pub begins_name : List ℕ → Bool
begins_name bytes = has_byte bytes 0 96

-- from an opening quote to the closing one
unfoldable pub quoted_length : List ℕ → Option ℕ
quoted_length bytes = later 1 (to_closing (slice_index_or bytes 0 0) (drop 1 bytes))
