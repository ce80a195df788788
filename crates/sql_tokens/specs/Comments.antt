-- Comments. Lengths are of the bytes from the front on.
use Rattle.std.specs.Prelude.{ℕ, Bool, ◌||◌, ◌&&◌, not, nat_lt, nat_eq, List, [], ◌∷◌, length, drop, slice_index_or, Option, Some, None, if◌then◌else◌}
use Rattle.std.specs.List.{position_or_len}
use Rattle.sql_tokens.specs.Bytes.{has_byte, is_white_or_control, later}

-- `#`, or `--` before white space, a control byte or the end
unfoldable pub begins_line_comment : List ℕ → Bool
begins_line_comment bytes = has_byte bytes 0 35 || (has_byte bytes 0 45 && has_byte bytes 1 45 && (not (nat_lt 2 (length bytes)) || is_white_or_control (slice_index_or bytes 2 0)))

-- to before the line feed, or to the end
abbrev pub line_length : List ℕ → ℕ
line_length bytes = position_or_len (λ b. nat_eq b 10) bytes

-- `*/`
abbrev pub closes_block : List ℕ → Bool
closes_block bytes = has_byte bytes 0 42 && has_byte bytes 1 47

-- to the first `*/` and with it
abbrev pub to_block_end : List ℕ → Option ℕ
to_block_end [] = None
to_block_end (b ∷ bytes) = if closes_block (b ∷ bytes) then Some 2 else later 1 (to_block_end bytes)

-- `/*`
unfoldable pub begins_block : List ℕ → Bool
begins_block bytes = has_byte bytes 0 47 && has_byte bytes 1 42

-- `!` or `M!` behind the `/*`, so that servers execute what stands inside
abbrev pub executes : List ℕ → Bool
executes bytes = has_byte bytes 2 33 || (has_byte bytes 2 77 && has_byte bytes 3 33)

-- to the first `*/` behind the whole `/*`
unfoldable pub block_length : List ℕ → Option ℕ
block_length bytes = later 2 (to_block_end (drop 2 bytes))
