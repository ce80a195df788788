-- The bytes of words, looked up.
use Rattle.std.proofs.Common.{◌≡◌, ◌<◌, ℕ, Bool, true, false, List, slice_index_or}
use Rattle.std.proofs.lemmas.Bool.{agree_below, agree_below_at}
use Rattle.sql_tokens.specs.Bytes.{is_word_byte}

-- a table that agrees at each byte
pub looked_up : (table : List Bool) → agree_below (λ b. slice_index_or table b false) is_word_byte 256 ≡ true → (b : ℕ) → b < 256 → slice_index_or table b false ≡ is_word_byte b
looked_up table same b small = agree_below_at (λ b. slice_index_or table b false) is_word_byte 256 b same small
