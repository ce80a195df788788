-- What stands between two marks: the inside of a quoted text or a name, and of a comment.
use Rattle.std.specs.Prelude.{◌≡◌, ◌≢◌, ◌⊎◌, ◌<◌, ℕ, suc, true, false, List, [], ◌∷◌, ◌++◌, length, drop}
use Rattle.sql_tokens.specs.Bytes.{has_byte}
use Rattle.sql_tokens.specs.Quotes.{escapes, is_pair}
use Rattle.sql_tokens.specs.Comments.{closes_block}

-- a byte that stands for itself between quotes
abbrev pub IsPlain : (quote byte : ℕ) → Type 0
IsPlain quote byte = (byte ≢ quote) × (escapes quote byte ≡ false)

-- between quotes stand bytes for themselves, doubled quotes, and, but between backticks, escaped bytes
abbrev pub IsInside : (quote : ℕ) → List ℕ → Type 0
IsInside quote [] = Unit {0}
IsInside quote (b ∷ []) = IsPlain quote b
IsInside quote (b ∷ c ∷ bytes) = ((is_pair quote b c ≡ true) × IsInside quote bytes) ⊎ (IsPlain quote b × IsInside quote (c ∷ bytes))

-- behind an opening quote the text ends with so many bytes: an inside and the closing quote, which isn't doubled
pub record ClosesAfter (quote : ℕ) (bytes : List ℕ) (size : ℕ) : Type 0 where
  pub between : List ℕ
  pub rest : List ℕ
  pub parts : bytes ≡ between ++ quote ∷ rest
  pub inside : IsInside quote between
  pub single : has_byte rest 0 quote ≡ false
  pub is_size : size ≡ suc (length between)

-- behind the `/*` a comment ends with so many bytes: an inside and `*/`, and no `*/` before that
pub record BlockEndsAfter (bytes : List ℕ) (size : ℕ) : Type 0 where
  pub between : List ℕ
  pub rest : List ℕ
  pub parts : bytes ≡ between ++ 42 ∷ 47 ∷ rest
  pub first : (k : ℕ) → k < length between → closes_block (drop k bytes) ≡ false
  pub is_size : size ≡ suc (suc (length between))
