-- Numbers that are drawn, one from the other.
use Rattle.std.specs.Prelude.{ℕ, ◌+◌, ◌*◌, ◌/◌, ◌%◌}

abbrev pub next : ℕ → ℕ
next x = (x * 6364136223846793005 + 1442695040888963407) % 18446744073709551616

-- a number below n, of the high bits of one
abbrev pub below : (x n : ℕ) → ℕ
below x n = x / 4294967296 % n
