-- The prepared statements of a link with long data.
use Rattle.std.specs.Prelude.{ℕ, not, nat_eq, List, filter}

abbrev pub without : (number : ℕ) → List ℕ → List ℕ
without number long = filter (λ n. not (nat_eq n number)) long
