-- The statements that are prepared on a link: keys of texts with their numbers, the oldest first.
use Rattle.std.specs.Prelude.{ℕ, not, nat_eq, List, filter, Option}
use Rattle.std.specs.Map.{lookup}
use Rattle.indexmap.specs.IndexMap.{insert_entry}

abbrev pub number_of : List (ℕ × ℕ) → (key : ℕ) → Option ℕ
number_of live key = lookup (nat_eq key) live

abbrev pub stood : List (ℕ × ℕ) → (key number : ℕ) → List (ℕ × ℕ)
stood live key number = insert_entry nat_eq live key number

abbrev pub closed : List (ℕ × ℕ) → (number : ℕ) → List (ℕ × ℕ)
closed live number = filter (λ entry. not (nat_eq entry.1 number)) live
