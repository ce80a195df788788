-- The statements that are prepared on a link: keys with their numbers, in the order of preparation.
use Rattle.std.specs.Prelude.{ℕ, Bool, not, ◌||◌, nat_eq, List, filter, Option}
use Rattle.std.specs.HashMap.{get}
use Rattle.indexmap.specs.IndexMap.{insert_entry}
use Rattle.stmt_map.specs.declared.link.LinkStatements.{LinkStatements}

abbrev pub prepared : LinkStatements → List (ℕ × ℕ)
prepared s = s.numbers.entries

abbrev pub number_of : LinkStatements → (key : ℕ) → Option ℕ
number_of s key = get nat_eq s.numbers key

abbrev pub stays : (key number : ℕ) → (ℕ × ℕ) → Bool
stays key number entry = not (nat_eq entry.0 key || nat_eq entry.1 number)

-- neither its key nor its number stands elsewhere, so it stands last
abbrev pub added : List (ℕ × ℕ) → (key number : ℕ) → List (ℕ × ℕ)
added entries key number = insert_entry nat_eq (filter (stays key number) entries) key number
