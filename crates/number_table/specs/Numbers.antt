-- Keys with their numbers.
use Rattle.std.specs.Prelude.{◌≡◌, ◌≢◌, ◌<◌, ◌≤◌, ℕ, ◌+◌, ◌-◌, Bool, true, false, nat_eq, nat_le, List, length, map, slice_index, Option, Some, None, if◌then◌else◌}
use Rattle.std.specs.List.{IsDistinct}
use Rattle.std.specs.Map.{keys_of, lookup}
use Rattle.std.specs.Option.{option_map, option_map_or}
use Rattle.number_table.specs.declared.held.Held.{Held}

-- keys with what is kept of each; how many numbers there are; and how many there may be
pub record Numbered (K : Type 0) : Type 0 where
  pub entries : List (K × Held)
  pub slots : ℕ
  pub most : ℕ

abbrev pub number_of : Held → ℕ
number_of held = held.number

abbrev pub numbers_of : {K : Type 0} → List (K × Held) → List ℕ
numbers_of entries = map (λ e. number_of e.1) entries

module _ {K : Type 0} (eq : K → K → Bool) where
  abbrev pub held_at : Numbered K → K → Option Held
  held_at t key = lookup (eq key) t.entries

  abbrev pub number_at : Numbered K → K → Option ℕ
  number_at t key = option_map number_of (held_at t key)

  -- of one key what is kept changes, and of no other
  pub record Changes (old new : Numbered K) (key : K) (held : Option Held) : Type 0 where
    pub same : held_at new key ≡ held
    pub others : (other : K) → eq key other ≡ false → held_at new other ≡ held_at old other

  -- equal keys have one number, and two keys with one number are equal
  pub record AreNumbered (t : Numbered K) : Type 0 where
    pub equal : (a b : K) → eq a b ≡ true → held_at t a ≡ held_at t b
    pub apart : (a b : K) (number : ℕ) → number_at t a ≡ Some number → number_at t b ≡ Some number → eq a b ≡ true
    pub within : (key : K) (number : ℕ) → number_at t key ≡ Some number → number < t.slots
    pub few : t.slots ≤ t.most

  -- nobody has this number
  abbrev pub IsFree : Numbered K → (number : ℕ) → Type 0
  IsFree t number = (key : K) → number_at t key ≢ Some number

  -- there is no room for the key, or for one more who holds it
  abbrev pub is_full : Numbered K → K → Bool
  is_full t key = option_map_or (λ (held : Held). nat_eq held.others 4294967295) (held_at t key) (nat_le t.most (length t.entries))

-- one holds it more: it had the number already, or gets it
abbrev pub one_more : (number : ℕ) → Option Held → Held
one_more number None = record { number = number; others = 0 }
one_more number (Some held) = record { number = held.number; others = held.others + 1 }

-- one holds it less, and nobody where that was the last
abbrev pub one_less : Held → Option Held
one_less held = if nat_eq held.others 0 then None else Some (record { number = held.number; others = held.others - 1 })

-- the first numbers of the order are those of the keys; the others are free
pub record IsTable {K : Type 0} (eq : K → K → Bool) (entries : List (K × Held)) (order : List ℕ) (most : ℕ) : Type 0 where
  pub unique : IsDistinct eq (keys_of entries)
  pub room : length entries ≤ length order
  pub few : length order ≤ most
  pub first : (place : ℕ) → place < length entries → slice_index (numbers_of entries) place ≡ slice_index order place
