-- Links that are open, by small numbers, and those of them that are marked.
use Rattle.std.specs.Prelude.{◌≡◌, ◌⊎◌, ◌+◌, ◌^◌, ◌<◌, ℕ, Bool, false, is_some, nat_eq, Option, Some, None}
use Rattle.std.specs.Option.{option_map_or}
use Rattle.mx_base.specs.declared.names.LinkId.{LinkId}
use Rattle.number_table.specs.Numbers.{Numbered, number_at}
use Rattle.slot_lists.specs.Orders.{has}
use Rattle.slots_by_age.specs.Aged.{Aged}

pub record Marked : Type 0 where
  pub names : Numbered ℕ
  pub marked : Aged

-- there is room for a mark at each number
pub record AreSized (names : Numbered ℕ) (marked : Aged) (most : ℕ) : Type 0 where
  pub names_most : names.most ≡ most
  pub marks : marked.slots ≡ most
  pub one_kind : marked.kinds ≡ 1

abbrev pub is_link : LinkId → LinkId → Bool
is_link link other = nat_eq link.0 other.0

abbrev pub number_of : Marked → LinkId → Option ℕ
number_of m link = number_at nat_eq m.names link.0

abbrev pub is_known : Marked → LinkId → Bool
is_known m link = is_some (number_of m link)

abbrev pub is_marked : Marked → LinkId → Bool
is_marked m link = option_map_or (λ number. has number m.marked.order) (number_of m link) false

-- one link is named, and the marks of others stay
abbrev pub IsNamed : Option LinkId → Marked → Marked → Type 0
IsNamed None old new = (link : LinkId) → is_marked new link ≡ false
IsNamed (Some named) old new = (link : LinkId) → is_marked new link ≡ false → (is_marked old link ≡ false) ⊎ (link ≡ named)
