-- How slots by age are kept: one list of all, one list a kind, and of each slot whether it is kept, how many are, and of each
-- kind how many.
use Rattle.std.specs.Prelude.{◌≡◌, ℕ, ◌<◌, ◌^◌, Bool, false, List, length, slice_index, slice_index_or}
use Rattle.slot_lists.specs.Orders.{has, members}
use Rattle.slot_lists.specs.Chains.{Chains, Spells, order_in}

pub record AreTables (all kinds : Chains) (since : List ℕ) (kept : List Bool) (counts : List ℕ) (total : ℕ) : Type 0 where
  pub slots : kinds.slots ≡ all.slots
  pub one : all.lists ≡ 1
  pub few : all.slots < 2 ^ 32
  pub since_length : length since ≡ all.slots
  pub kept_length : length kept ≡ all.slots
  pub counts_length : length counts ≡ kinds.lists
  pub whole : Spells all since (order_in all)
  pub parts : Spells kinds since (order_in all)
  pub within : (slot : ℕ) → slot < all.slots → slice_index kinds.list_of slot < kinds.lists
  pub is_kept : (slot : ℕ) → slot < all.slots → slice_index_or kept slot false ≡ has slot (order_in all)
  pub counted : (kind : ℕ) → kind < kinds.lists → slice_index counts kind ≡ length (members kinds.list_of kind (order_in all))
  pub together : total ≡ length (order_in all)
