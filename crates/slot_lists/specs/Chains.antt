-- Lists of slots, each a ring of slots through a node of its own, which stands behind those of the slots.
use Rattle.std.specs.Prelude.{◌≡◌, ℕ, zero, suc, ◌+◌, ◌^◌, ◌<◌, ◌≤◌, All, List, [], ◌∷◌, length, slice_index, slice_set, nat_lt, if◌then◌else◌, Option, Some, None}
use Rattle.slot_lists.specs.Orders.{Each, IsDistinct, IsOrdered, members}

-- of each node the next and the one before; of each slot its list
pub record Chains : Type 0 where
  pub next : List ℕ
  pub previous : List ℕ
  pub list_of : List ℕ
  pub slots : ℕ
  pub lists : ℕ

pub record IsLinked (c : Chains) : Type 0 where
  pub next_length : length c.next ≡ c.slots + c.lists
  pub previous_length : length c.previous ≡ c.slots + c.lists
  pub list_length : length c.list_of ≡ c.slots
  pub next_within : All (λ node. node < c.slots + c.lists) c.next
  pub previous_within : All (λ node. node < c.slots + c.lists) c.previous
  pub few : c.slots + c.lists < 2 ^ 32

-- from a node through others to an end
abbrev pub IsChain : (next previous : List ℕ) → (from : ℕ) → List ℕ → (end : ℕ) → Type 0
IsChain next previous from [] end = (slice_index next from ≡ end) × (slice_index previous end ≡ from)
IsChain next previous from (first ∷ rest) end =
    (slice_index next from ≡ first) × (slice_index previous first ≡ from) × IsChain next previous first rest end

-- the lists have these slots, each once, in the order of their moments
pub record Spells (c : Chains) (moments order : List ℕ) : Type 0 where
  pub few : length order ≤ c.slots
  pub within : Each (λ slot. slot < c.slots) order
  pub listed : Each (λ slot. slice_index c.list_of slot < c.lists) order
  pub distinct : IsDistinct order
  pub ordered : IsOrdered moments order
  pub rings : (list : ℕ) → list < c.lists → IsChain c.next c.previous (c.slots + list) (members c.list_of list order) (c.slots + list)

-- the slot of a node; none is that of a list
abbrev pub slot_at : (slots node : ℕ) → Option ℕ
slot_at slots node = if nat_lt node slots then Some node else None

abbrev pub with_slot : Chains → (slot list before at : ℕ) → Chains
with_slot c slot list before at = record {
  next = slice_set (slice_set c.next before slot) slot at;
  previous = slice_set (slice_set c.previous at slot) slot before;
  list_of = slice_set c.list_of slot list;
  slots = c.slots;
  lists = c.lists;
}

abbrev pub without_slot : Chains → (before after : ℕ) → Chains
without_slot c before after = record {
  next = slice_set c.next before after;
  previous = slice_set c.previous after before;
  list_of = c.list_of;
  slots = c.slots;
  lists = c.lists;
}

-- the slots from a node on, up to a list's own node
abbrev pub walk : (next : List ℕ) → (slots : ℕ) → (steps node : ℕ) → List ℕ
walk next slots zero node = []
walk next slots (suc steps) node = if nat_lt node slots then node ∷ walk next slots steps (slice_index next node) else []

-- the slots of the first list, the newest first
abbrev pub order_in : Chains → List ℕ
order_in c = walk c.next c.slots c.slots (slice_index c.next c.slots)
