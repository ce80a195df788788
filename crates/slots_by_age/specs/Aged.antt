-- Slots that are kept, the newest first; each is of a kind, and kept since a moment. What a slot was last stays known of one that isn't
-- kept any more.
use Rattle.std.specs.Prelude.{◌≡◌, ℕ, List, [], replicate, slice_set}
use Rattle.slot_lists.specs.Orders.{members, placed, without}

pub record Aged : Type 0 where
  pub order : List ℕ
  pub kind_of : List ℕ
  pub since : List ℕ
  pub slots : ℕ
  pub kinds : ℕ

-- none of so many slots, of so many kinds
pub record IsNone (a : Aged) (slots kinds : ℕ) : Type 0 where
  pub no_slot : a.order ≡ []
  pub no_moment : a.since ≡ replicate slots 0
  pub slots_of : a.slots ≡ slots
  pub kinds_of : a.kinds ≡ kinds

-- those of a kind, the newest first
abbrev pub of_kind : Aged → (kind : ℕ) → List ℕ
of_kind a kind = members a.kind_of kind a.order

-- a slot is kept from a moment on, as the newest of its moment
abbrev pub put : Aged → (slot kind moment : ℕ) → Aged
put a slot kind moment = record {
  order = placed (slice_set a.since slot moment) slot (without slot a.order);
  kind_of = slice_set a.kind_of slot kind;
  since = slice_set a.since slot moment;
  slots = a.slots;
  kinds = a.kinds;
}

-- a slot is kept no more
abbrev pub taken : Aged → (slot : ℕ) → Aged
taken a slot = record {
  order = without slot a.order;
  kind_of = a.kind_of;
  since = a.since;
  slots = a.slots;
  kinds = a.kinds;
}
