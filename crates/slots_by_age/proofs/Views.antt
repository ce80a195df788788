-- What the tables say, as a slot is put or taken.
use Rattle.std.proofs.Common.{◌≡◌, ℕ, ◌<◌, true, false, List, set, refl}
use Rattle.slot_lists.specs.Orders.{has, placed, without}
use Rattle.slot_lists.specs.Chains.{Chains, Spells, order_in}
use Rattle.slot_lists.proofs.Each.{without_none}
use Rattle.slots_by_age.specs.Aged.{Aged, put, taken}
use Rattle.slots_by_age.proofs.Has.{apart-without, has_apart}
use Rattle.slots_by_age.proofs.Moved.{IsIn, IsOut, order-put, order-taken}

abbrev pub view : (all kinds : Chains) (since : List ℕ) → Aged
view all kinds since = record { order = order_in all; kind_of = kinds.list_of; since = since; slots = all.slots; kinds = kinds.lists }

pub put-taken : (a : Aged) (slot kind moment : ℕ) → put (taken a slot) slot kind moment ≡ put a slot kind moment
put-taken a slot kind moment =
    let gone : without slot (without slot a.order) ≡ without slot a.order = without_none slot (without slot a.order) (apart-without slot a.order) in
    rw gone refl

pub view-put : (all kinds all' kinds' : Chains) (since : List ℕ) (slot kind moment : ℕ) → Spells all since (order_in all) → slot < all.slots
    → all.lists ≡ 1 → has slot (order_in all) ≡ false → IsIn all all' (set since slot moment) slot 0
    → IsIn kinds kinds' (set since slot moment) slot kind
    → view all' kinds' (set since slot moment) ≡ put (view all kinds since) slot kind moment
view-put all kinds all' kinds' since slot kind moment spells small one none in' of' =
    let apart = has_apart slot (order_in all) none in
    let order : order_in all' ≡ placed (set since slot moment) slot (order_in all) = order-put all all' since slot 0 moment spells small one apart in' in
    let rest : without slot (order_in all) ≡ order_in all = without_none slot (order_in all) apart in
    rw (order, of'.others, in'.slots, of'.lists, rest) refl

pub view-taken : (all kinds all' kinds' : Chains) (since : List ℕ) (slot : ℕ) → Spells all since (order_in all) → all.lists ≡ 1
    → has slot (order_in all) ≡ true → IsOut all all' slot → IsOut kinds kinds' slot
    → view all' kinds' since ≡ taken (view all kinds since) slot
view-taken all kinds all' kinds' since slot spells one here out off =
    let order : order_in all' ≡ without slot (order_in all) = order-taken all all' since slot spells one here out in
    rw (order, off.list, out.slots, off.lists) refl

pub taken-none : (a : Aged) (slot : ℕ) → has slot a.order ≡ false → a ≡ taken a slot
taken-none a slot none =
    let rest : without slot a.order ≡ a.order = without_none slot a.order (has_apart slot a.order none) in
    rw rest refl
