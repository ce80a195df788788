-- The lists spell an order of slots, with one more or one less.
use Rattle.std.proofs.Common.{◌≡◌, ◌≢◌, ℕ, ◌+◌, ◌<◌, Bool, true, false, List, length, set, get_or-set_same, get_or-set_other, ap, sym, refl, subst, ◌∙◌, inl, inr, arith}
use Rattle.std.specs.Prelude.{filter, nat_eq, not, slice_index}
use Rattle.std.proofs.lemmas.Bool.{cases_eq, eqb-true, eq-eqb, ne_eqb}
use Rattle.slot_lists.specs.Orders.{Each, IsApart, has, members, placed, stop_of, without}
use Rattle.slot_lists.specs.Chains.{Chains, IsChain, IsLinked, Spells, with_slot, without_slot}
use Rattle.slot_lists.proofs.Each.{distinct_filter, distinct_placed, each_at, each_both, each_filter, each_passes, each_placed, each_weaker, length-filter, length-placed, ordered_filter, ordered_placed, without_none}
use Rattle.slot_lists.proofs.Rings.{Around, Fresh, after_slot, before_slot, before_stop, chain-placed, chain-without, next_kept, previous_kept, stop_among}
use Rattle.slot_lists.proofs.Members.{filter-filter, filter-placed, filter-placed_out, has-filter, members-set}

-- a member of a list: a slot whose list it is
IsMember : Chains → (list slot : ℕ) → Type 0
IsMember c list slot = (slot < c.slots) × (slice_index c.list_of slot ≡ list)

each_member : (c : Chains) (list : ℕ) (order : List ℕ) → Each (λ slot. slot < c.slots) order
    → Each (λ slot. (slot < c.slots) × (slice_index c.list_of slot ≡ list)) (members c.list_of list order)
each_member c list order within =
    let p : ℕ → Bool = λ slot. nat_eq (slice_index c.list_of slot) list in
    each_weaker (λ slot. (slot < c.slots) × (p slot ≡ true)) (λ slot. (slot < c.slots) × (slice_index c.list_of slot ≡ list))
    (λ slot both. (both.0, eqb-true _ _ both.1)) (filter p order)
    (each_both (λ slot. slot < c.slots) (λ slot. p slot ≡ true) (filter p order) (each_filter (λ slot. slot < c.slots) p order within)
    (each_passes p order))

node_apart : (c : Chains) (list : ℕ) (order : List ℕ) → Each (λ slot. slot < c.slots) order → (k : ℕ)
    → IsApart (c.slots + k) (members c.list_of list order)
node_apart c list order within k =
    each_weaker (λ slot. slot < c.slots) (λ slot. slot ≢ c.slots + k) (λ slot small e. absurd (omega (arith, small, e)))
    (members c.list_of list order) (each_filter (λ slot. slot < c.slots) (λ slot. nat_eq (slice_index c.list_of slot) list) order within)

-- a node of another list's ring
Elsewhere : Chains → (list : ℕ) → (order : List ℕ) → (node : ℕ) → Type 0
Elsewhere c list order node = (c.slots + list ≢ node) × IsApart node (members c.list_of list order)

elsewhere_node : (c : Chains) (list other : ℕ) (order : List ℕ) → Each (λ slot. slot < c.slots) order → list ≢ other
    → (c.slots + list ≢ c.slots + other) × IsApart (c.slots + other) (members c.list_of list order)
elsewhere_node c list other order within ne = (λ e. ne (omega (arith, e)), node_apart c list order within other)

elsewhere_slot : (c : Chains) (list other : ℕ) (order : List ℕ) → Each (λ slot. slot < c.slots) order → list ≢ other
    → (slot : ℕ) → (slot < c.slots) × (slice_index c.list_of slot ≡ other)
    → (c.slots + list ≢ slot) × IsApart slot (members c.list_of list order)
elsewhere_slot c list other order within ne slot member = (
  λ e. absurd (omega (arith, e, member.0)),
  each_weaker (λ x. (x < c.slots) × (slice_index c.list_of x ≡ list)) (λ x. x ≢ slot)
      (λ x of e. ne (sym of.1 ∙ ap (slice_index c.list_of) e ∙ member.1)) (members c.list_of list order) (each_member c list order within),
)

elsewhere_each : (c : Chains) (list other : ℕ) (order : List ℕ) → Each (λ slot. slot < c.slots) order → list ≢ other
    → Each (λ slot. (c.slots + list ≢ slot) × IsApart slot (members c.list_of list order)) (members c.list_of other order)
elsewhere_each c list other order within ne =
    each_weaker (λ slot. (slot < c.slots) × (slice_index c.list_of slot ≡ other))
    (λ slot. (c.slots + list ≢ slot) × IsApart slot (members c.list_of list order)) (elsewhere_slot c list other order within ne)
    (members c.list_of other order) (each_member c other order within)

-- A slot comes.

ring-placed_same : (c : Chains) (moments order : List ℕ) (list slot at before : ℕ) → IsLinked c → list < c.lists → slot < c.slots
    → Spells c moments order → IsApart slot order
    → at ≡ stop_of moments (slice_index moments slot) (c.slots + list) (members c.list_of list order) → before ≡ slice_index c.previous at
    → before < c.slots + c.lists → at < c.slots + c.lists
    → IsChain (with_slot c slot list before at).next (with_slot c slot list before at).previous (c.slots + list)
    (members (with_slot c slot list before at).list_of list (placed moments slot order)) (c.slots + list)
ring-placed_same c moments order list slot at before linked in' small spells apart is_at is_before bn an =
    let p : ℕ → Bool = λ x. nat_eq (slice_index (set c.list_of slot list) x) list in
    let own : slice_index (set c.list_of slot list) slot ≡ list = get_or-set_same c.list_of slot list 0 (rw linked.list_length small) in
    let passes : p slot ≡ true = eq-eqb _ _ own in
    let kept : filter p order ≡ members c.list_of list order = members-set c.list_of slot list list order apart in
    let spelled : members (set c.list_of slot list) list (placed moments slot order) ≡ placed moments slot (members c.list_of list order)
    = filter-placed p moments slot order passes spells.ordered ∙ ap (placed moments slot) kept in
    let fresh : Fresh slot (c.slots + list) (members c.list_of list order) (c.slots + list) = record {
      from_other = λ e. absurd (omega (arith, e, small));
      end_other = λ e. absurd (omega (arith, e, small));
      slot_apart = each_filter (λ x. x ≢ slot) (λ x. nat_eq (slice_index c.list_of x) list) order apart;
      from_apart = node_apart c list order spells.within list;
      end_apart = node_apart c list order spells.within list;
      distinct = distinct_filter (λ x. nat_eq (slice_index c.list_of x) list) order spells.distinct;
    } in
    subst (λ (xs : List ℕ). IsChain (set (set c.next before slot) slot at) (set (set c.previous at slot) slot before) (c.slots + list) xs
    (c.slots + list)) (sym spelled)
    (chain-placed c.next c.previous moments slot at before (c.slots + list) (members c.list_of list order) (c.slots + list) is_at is_before
    fresh (omega (arith, linked.next_length, small)) (omega (arith, linked.previous_length, small)) (omega (arith, linked.next_length, bn))
    (omega (arith, linked.previous_length, an)) (spells.rings list in'))

ring-placed_other : (c : Chains) (moments order : List ℕ) (list slot at before : ℕ) → IsLinked c → list < c.lists → slot < c.slots
    → Spells c moments order → IsApart slot order
    → at ≡ stop_of moments (slice_index moments slot) (c.slots + list) (members c.list_of list order) → before ≡ slice_index c.previous at
    → (other : ℕ) → other < c.lists → other ≢ list
    → IsChain (with_slot c slot list before at).next (with_slot c slot list before at).previous (c.slots + other)
    (members (with_slot c slot list before at).list_of other (placed moments slot order)) (c.slots + other)
ring-placed_other c moments order list slot at before linked in' small spells apart is_at is_before other among ne =
    let xs : List ℕ = members c.list_of other order in
    let p : ℕ → Bool = λ x. nat_eq (slice_index (set c.list_of slot list) x) other in
    let own : slice_index (set c.list_of slot list) slot ≡ list = get_or-set_same c.list_of slot list 0 (rw linked.list_length small) in
    let out : p slot ≡ false = ne_eqb _ _ (λ e. ne (sym e ∙ own)) in
    let spelled : members (set c.list_of slot list) other (placed moments slot order) ≡ members c.list_of other order
    = filter-placed_out p moments slot order out ∙ members-set c.list_of slot list other order apart in
    let away : ℕ → Type 0 = λ node. (c.slots + other ≢ node) × IsApart node (members c.list_of other order) in
    let node = elsewhere_node c other list order spells.within ne in
    let each = elsewhere_each c other list order spells.within ne in
    let at_away : (c.slots + other ≢ at) × IsApart at (members c.list_of other order) =
    subst (λ (n : ℕ). (c.slots + other ≢ n) × IsApart n (members c.list_of other order)) (sym is_at)
    (stop_among away moments (slice_index moments slot) (c.slots + list) (members c.list_of list order) node each) in
    let before_away : (c.slots + other ≢ before) × IsApart before (members c.list_of other order) =
    subst (λ (n : ℕ). (c.slots + other ≢ n) × IsApart n (members c.list_of other order))
    (sym (is_before ∙ ap (slice_index c.previous) is_at))
    (before_stop away moments (slice_index moments slot) c.next c.previous (c.slots + list) (members c.list_of list order) (c.slots + list)
    node each (spells.rings list in')) in
    let slot_other : c.slots + other ≢ slot = λ e. absurd (omega (arith, e, small)) in
    let slot_apart : IsApart slot (members c.list_of other order) =
    each_filter (λ x. x ≢ slot) (λ x. nat_eq (slice_index c.list_of x) other) order apart in
    subst (λ (ys : List ℕ). IsChain (set (set c.next before slot) slot at) (set (set c.previous at slot) slot before) (c.slots + other) ys
    (c.slots + other)) (sym spelled)
    (next_kept (set c.next before slot) (set (set c.previous at slot) slot before) slot at (c.slots + other) xs (c.slots + other)
    slot_other slot_apart
    (next_kept c.next (set (set c.previous at slot) slot before) before slot (c.slots + other) xs (c.slots + other)
    before_away.0 before_away.1
    (previous_kept c.next (set c.previous at slot) slot before (c.slots + other) xs (c.slots + other) slot_other slot_apart
    (previous_kept c.next c.previous at slot (c.slots + other) xs (c.slots + other) at_away.0 at_away.1 (spells.rings other among)))))

listed-set : (c : Chains) (slot list : ℕ) (order : List ℕ) → IsApart slot order → Each (λ x. slice_index c.list_of x < c.lists) order
    → Each (λ x. slice_index (set c.list_of slot list) x < c.lists) order
listed-set c slot list order apart listed =
    each_weaker (λ x. (x ≢ slot) × (slice_index c.list_of x < c.lists)) (λ x. slice_index (set c.list_of slot list) x < c.lists)
    (λ x both. let same : slice_index (set c.list_of slot list) x ≡ slice_index c.list_of x = get_or-set_other c.list_of slot x list 0 both.0
    in rw same (both.1)) order
    (each_both (λ x. x ≢ slot) (λ x. slice_index c.list_of x < c.lists) order apart listed)

pub spells-placed : (c : Chains) (moments order : List ℕ) (list slot at before : ℕ) → IsLinked c → list < c.lists → slot < c.slots
    → before < c.slots + c.lists → at < c.slots + c.lists
    → Spells c moments order → IsApart slot order → length order < c.slots
    → at ≡ stop_of moments (slice_index moments slot) (c.slots + list) (members c.list_of list order) → before ≡ slice_index c.previous at
    → Spells (with_slot c slot list before at) moments (placed moments slot order)
spells-placed c moments order list slot at before linked in' small bn an spells apart room is_at is_before = record {
  few = omega (arith, length-placed moments slot order, room);
  within = each_placed (λ x. x < c.slots) moments slot order small spells.within;
  listed = each_placed (λ x. slice_index (set c.list_of slot list) x < c.lists) moments slot order
      (let own : slice_index (set c.list_of slot list) slot ≡ list = get_or-set_same c.list_of slot list 0 (rw linked.list_length small) in
      rw own in') (listed-set c slot list order apart spells.listed);
  distinct = distinct_placed moments slot order apart spells.distinct;
  ordered = ordered_placed moments slot order spells.ordered;
  rings = λ other among. elim (cases_eq other list) [
    | inl one ↦ rw one (ring-placed_same c moments order list slot at before linked in' small spells apart is_at is_before bn an)
    | inr ne ↦ ring-placed_other c moments order list slot at before linked in' small spells apart is_at is_before other among ne
  ];
}

-- A slot goes.

ring-without_same : (c : Chains) (moments order : List ℕ) (slot before after : ℕ) → IsLinked c → Spells c moments order
    → has slot order ≡ true → slice_index c.list_of slot < c.lists
    → before ≡ slice_index c.previous slot → after ≡ slice_index c.next slot → before < c.slots + c.lists → after < c.slots + c.lists
    → (list : ℕ) → list ≡ slice_index c.list_of slot
    → IsChain (set c.next before after) (set c.previous after before) (c.slots + list) (members c.list_of list (without slot order))
    (c.slots + list)
ring-without_same c moments order slot before after linked spells here in' is_before is_after bn an list one =
    let p : ℕ → Bool = λ x. nat_eq (slice_index c.list_of x) list in
    let passes : p slot ≡ true = eq-eqb _ _ (sym one) in
    let spelled : members c.list_of list (without slot order) ≡ without slot (members c.list_of list order) =
    filter-filter p (λ x. not (nat_eq x slot)) order in
    let around : Around (c.slots + list) (members c.list_of list order) (c.slots + list) = record {
      from_apart = node_apart c list order spells.within list;
      end_apart = node_apart c list order spells.within list;
      distinct = distinct_filter p order spells.distinct;
    } in
    subst (λ (ys : List ℕ). IsChain (set c.next before after) (set c.previous after before) (c.slots + list) ys (c.slots + list))
    (sym spelled)
    (chain-without c.next c.previous slot before after (c.slots + list) (members c.list_of list order) (c.slots + list) is_before is_after
    (has-filter p slot order passes here) around (omega (arith, linked.next_length, bn)) (omega (arith, linked.previous_length, an))
    (spells.rings list (rw one in')))

ring-without_other : (c : Chains) (moments order : List ℕ) (slot before after : ℕ) → Spells c moments order
    → has slot order ≡ true → slice_index c.list_of slot < c.lists
    → before ≡ slice_index c.previous slot → after ≡ slice_index c.next slot
    → (other : ℕ) → other < c.lists → other ≢ slice_index c.list_of slot
    → IsChain (set c.next before after) (set c.previous after before) (c.slots + other) (members c.list_of other (without slot order))
    (c.slots + other)
ring-without_other c moments order slot before after spells here in' is_before is_after other among ne =
    let list : ℕ = slice_index c.list_of slot in
    let xs : List ℕ = members c.list_of other order in
    let ys : List ℕ = members c.list_of (slice_index c.list_of slot) order in
    let small : slot < c.slots = each_at (λ x. x < c.slots) slot order here spells.within in
    let slot_away = elsewhere_slot c other (slice_index c.list_of slot) order spells.within ne slot (small, refl) in
    let spelled : members c.list_of other (without slot order) ≡ members c.list_of other order =
    filter-filter (λ x. nat_eq (slice_index c.list_of x) other) (λ x. not (nat_eq x slot)) order ∙ without_none slot xs slot_away.1 in
    let away : ℕ → Type 0 = λ node. (c.slots + other ≢ node) × IsApart node (members c.list_of other order) in
    let node = elsewhere_node c other (slice_index c.list_of slot) order spells.within ne in
    let each = elsewhere_each c other (slice_index c.list_of slot) order spells.within ne in
    let there : has slot ys ≡ true = has-filter (λ x. nat_eq (slice_index c.list_of x) (slice_index c.list_of slot)) slot order
    (eq-eqb _ _ refl) here in
    let before_away : (c.slots + other ≢ before) × IsApart before (members c.list_of other order) =
    subst (λ (n : ℕ). (c.slots + other ≢ n) × IsApart n (members c.list_of other order)) (sym is_before)
    (before_slot away slot c.next c.previous (c.slots + slice_index c.list_of slot) ys (c.slots + slice_index c.list_of slot) there node each
    (spells.rings (slice_index c.list_of slot) in')) in
    let after_away : (c.slots + other ≢ after) × IsApart after (members c.list_of other order) =
    subst (λ (n : ℕ). (c.slots + other ≢ n) × IsApart n (members c.list_of other order)) (sym is_after)
    (after_slot away slot c.next c.previous (c.slots + slice_index c.list_of slot) ys (c.slots + slice_index c.list_of slot) there node each
    (spells.rings (slice_index c.list_of slot) in')) in
    subst (λ (zs : List ℕ). IsChain (set c.next before after) (set c.previous after before) (c.slots + other) zs (c.slots + other))
    (sym spelled)
    (next_kept c.next (set c.previous after before) before after (c.slots + other) xs (c.slots + other) before_away.0 before_away.1
    (previous_kept c.next c.previous after before (c.slots + other) xs (c.slots + other) after_away.0 after_away.1
    (spells.rings other among)))

pub spells-without : (c : Chains) (moments order : List ℕ) (slot before after : ℕ) → IsLinked c
    → before < c.slots + c.lists → after < c.slots + c.lists → Spells c moments order → has slot order ≡ true
    → before ≡ slice_index c.previous slot → after ≡ slice_index c.next slot
    → Spells (without_slot c before after) moments (without slot order)
spells-without c moments order slot before after linked bn an spells here is_before is_after =
    let p : ℕ → Bool = λ x. not (nat_eq x slot) in
    let in' : slice_index c.list_of slot < c.lists = each_at (λ x. slice_index c.list_of x < c.lists) slot order here spells.listed in
    record {
      few = omega (arith, length-filter p order, spells.few);
      within = each_filter (λ x. x < c.slots) p order spells.within;
      listed = each_filter (λ x. slice_index c.list_of x < c.lists) p order spells.listed;
      distinct = distinct_filter p order spells.distinct;
      ordered = ordered_filter moments p order spells.ordered;
      rings = λ other among. elim (cases_eq other (slice_index c.list_of slot)) [
        | inl one ↦ ring-without_same c moments order slot before after linked spells here in' is_before is_after bn an other one
        | inr ne ↦ ring-without_other c moments order slot before after spells here in' is_before is_after other among ne
      ];
    }
