-- The tables as a slot is put or taken.
use Rattle.std.proofs.Common.{◌≡◌, ◌≢◌, ℕ, zero, suc, ◌+◌, ◌^◌, ◌-◌, ◌<◌, ◌≤◌, Bool, true, false, List, [], length, set, get_or, get_or-set_other, get_or-set_same, sym, refl, ◌∙◌, inl, inr, arith}
use Rattle.std.proofs.lemmas.List.{get_or_read, get_or-replicate, length-replicate, length-set}
use Rattle.std.specs.Prelude.{nat_eq, replicate, slice_index, slice_index_or}
use Rattle.std.proofs.lemmas.Bool.{cases_Bool, eqb-true, eq-eqb}
use Rattle.slot_lists.specs.Orders.{Each, IsApart, IsOrdered, has, members, placed, without}
use Rattle.slot_lists.specs.Chains.{Chains, Spells, order_in}
use Rattle.slot_lists.proofs.Each.{each_at, each_weaker, length-placed}
use Rattle.slot_lists.proofs.Walks.{members_all, order_is}
use Rattle.slots_by_age.specs.Tables.{AreTables}
use Rattle.slots_by_age.proofs.Has.{apart-without, apart_has, fewer_below, has-placed_other, has-placed_same, has-without_other, has_apart, length-without}
use Rattle.slots_by_age.proofs.Counted.{length-placed_in, length-placed_out, length-without_in, length-without_out, ordered_since}

first_list : (c : Chains) (moments order : List ℕ) → Spells c moments order → c.lists ≡ 1 → Each (λ slot. slice_index c.list_of slot ≡ 0) order
first_list c moments order spells one =
    each_weaker (λ slot. slice_index c.list_of slot < c.lists) (λ slot. slice_index c.list_of slot ≡ 0) (λ slot small. omega (arith, one, small)) order
    spells.listed

pub order_of : (c : Chains) (moments order : List ℕ) → Spells c moments order → c.lists ≡ 1 → order_in c ≡ order
order_of c moments order spells one = order_is c moments order spells (omega (arith, one)) (first_list c moments order spells one)

pub members_of_all : (c : Chains) (moments order : List ℕ) → Spells c moments order → c.lists ≡ 1 → members c.list_of 0 order ≡ order
members_of_all c moments order spells one = members_all c.list_of 0 order (first_list c moments order spells one)

pub spells_since : (c : Chains) (moments order : List ℕ) (slot moment : ℕ) → IsApart slot order → Spells c moments order
    → Spells c (set moments slot moment) order
spells_since c moments order slot moment apart spells = record {
  few = spells.few;
  within = spells.within;
  listed = spells.listed;
  distinct = spells.distinct;
  ordered = ordered_since moments slot moment order apart spells.ordered;
  rings = spells.rings;
}

-- where there is room for one more
pub room_for : (c : Chains) (moments order : List ℕ) (slot : ℕ) → Spells c moments order → slot < c.slots → IsApart slot order → length order < c.slots
room_for c moments order slot spells small apart = fewer_below c.slots slot order small apart spells.within spells.distinct

-- What an insertion in each list says.
pub record IsIn (c c' : Chains) (moments : List ℕ) (slot list : ℕ) : Type 0 where
  pub slots : c'.slots ≡ c.slots
  pub lists : c'.lists ≡ c.lists
  pub here : slice_index c'.list_of slot ≡ list
  pub others : c'.list_of ≡ set c.list_of slot list
  pub placed : (order : List ℕ) → Spells c moments order → IsApart slot order → length order < c.slots
      → Spells c' moments (placed moments slot order)

placed_all : (all all' : Chains) (since : List ℕ) (slot list moment : ℕ) → Spells all since (order_in all) → slot < all.slots
    → IsApart slot (order_in all) → IsIn all all' (set since slot moment) slot list
    → Spells all' (set since slot moment) (placed (set since slot moment) slot (order_in all))
placed_all all all' since slot list moment spells small apart in' =
    in'.placed (order_in all) (spells_since all since (order_in all) slot moment apart spells) apart (room_for all since (order_in all) slot spells small apart)

pub order-put : (all all' : Chains) (since : List ℕ) (slot list moment : ℕ) → Spells all since (order_in all) → slot < all.slots
    → all.lists ≡ 1 → IsApart slot (order_in all) → IsIn all all' (set since slot moment) slot list
    → order_in all' ≡ placed (set since slot moment) slot (order_in all)
order-put all all' since slot list moment spells small one apart in' =
    order_of all' (set since slot moment) (placed (set since slot moment) slot (order_in all))
    (placed_all all all' since slot list moment spells small apart in') (in'.lists ∙ one)

kept-put : (kept : List Bool) (moments order : List ℕ) (slot slots : ℕ) → slot < slots → length kept ≡ slots
    → ((other : ℕ) → other < slots → slice_index_or kept other false ≡ has other order) → (other : ℕ) → other < slots
    → slice_index_or (set kept slot true) other false ≡ has other (placed moments slot order)
kept-put kept moments order slot slots small long so other small' = elim (cases_Bool (nat_eq slot other)) [
  | inl hit ↦
      let one : slot ≡ other = eqb-true slot other hit in
      rw (← one) (get_or-set_same kept slot true false (omega (arith, small, long)) ∙ sym (has-placed_same moments slot order))
  | inr miss ↦
      let two : other ≢ slot = λ e. let hit : nat_eq slot other ≡ true = eq-eqb slot other (sym e) in cc in
      get_or-set_other kept slot other true false two ∙ so other small' ∙ sym (has-placed_other moments slot other order miss)
]

counted-put : (list_of counts since order : List ℕ) (slot kind n kinds : ℕ) → slice_index (set list_of slot kind) slot ≡ kind
    → IsApart slot order → IsOrdered since order → length counts ≡ kinds → kind < kinds → n ≡ slice_index counts kind
    → ((other : ℕ) → other < kinds → slice_index counts other ≡ length (members list_of other order)) → (other : ℕ) → other < kinds
    → slice_index (set counts kind (n + 1)) other ≡ length (members (set list_of slot kind) other (placed since slot order))
counted-put list_of counts since order slot kind n kinds here apart ordered long small is so other small' = elim (cases_Bool (nat_eq other kind)) [
  | inl hit ↦
      let one : other ≡ kind = eqb-true other kind hit in
      let more = length-placed_in list_of since slot kind order here apart ordered in
      let was = so kind small in
      rw one (get_or-set_same counts kind (n + 1) 0 (omega (arith, small, long)) ∙ omega (arith, more, was, is))
  | inr miss ↦
      let two : other ≢ kind = λ e. let hit : nat_eq other kind ≡ true = eq-eqb other kind e in cc in
      get_or-set_other counts kind other (n + 1) 0 two ∙ so other small' ∙ sym (length-placed_out list_of since slot kind other order here apart two)
]

within-put : (list_of list_of' : List ℕ) (slot kind kinds slots : ℕ) → kind < kinds → slice_index list_of' slot ≡ kind → list_of' ≡ set list_of slot kind
    → ((other : ℕ) → other < slots → slice_index list_of other < kinds) → (other : ℕ) → other < slots → slice_index list_of' other < kinds
within-put list_of list_of' slot kind kinds slots small here others so other small' = elim (cases_Bool (nat_eq other slot)) [
  | inl hit ↦ let one : other ≡ slot = eqb-true other slot hit in rw one (omega (arith, here, small))
  | inr miss ↦
      let two : other ≢ slot = λ e. let hit : nat_eq other slot ≡ true = eq-eqb other slot e in cc in
      let same : slice_index list_of' other ≡ slice_index list_of other = rw others (get_or-set_other list_of slot other kind 0 two) in
      omega (arith, same, so other small')
]

pub tables-put : (all kinds all' kinds' : Chains) (since : List ℕ) (kept : List Bool) (counts : List ℕ) (slot kind moment n total : ℕ)
    → AreTables all kinds since kept counts total → slot < all.slots → kind < kinds.lists → has slot (order_in all) ≡ false
    → IsIn all all' (set since slot moment) slot 0 → IsIn kinds kinds' (set since slot moment) slot kind → n ≡ slice_index counts kind
    → AreTables all' kinds' (set since slot moment) (set kept slot true) (set counts kind (n + 1)) (total + 1)
tables-put all kinds all' kinds' since kept counts slot kind moment n total t small within none in' of' is =
    let apart = has_apart slot (order_in all) none in
    let order : order_in all' ≡ placed (set since slot moment) slot (order_in all) = order-put all all' since slot 0 moment t.whole small t.one apart in' in
    let spelled = spells_since kinds since (order_in all) slot moment apart t.parts in
    record {
      slots = of'.slots ∙ t.slots ∙ sym (in'.slots);
      one = in'.lists ∙ t.one;
      few = omega (arith, in'.slots, t.few);
      since_length = length-set since slot moment ∙ t.since_length ∙ sym (in'.slots);
      kept_length = length-set kept slot true ∙ t.kept_length ∙ sym (in'.slots);
      counts_length = length-set counts kind (n + 1) ∙ t.counts_length ∙ sym (of'.lists);
      whole = rw order (placed_all all all' since slot 0 moment t.whole small apart in');
      parts = rw order (of'.placed (order_in all) spelled apart (omega (arith, t.slots, room_for all since (order_in all) slot t.whole small apart)));
      within = λ other small'. omega (
        arith,
        of'.lists,
        within-put kinds.list_of kinds'.list_of slot kind kinds.lists all.slots within of'.here of'.others
            t.within other (omega (arith, small', in'.slots)),
      );
      is_kept = λ other small'. rw order (kept-put kept (set since slot moment) (order_in all) slot all.slots small t.kept_length t.is_kept other
          (omega (arith, small', in'.slots)));
      counted = λ other small'. rw (order, of'.others) (counted-put kinds.list_of counts (set since slot moment) (order_in all) slot kind n kinds.lists
          (rw of'.others at of'.here) apart spelled.ordered t.counts_length within is t.counted other (omega (arith, small', of'.lists)));
      together = rw order (omega (arith, t.together, length-placed (set since slot moment) slot (order_in all)));
    }

pub room_for_one : (all : Chains) (since : List ℕ) (slot total : ℕ) → Spells all since (order_in all) → slot < all.slots
    → has slot (order_in all) ≡ false → total ≡ length (order_in all) → total < all.slots
room_for_one all since slot total spells small none is =
    omega (arith, is, room_for all since (order_in all) slot spells small (has_apart slot (order_in all) none))

-- what was read of a slot says whether it is kept
pub here_by : (kept : List Bool) (order : List ℕ) (slot : ℕ) (read is : Bool) → slot < length kept → read ≡ get_or kept slot read → read ≡ is
    → slice_index_or kept slot false ≡ has slot order → has slot order ≡ is
here_by kept order slot read is small at says so = sym so ∙ sym (get_or_read kept slot read small at false) ∙ says

-- What a removal from each list says.
pub record IsOut (c c' : Chains) (slot : ℕ) : Type 0 where
  pub slots : c'.slots ≡ c.slots
  pub lists : c'.lists ≡ c.lists
  pub list : c'.list_of ≡ c.list_of
  pub without : (moments order : List ℕ) → Spells c moments order → has slot order ≡ true → Spells c' moments (without slot order)

pub order-taken : (all all' : Chains) (since : List ℕ) (slot : ℕ) → Spells all since (order_in all) → all.lists ≡ 1
    → has slot (order_in all) ≡ true → IsOut all all' slot → order_in all' ≡ without slot (order_in all)
order-taken all all' since slot spells one here out =
    order_of all' since (without slot (order_in all)) (out.without since (order_in all) spells here) (out.lists ∙ one)

kept-taken : (kept : List Bool) (order : List ℕ) (slot slots : ℕ) → slot < slots → length kept ≡ slots
    → ((other : ℕ) → other < slots → slice_index_or kept other false ≡ has other order) → (other : ℕ) → other < slots
    → slice_index_or (set kept slot false) other false ≡ has other (without slot order)
kept-taken kept order slot slots small long so other small' = elim (cases_Bool (nat_eq slot other)) [
  | inl hit ↦
      let one : slot ≡ other = eqb-true slot other hit in
      rw (← one) (get_or-set_same kept slot false false (omega (arith, small, long)) ∙ sym (apart_has slot (without slot order) (apart-without slot order)))
  | inr miss ↦
      let two : other ≢ slot = λ e. let hit : nat_eq slot other ≡ true = eq-eqb slot other (sym e) in cc in
      get_or-set_other kept slot other false false two ∙ so other small' ∙ sym (has-without_other slot other order miss)
]

pub some_of_kind : (kinds : Chains) (since order counts : List ℕ) (slot n : ℕ) → Spells kinds since order → has slot order ≡ true
    → n ≡ slice_index counts (slice_index kinds.list_of slot)
    → ((other : ℕ) → other < kinds.lists → slice_index counts other ≡ length (members kinds.list_of other order)) → 1 ≤ n
some_of_kind kinds since order counts slot n spells here is so =
    let within : slice_index kinds.list_of slot < kinds.lists = each_at (λ s. slice_index kinds.list_of s < kinds.lists) slot order here spells.listed in
    omega (arith, is, so (slice_index kinds.list_of slot) within, length-without_in kinds.list_of slot order here spells.distinct)

counted-taken : (kinds : Chains) (since order counts : List ℕ) (slot n : ℕ) → Spells kinds since order → has slot order ≡ true
    → length counts ≡ kinds.lists → n ≡ slice_index counts (slice_index kinds.list_of slot)
    → ((other : ℕ) → other < kinds.lists → slice_index counts other ≡ length (members kinds.list_of other order)) → (other : ℕ) → other < kinds.lists
    → slice_index (set counts (slice_index kinds.list_of slot) (n - 1)) other ≡ length (members kinds.list_of other (without slot order))
counted-taken kinds since order counts slot n spells here long is so other small' =
    let kind : ℕ = slice_index kinds.list_of slot in
    let within : slice_index kinds.list_of slot < kinds.lists = each_at (λ s. slice_index kinds.list_of s < kinds.lists) slot order here spells.listed in
    elim (cases_Bool (nat_eq other (slice_index kinds.list_of slot))) [
      | inl hit ↦
          let one : other ≡ slice_index kinds.list_of slot = eqb-true _ _ hit in
          let fewer = length-without_in kinds.list_of slot order here spells.distinct in
          let was = so (slice_index kinds.list_of slot) within in
          rw one (get_or-set_same counts (slice_index kinds.list_of slot) (n - 1) 0 (omega (arith, within, long)) ∙ omega (arith, fewer, was, is))
      | inr miss ↦
          let two : other ≢ slice_index kinds.list_of slot = λ e. let hit : nat_eq other (slice_index kinds.list_of slot) ≡ true = eq-eqb _ _ e in cc in
          get_or-set_other counts (slice_index kinds.list_of slot) other (n - 1) 0 two ∙ so other small'
          ∙ sym (length-without_out kinds.list_of slot other order two)
    ]

pub tables-taken : (all kinds all' kinds' : Chains) (since : List ℕ) (kept : List Bool) (counts : List ℕ) (slot n total : ℕ)
    → AreTables all kinds since kept counts total → slot < all.slots → has slot (order_in all) ≡ true
    → IsOut all all' slot → IsOut kinds kinds' slot → n ≡ slice_index counts (slice_index kinds.list_of slot)
    → AreTables all' kinds' since (set kept slot false) (set counts (slice_index kinds.list_of slot) (n - 1)) (total - 1)
tables-taken all kinds all' kinds' since kept counts slot n total t small here out off is =
    let order : order_in all' ≡ without slot (order_in all) = order-taken all all' since slot t.whole t.one here out in
    record {
      slots = off.slots ∙ t.slots ∙ sym (out.slots);
      one = out.lists ∙ t.one;
      few = omega (arith, out.slots, t.few);
      since_length = t.since_length ∙ sym (out.slots);
      kept_length = length-set kept slot false ∙ t.kept_length ∙ sym (out.slots);
      counts_length = length-set counts (slice_index kinds.list_of slot) (n - 1) ∙ t.counts_length ∙ sym (off.lists);
      whole = rw order (out.without since (order_in all) t.whole here);
      parts = rw order (off.without since (order_in all) t.parts here);
      within = λ other small'. rw off.list (omega (arith, off.lists, t.within other (omega (arith, small', out.slots))));
      is_kept = λ other small'. rw order (kept-taken kept (order_in all) slot all.slots small t.kept_length t.is_kept other (omega (arith, small', out.slots)));
      counted = λ other small'. rw (order, off.list) (counted-taken kinds since (order_in all) counts slot n t.parts here t.counts_length is t.counted other
          (omega (arith, small', off.lists)));
      together = rw order (omega (arith, t.together, length-without slot (order_in all) here t.whole.distinct));
    }

zeros_at : (n i : ℕ) → slice_index (replicate n 0) i ≡ 0
zeros_at zero i = refl
zeros_at (suc n) zero = refl
zeros_at (suc n) (suc i) = zeros_at n i

pub tables-none : (all kinds : Chains) (since : List ℕ) (slots many : ℕ) (kept : List Bool) (counts : List ℕ) → all.slots ≡ slots → all.lists ≡ 1
    → kinds.slots ≡ slots → kinds.lists ≡ many → slots < 2 ^ 32 → ((moments : List ℕ) → Spells all moments []) → ((moments : List ℕ) → Spells kinds moments [])
    → kinds.list_of ≡ replicate slots 0 → 0 < many → length since ≡ slots → kept ≡ replicate slots false → counts ≡ replicate many 0
    → AreTables all kinds since kept counts 0
tables-none all kinds since slots many kept counts slots_is one slots_of many_of few none none_of first some long kept_is counts_is =
    let order : order_in all ≡ [] = order_of all since [] (none since) one in
    record {
      slots = slots_of ∙ sym slots_is;
      one = one;
      few = omega (arith, few, slots_is);
      since_length = long ∙ sym slots_is;
      kept_length = rw kept_is (length-replicate slots false ∙ sym slots_is);
      counts_length = rw counts_is (length-replicate many 0 ∙ sym many_of);
      whole = rw order (none since);
      parts = rw order (none_of since);
      within = λ slot small. rw first (omega (arith, zeros_at slots slot, some, many_of));
      is_kept = λ slot small. rw (order, kept_is) (get_or-replicate slots slot false false (omega (arith, small, slots_is)));
      counted = λ kind small. rw (order, counts_is) (zeros_at many kind);
      together = rw order refl;
    }
