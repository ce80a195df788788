-- Chains of nodes, as slots come and go.
use Rattle.std.proofs.Common.{◌≡◌, ◌≢◌, ℕ, ◌<◌, true, List, [], ◌∷◌, length, set, get_or-set_same, get_or-set_other, ap, sym, subst, ◌∙◌, inl, inr}
use Rattle.std.proofs.lemmas.List.{length-set}
use Rattle.std.specs.Prelude.{nat_eq, nat_le, slice_index}
use Rattle.std.proofs.lemmas.Bool.{cases_Bool, eqb-true}
use Rattle.slot_lists.specs.Orders.{Each, IsApart, IsDistinct, has, placed, stop_of, without}
use Rattle.slot_lists.specs.Chains.{IsChain}
use Rattle.slot_lists.proofs.Each.{without_none}

same_at : (xs : List ℕ) (i v : ℕ) → i < length xs → slice_index (set xs i v) i ≡ v
same_at xs i v h = get_or-set_same xs i v 0 h

other_at : (xs : List ℕ) (i j v : ℕ) → j ≢ i → slice_index (set xs i v) j ≡ slice_index xs j
other_at xs i j v h = get_or-set_other xs i j v 0 h

-- A node whose next isn't in a chain, or whose last isn't, may be given another.

pub next_kept : (next previous : List ℕ) (node to from : ℕ) (xs : List ℕ) (end : ℕ) → from ≢ node → IsApart node xs
    → IsChain next previous from xs end → IsChain (set next node to) previous from xs end
next_kept next previous node to from [] end other apart chain = (other_at next node from to other ∙ chain.0, chain.1)
next_kept next previous node to from (x ∷ xs) end other apart chain =
    (other_at next node from to other ∙ chain.0, chain.1, next_kept next previous node to x xs end apart.0 apart.1 chain.2)

pub previous_kept : (next previous : List ℕ) (node to from : ℕ) (xs : List ℕ) (end : ℕ) → end ≢ node → IsApart node xs
    → IsChain next previous from xs end → IsChain next (set previous node to) from xs end
previous_kept next previous node to from [] end other apart chain = (chain.0, other_at previous node end to other ∙ chain.1)
previous_kept next previous node to from (x ∷ xs) end other apart chain =
    (chain.0, other_at previous node x to apart.0 ∙ chain.1, previous_kept next previous node to x xs end other apart.1 chain.2)

-- What is true of a chain's nodes is true of those that are found there.

pub stop_among : (Q : ℕ → Type 0) (moments : List ℕ) (moment end : ℕ) (xs : List ℕ) → Q end → Each Q xs → Q (stop_of moments moment end xs)
stop_among Q moments moment end [] q each = q
stop_among Q moments moment end (x ∷ xs) q each = elim (cases_Bool (nat_le (slice_index moments x) moment)) [
  | inl hit ↦ rw hit each.0
  | inr miss ↦ rw miss (stop_among Q moments moment end xs q each.1)
]

pub before_stop : (Q : ℕ → Type 0) (moments : List ℕ) (moment : ℕ) (next previous : List ℕ) (from : ℕ) (xs : List ℕ) (end : ℕ)
    → Q from → Each Q xs → IsChain next previous from xs end → Q (slice_index previous (stop_of moments moment end xs))
before_stop Q moments moment next previous from [] end q each chain = rw (chain.1) q
before_stop Q moments moment next previous from (x ∷ xs) end q each chain = elim (cases_Bool (nat_le (slice_index moments x) moment)) [
  | inl hit ↦ rw (hit, chain.1) q
  | inr miss ↦ rw miss (before_stop Q moments moment next previous x xs end each.0 each.1 chain.2)
]

pub before_slot : (Q : ℕ → Type 0) (slot : ℕ) (next previous : List ℕ) (from : ℕ) (xs : List ℕ) (end : ℕ)
    → has slot xs ≡ true → Q from → Each Q xs → IsChain next previous from xs end → Q (slice_index previous slot)
before_slot Q slot next previous from [] end here q each chain = absurd cc
before_slot Q slot next previous from (x ∷ xs) end here q each chain = elim (cases_Bool (nat_eq x slot)) [
  | inl hit ↦ let one : x ≡ slot = eqb-true x slot hit in let at : slice_index previous slot ≡ from = rw one at chain.1 in rw at q
  | inr miss ↦ before_slot Q slot next previous x xs end (rw miss at here) each.0 each.1 chain.2
]

after_first : (Q : ℕ → Type 0) (next previous : List ℕ) (from : ℕ) (xs : List ℕ) (end : ℕ)
    → Q end → Each Q xs → IsChain next previous from xs end → Q (slice_index next from)
after_first Q next previous from [] end q each chain = rw (chain.0) q
after_first Q next previous from (x ∷ xs) end q each chain = rw (chain.0) each.0

pub after_slot : (Q : ℕ → Type 0) (slot : ℕ) (next previous : List ℕ) (from : ℕ) (xs : List ℕ) (end : ℕ)
    → has slot xs ≡ true → Q end → Each Q xs → IsChain next previous from xs end → Q (slice_index next slot)
after_slot Q slot next previous from [] end here q each chain = absurd cc
after_slot Q slot next previous from (x ∷ xs) end here q each chain = elim (cases_Bool (nat_eq x slot)) [
  | inl hit ↦ let one : x ≡ slot = eqb-true x slot hit in rw one at (after_first Q next previous x xs end q each.1 chain.2)
  | inr miss ↦ after_slot Q slot next previous x xs end (rw miss at here) q each.1 chain.2
]

-- A slot is put in.

pub record Fresh (slot from : ℕ) (xs : List ℕ) (end : ℕ) : Type 0 where
  pub from_other : from ≢ slot
  pub end_other : end ≢ slot
  pub slot_apart : IsApart slot xs
  pub from_apart : IsApart from xs
  pub end_apart : IsApart end xs
  pub distinct : IsDistinct xs

between : (next previous : List ℕ) (slot from to : ℕ) → from ≢ slot → to ≢ slot
    → slot < length next → slot < length previous → from < length next → to < length previous
    → (slice_index (set (set next from slot) slot to) from ≡ slot) × (slice_index (set (set previous to slot) slot from) slot ≡ from)
    × (slice_index (set (set next from slot) slot to) slot ≡ to) × (slice_index (set (set previous to slot) slot from) to ≡ slot)
between next previous slot from to f t sn sp fn tp =
    let here : slot < length (set next from slot) = rw (length-set next from slot) sn in
    let there : slot < length (set previous to slot) = rw (length-set previous to slot) sp in (
      other_at (set next from slot) slot from to f ∙ same_at next from slot fn,
      same_at (set previous to slot) slot from there,
      same_at (set next from slot) slot to here,
      other_at (set previous to slot) slot to from t ∙ same_at previous to slot tp,
    )

pub chain-placed : (next previous moments : List ℕ) (slot at before from : ℕ) (xs : List ℕ) (end : ℕ)
    → at ≡ stop_of moments (slice_index moments slot) end xs → before ≡ slice_index previous at → Fresh slot from xs end
    → slot < length next → slot < length previous → before < length next → at < length previous → IsChain next previous from xs end
    → IsChain (set (set next before slot) slot at) (set (set previous at slot) slot before) from (placed moments slot xs) end
chain-placed next previous moments slot at before from [] end is_at is_before fresh sn sp bn ap' chain =
    let one : before ≡ from = is_before ∙ rw is_at (chain.1) in
    let b = between next previous slot from end fresh.from_other fresh.end_other sn sp (rw one at bn) (rw is_at at ap') in
    rw (is_at, one) (b.0, b.1, (b.2, b.3))
chain-placed next previous moments slot at before from (x ∷ xs) end is_at is_before fresh sn sp bn ap' chain =
    elim (cases_Bool (nat_le (slice_index moments x) (slice_index moments slot))) [
      | inl hit ↦
          let stop : at ≡ x = rw hit at is_at in
          let one : before ≡ from = is_before ∙ rw stop (chain.1) in
          let b = between next previous slot from x fresh.from_other fresh.slot_apart.0 sn sp (rw one at bn) (rw stop at ap') in
          let rest = next_kept (set next from slot) (set (set previous x slot) slot from) slot x x xs end fresh.slot_apart.0
          fresh.slot_apart.1 (next_kept next (set (set previous x slot) slot from) from slot x xs end fresh.from_apart.0 fresh.from_apart.1
          (previous_kept next (set previous x slot) slot from x xs end fresh.end_other fresh.slot_apart.1
          (previous_kept next previous x slot x xs end (λ e. fresh.end_apart.0 (sym e)) fresh.distinct.0 chain.2))) in
          rw hit (subst (λ (a : ℕ). IsChain (set (set next before slot) slot a) (set (set previous a slot) slot before) from (slot ∷ x ∷ xs)
          end) (sym stop) (subst (λ (b' : ℕ). IsChain (set (set next b' slot) slot x) (set (set previous x slot) slot b') from
          (slot ∷ x ∷ xs) end) (sym one) (b.0, b.1, (b.2, b.3, rest))))
      | inr miss ↦
          let stop : at ≡ stop_of moments (slice_index moments slot) end xs = rw miss at is_at in
          let deeper : Fresh slot x xs end = record {
            from_other = fresh.slot_apart.0;
            end_other = fresh.end_other;
            slot_apart = fresh.slot_apart.1;
            from_apart = fresh.distinct.0;
            end_apart = fresh.end_apart.1;
            distinct = fresh.distinct.1;
          } in
          let rest = chain-placed next previous moments slot at before x xs end stop is_before deeper sn sp bn ap' chain.2 in
          let not_before : before ≢ from = λ e. before_stop (λ z. z ≢ from) moments (slice_index moments slot) next previous x xs end
          fresh.from_apart.0 fresh.from_apart.1 chain.2 (ap (slice_index previous) (sym stop) ∙ sym is_before ∙ e) in
          let not_at : at ≢ x = λ e. stop_among (λ z. z ≢ x) moments (slice_index moments slot) end xs
          (λ f. fresh.end_apart.0 (sym f)) fresh.distinct.0 (sym stop ∙ e) in
          let n = other_at (set next before slot) slot from at fresh.from_other ∙ other_at next before from slot (λ e. not_before (sym e))
          ∙ chain.0 in
          let p = other_at (set previous at slot) slot x before fresh.slot_apart.0 ∙ other_at previous at x slot (λ e. not_at (sym e))
          ∙ chain.1 in
          rw miss (n, p, rest)
    ]

-- A slot is taken out.

pub record Around (from : ℕ) (xs : List ℕ) (end : ℕ) : Type 0 where
  pub from_apart : IsApart from xs
  pub end_apart : IsApart end xs
  pub distinct : IsDistinct xs

skipped : (next previous : List ℕ) (x from after : ℕ) (xs : List ℕ) (end : ℕ) → after ≡ slice_index next x → Around from xs end
    → from < length next → after < length previous → IsChain next previous x xs end
    → IsChain (set next from after) (set previous after from) from xs end
skipped next previous x from after [] end is_after around fn ap' chain =
    let one : after ≡ end = is_after ∙ chain.0 in
    rw one (same_at next from end fn, same_at previous end from (rw one at ap'))
skipped next previous x from after (y ∷ xs) end is_after around fn ap' chain =
    let one : after ≡ y = is_after ∙ chain.0 in
    subst (λ (a : ℕ). IsChain (set next from a) (set previous a from) from (y ∷ xs) end) (sym one) (
      same_at next from y fn,
      same_at previous y from (rw one at ap'),
      next_kept next (set previous y from) from y y xs end around.from_apart.0 around.from_apart.1
          (previous_kept next previous y from y xs end (λ e. around.end_apart.0 (sym e)) around.distinct.0 chain.2),
    )

pub chain-without : (next previous : List ℕ) (slot before after from : ℕ) (xs : List ℕ) (end : ℕ)
    → before ≡ slice_index previous slot → after ≡ slice_index next slot → has slot xs ≡ true → Around from xs end
    → before < length next → after < length previous → IsChain next previous from xs end
    → IsChain (set next before after) (set previous after before) from (without slot xs) end
chain-without next previous slot before after from [] end is_before is_after here around bn ap' chain = absurd cc
chain-without next previous slot before after from (x ∷ xs) end is_before is_after here around bn ap' chain =
    elim (cases_Bool (nat_eq x slot)) [
      | inl hit ↦
          let one : slot ≡ x = sym (eqb-true x slot hit) in
          let b : before ≡ from = is_before ∙ rw one (chain.1) in
          let a : after ≡ slice_index next x = rw one at is_after in
          let gone : without slot xs ≡ xs = rw one (without_none x xs around.distinct.0) in
          rw (hit, gone, b) (skipped next previous x from after xs end a (record {
            from_apart = around.from_apart.1;
            end_apart = around.end_apart.1;
            distinct = around.distinct.1;
          }) (rw b at bn) ap' chain.2)
      | inr miss ↦
          let there : has slot xs ≡ true = rw miss at here in
          let rest = chain-without next previous slot before after x xs end is_before is_after there (record {
            from_apart = around.distinct.0;
            end_apart = around.end_apart.1;
            distinct = around.distinct.1;
          }) bn ap' chain.2 in
          let not_before : from ≢ before = λ e. before_slot (λ z. z ≢ from) slot next previous x xs end there around.from_apart.0
          around.from_apart.1 chain.2 (sym is_before ∙ sym e) in
          let not_after : x ≢ after = λ e. after_slot (λ z. z ≢ x) slot next previous x xs end there (λ f. around.end_apart.0 (sym f))
          around.distinct.0 chain.2 (sym is_after ∙ sym e) in
          rw miss (other_at next before from after not_before ∙ chain.0, other_at previous after x before not_after ∙ chain.1, rest)
    ]
