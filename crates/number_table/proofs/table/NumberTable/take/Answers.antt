use Rattle.std.proofs.Common.{◌≡◌, ◌<◌, ℕ, sym, subst, ap, ◌∙◌}
use Rattle.std.specs.Prelude.{length, slice_index}
use Rattle.number_table.specs.Numbers.{IsFree, Numbered}
use Rattle.number_table.specs.declared.held.Held.{Held}
use Rattle.number_table.proofs.Numbering.{grown_for, if_ok_map, next_free, put_added, put_more}
use Rattle.number_table.proofs.table.NumberTable.take.Goals as goal

pub invariant_of-self : goal.invariant_of-self
invariant_of-self g c =
    put_more g.met.K.Eq.laws c.self.invariant c.args.key c.in-Some.held.now c.in_ok-held-in-Some.held (sym c.in-Some.ensures.value)
    (ap (λ (h : Held). h.number) c.in_ok-held-in-Some.ensures.ok) c.put.result c.put.ensures.entries c.put.ensures.err c.put.ensures.unique

pub invariant_of-self-in-None : goal.invariant_of-self-in-None
invariant_of-self-in-None g c =
    let taken = c.len.ensures.len in
    let order = c.next_number.new.order in
    let within : length c.self.inside.held.entries < length order =
    subst (λ (n : ℕ). n < length order) taken c.in_ok-number-in-None.ensures.within in
    put_added g.met.K.Eq.laws c.self.inside.held
    (grown_for g.met.K.Eq.laws c.self.invariant c.len.result taken c.in_ok-number-in-None.ensures.order c.in_ok-number-in-None.ensures.few)
    c.args.key (record { number = c.in_ok-number-in-None.number; others = 0 }) (sym c.in-None.ensures.value) within
    (c.in_ok-number-in-None.ensures.number ∙ ap (slice_index order) taken) c.put-in-None.result c.put-in-None.ensures.entries
    c.put-in-None.ensures.err c.put-in-None.ensures.unique

pub returns-in_ok-number-in-None-clause-free : goal.returns-in_ok-number-in-None-clause-free
returns-in_ok-number-in-None-clause-free g c =
    let taken = c.len.ensures.len in
    let order = c.next_number.new.order in
    let within : length c.self.inside.held.entries < length order =
    subst (λ (n : ℕ). n < length order) taken c.in_ok-number-in-None.ensures.within in
    let number : c.in_ok-number-in-None.number ≡ slice_index order (length c.self.inside.held.entries) =
    c.in_ok-number-in-None.ensures.number ∙ ap (slice_index order) taken in
    if_ok_map c.put-in-None.result c.put-in-None.ensures.number (λ result is none.
    subst (λ (t : Numbered _). IsFree g.K.PartialEq.eq t result) c.self.view_is
    (rw (is, number) (next_free g.met.K.Eq.laws
    (grown_for g.met.K.Eq.laws c.self.invariant c.len.result taken c.in_ok-number-in-None.ensures.order c.in_ok-number-in-None.ensures.few)
    c.in_ok-number-in-None.ensures.alone within)))
