use Rattle.std.proofs.Common.{◌≡◌, ◌<◌, ◌-◌, ℕ, length, sym, subst, ap, ◌∙◌, arith, true≢false}
use Rattle.std.specs.Prelude.{List, swap_remove, Some, None, slice_get}
use Rattle.std.specs.Option.{option_and_then}
use Rattle.std.specs.List.{IsDistinct}
use Rattle.std.specs.Map.{keys_of}
use Rattle.std.proofs.lemmas.Option.{slice_get_within}
use Rattle.indexmap.specs.IndexMap.{Updates, set_value_at}
use Rattle.indexmap.proofs.CallerLemmas.{updates-with_value_at}
use Rattle.number_table.specs.Numbers.{Changes, IsFree, Numbered, held_at, number_at, one_less}
use Rattle.number_table.specs.declared.held.Held.{Held}
use Rattle.number_table.proofs.Numbering.{free_of}
use Rattle.number_table.proofs.Leaving.{changes, lessened_table, never_free, one_less-none, one_less-some, own_number, removed_table, some_at}
use Rattle.number_table.proofs.table.NumberTable.leave.Goals as goal

pub returns-in_default-clause-left : goal.returns-in_default-clause-left
returns-in_default-clause-left g c =
    subst (λ (t : Numbered _). (key : _) → number_at g.K.PartialEq.eq t key ≡ Some c.args.number
    → Changes g.K.PartialEq.eq t t key (option_and_then one_less (held_at g.K.PartialEq.eq t key))) c.self.view_is
    (λ key h. absurd (free_of g.met.K.Eq.laws c.self.invariant c.args.number
    (λ place within. c.in_default.ensures.none place (omega (arith, c.self.invariant.room, within))) key h))

pub returns-in_default-get_index-clause-left : goal.returns-in_default-get_index-clause-left
returns-in_default-get_index-clause-left g c =
    subst (λ (t : Numbered _). (key : _) → number_at g.K.PartialEq.eq t key ≡ Some c.args.number
    → Changes g.K.PartialEq.eq t t key (option_and_then one_less (held_at g.K.PartialEq.eq t key))) c.self.view_is
    (λ key h. absurd (free_of g.met.K.Eq.laws c.self.invariant c.args.number (λ place within is.
    let there : place ≡ c.in-Some.place = c.in-Some.ensures.alone place (omega (arith, c.self.invariant.room, within)) is in
    true≢false (sym (c.in_default-get_index.ensures.found.1 (subst (λ (p : ℕ). p < length c.self.inside.held.entries) there within)))) key h))

pub invariant_of-self : goal.invariant_of-self
invariant_of-self g c =
    let key = c.in-Some-get_index.field-0-0.now in
    let held = c.in-Some-get_index.held.now in
    let there : slice_get c.self.inside.held.entries c.in-Some.place ≡ Some (key, held) = sym c.in-Some-get_index.ensures.entry in
    lessened_table c.self.invariant c.in-Some.place key held _ there (own_number c.self.invariant c.in-Some.place key held c.args.number there c.in-Some.ensures.is)

pub returns-then-others-gt0-clause-left : goal.returns-then-others-gt0-clause-left
returns-then-others-gt0-clause-left g c =
    let key = c.in-Some-get_index.field-0-0.now in
    let held = c.in-Some-get_index.held.now in
    let there : slice_get c.self.inside.held.entries c.in-Some.place ≡ Some (key, held) = sym c.in-Some-get_index.ensures.entry in
    let number = own_number c.self.invariant c.in-Some.place key held c.args.number there c.in-Some.ensures.is in
    let left : Held = record { number = c.args.number; others = held.others - 1 } in
    let is : Some left ≡ one_less held = ap (λ (n : ℕ). Some (record { number = n; others = held.others - 1 })) number ∙ one_less-some held c.if-others-gt0.true in
    let entries = set_value_at c.self.inside.held.entries c.in-Some.place left in
    subst (λ (t : Numbered _). (key : _) → number_at g.K.PartialEq.eq t key ≡ Some c.args.number
    → Changes g.K.PartialEq.eq t (record { entries = entries; slots = length c.self.inside.order; most = c.self.inside.most }) key (option_and_then one_less (held_at g.K.PartialEq.eq t key))) c.self.view_is
    (changes g.met.K.Eq.laws c.self.invariant c.args.number c.in-Some.place c.in-Some.ensures.alone key held there entries (Some left) (length c.self.inside.order) c.self.inside.most is
    (updates-with_value_at c.self.inside.held c.in-Some.place left g.met.K.Eq.laws c.self.invariant.unique key held there).0)

pub returns-then-others-gt0-clause-free : goal.returns-then-others-gt0-clause-free
returns-then-others-gt0-clause-free g c free =
    absurd (never_free g.met.K.Eq.laws c.self.invariant c.args.number c.in-Some.place c.in-Some-get_index.field-0-0.now c.in-Some-get_index.held.now
    (sym c.in-Some-get_index.ensures.entry) c.in-Some.ensures.is
    (subst (λ (t : Numbered _). IsFree g.K.PartialEq.eq t c.args.number) (sym c.self.view_is) free))

pub invariant_of-self-2 : goal.invariant_of-self-2
invariant_of-self-2 g c =
    let key = c.in-Some-get_index.field-0-0.now in
    let held = c.in-Some-get_index.held.now in
    let there : slice_get c.self.inside.held.entries c.in-Some.place ≡ Some (key, held) = sym c.in-Some-get_index.ensures.entry in
    let entries = some_at (λ (e : _ × Held). c.swap_remove_index.new.self.entries ≡ swap_remove c.self.inside.held.entries c.in-Some.place e)
    c.swap_remove_index.result (key, held) (c.swap_remove_index.ensures.entry ∙ there) c.swap_remove_index.ensures.entries in
    rw (entries, c.swap.ensures) (removed_table c.self.invariant c.in-Some.place (c.len-last.result - 1) (key, held) (ap (λ (n : ℕ). n - 1) c.len-last.ensures.len)
    (slice_get_within c.self.inside.held.entries c.in-Some.place (key, held) there)
    (subst (λ (es : List (_ × Held)). IsDistinct g.K.PartialEq.eq (keys_of es)) entries c.swap_remove_index.ensures.unique))

pub returns-clause-left : goal.returns-clause-left
returns-clause-left g c =
    let key = c.in-Some-get_index.field-0-0.now in
    let held = c.in-Some-get_index.held.now in
    let there : slice_get c.self.inside.held.entries c.in-Some.place ≡ Some (key, held) = sym c.in-Some-get_index.ensures.entry in
    let updates = some_at (λ (e : _ × Held). Updates g.K.PartialEq.eq c.self.inside.held c.swap_remove_index.new.self e.0 None)
    c.swap_remove_index.result (key, held) (c.swap_remove_index.ensures.entry ∙ there) c.swap_remove_index.ensures.updates in
    let entries = c.swap_remove_index.new.self.entries in
    subst (λ (t : Numbered _). (key : _) → number_at g.K.PartialEq.eq t key ≡ Some c.args.number
    → Changes g.K.PartialEq.eq t (record { entries = entries; slots = length c.swap.new.self; most = c.self.inside.most }) key (option_and_then one_less (held_at g.K.PartialEq.eq t key))) c.self.view_is
    (changes g.met.K.Eq.laws c.self.invariant c.args.number c.in-Some.place c.in-Some.ensures.alone key held there entries None (length c.swap.new.self) c.self.inside.most
    (one_less-none held c.if-others-gt0.false) updates.0)

pub returns-clause-free : goal.returns-clause-free
returns-clause-free g c free =
    absurd (never_free g.met.K.Eq.laws c.self.invariant c.args.number c.in-Some.place c.in-Some-get_index.field-0-0.now c.in-Some-get_index.held.now
    (sym c.in-Some-get_index.ensures.entry) c.in-Some.ensures.is
    (subst (λ (t : Numbered _). IsFree g.K.PartialEq.eq t c.args.number) (sym c.self.view_is) free))
