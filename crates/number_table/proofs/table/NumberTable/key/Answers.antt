use Rattle.std.proofs.Common.{◌≡◌, ◌<◌, ℕ, length, sym, ap, subst, ◌∙◌, arith, true≢false}
use Rattle.std.specs.Prelude.{Some}
use Rattle.number_table.specs.Numbers.{IsFree, Numbered, number_at}
use Rattle.number_table.proofs.Numbering.{free_of, number_by_place}
use Rattle.number_table.proofs.table.NumberTable.key.Goals as goal

pub returns-in_err-place-clause-free : goal.returns-in_err-place-clause-free
returns-in_err-place-clause-free g c =
    rw c.from_residual.ensures (subst (λ (t : Numbered _). IsFree g.K.PartialEq.eq t c.args.number) c.self.view_is
    (free_of g.met.K.Eq.laws c.self.invariant c.args.number (λ place within. c.in_err-place.ensures.none place (omega (arith, c.self.invariant.room, within)))))

pub returns-in_err-key-clause-free : goal.returns-in_err-key-clause-free
returns-in_err-key-clause-free g c =
    rw c.from_residual-in_err-key.ensures (subst (λ (t : Numbered _). IsFree g.K.PartialEq.eq t c.args.number) c.self.view_is
    (free_of g.met.K.Eq.laws c.self.invariant c.args.number (λ place within is.
    let there : place ≡ c.in_ok-place.place = c.in_ok-place.ensures.alone place (omega (arith, c.self.invariant.room, within)) is in
    true≢false (sym (c.in_err-key.ensures.found.1 (subst (λ (p : ℕ). p < length c.self.inside.held.entries) there within))))))

pub returns-clause-key : goal.returns-clause-key
returns-clause-key g c =
    subst (λ (t : Numbered _). number_at g.K.PartialEq.eq t c.in_ok-key.key.now ≡ Some c.args.number) c.self.view_is
    (number_by_place g.met.K.Eq.laws c.self.invariant c.in_ok-place.place _ _ (sym c.in_ok-key.ensures.entry) ∙ ap Some c.in_ok-place.ensures.is)
