use Rattle.std.proofs.Common.{inl, refl, sym, ◌∙◌}
use Rattle.query_rules.proofs.RowsLeft.{is_repeated}
use Rattle.query_rules.proofs.rules.compile_behind.Goals as goal

pub returns-then-eq-clause-fault : goal.returns-then-eq-clause-fault
returns-then-eq-clause-fault c = inl (is_repeated _ _ (sym c.eq.ensures ∙ c.if-eq.true), refl)
