use Rattle.std.proofs.Common.{subst}
use Rattle.number_table.specs.Numbers.{AreNumbered, Numbered}
use Rattle.number_table.proofs.Numbering.{are_numbered}
use Rattle.number_table.proofs.table.NumberTable.numbered.Goals as goal

pub returns : goal.returns
returns g c =
    subst (λ (t : Numbered _). AreNumbered g.K.PartialEq.eq t) c.self.view_is (are_numbered g.met.K.Eq.laws c.self.invariant c.permuted.ensures)
