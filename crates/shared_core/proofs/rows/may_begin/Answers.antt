use Rattle.std.proofs.Common.{◌∙◌, sym}
use Rattle.shared_core.proofs.rows.may_begin.Goals as goal

pub returns-in-Some : goal.returns-in-Some
returns-in-Some c = λ is. record { server = _; there = sym c.in-Some.ensures; free = sym c.may_part.ensures ∙ is }
