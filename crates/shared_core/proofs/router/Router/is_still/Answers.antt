use Rattle.std.proofs.Common.{◌∙◌, sym}
use Rattle.shared_core.proofs.router.Router.is_still.Goals as goal

pub returns-in-Some : goal.returns-in-Some
returns-in-Some c = λ is. record { row = c.in-Some.row.now; there = sym c.in-Some.ensures; is = sym c.is_who.ensures ∙ is }
