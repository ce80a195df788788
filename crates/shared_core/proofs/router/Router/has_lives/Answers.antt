use Rattle.std.proofs.Common.{◌∙◌}
use Rattle.std.proofs.lemmas.Option.{none-some}
use Rattle.shared_core.proofs.ClientRows.{lives_of}
use Rattle.shared_core.proofs.router.Router.has_lives.Goals as goal
use Rattle.shared_core.specs.Stands.{tables}

pub returns-in-Some : goal.returns-in-Some
returns-in-Some c = λ is row there.
    lives_of c.args.client (tables c.args.self.now) c.in-Some.row.now row c.in-Some.ensures (c.may_leave.ensures is) there

pub returns-in-None : goal.returns-in-None
returns-in-None c = λ is row there. absurd (none-some row (c.in-None.ensures ∙ there))
