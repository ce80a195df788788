use Rattle.std.proofs.Common.{sym}
use Rattle.shared_core.specs.Stands.{tables}
use Rattle.shared_core.specs.Telling.{RestsAs, RestsThere}
use Rattle.shared_core.specs.declared.telling.Who.{Who}
use Rattle.shared_core.proofs.Last.{some-weaker}
use Rattle.shared_core.proofs.router.Router.rests_there.Goals as goal

pub returns-in-Some : goal.returns-in-Some
returns-in-Some c =
    some-weaker c.who_rests.result (λ (who : Who). RestsAs who c.in-Some.row.now)
    (λ (who : Who). RestsThere who c.args.client (tables c.args.self.now))
    (λ who rests. record { row = c.in-Some.row.now; there = sym c.in-Some.ensures; rests = rests }) c.who_rests.ensures
