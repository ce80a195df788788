use Rattle.std.specs.List.{list_any}
use Rattle.std.proofs.Common.{ap, sym, ◌∙◌}
use Rattle.client_desk.proofs.Open.{none-open}
use Rattle.client_desk.specs.Sessions.{is_open}
use Rattle.client_desk.proofs.desk.Desk.transaction.Goals as goal

pub returns-else-any_open : goal.returns-else-any_open
returns-else-any_open c =
    none-open c.args.self.now.lefts c.args.self.now.sessions c.args.hostgroups.now
    (ap (list_any is_open) (sym c.as_slice.ensures) ∙ sym c.any_open.ensures ∙ c.if-any_open.false)
