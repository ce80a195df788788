use Rattle.std.proofs.Common.{sym, ◌∙◌}
use Rattle.router_promises.proofs.Cares.{must-so}
use Rattle.router_promises.proofs.Refusals.{kept-at, never}
use Rattle.router_promises.proofs.careless.goes_on_without_its_session.Goals as goal

pub returns : goal.returns
returns c = λ terms before e k client has within is must goes_on.
    never (sym (must-so terms before e k client (kept-at _ before has.more e has.keeps.ends) within is must) ∙ goes_on)
