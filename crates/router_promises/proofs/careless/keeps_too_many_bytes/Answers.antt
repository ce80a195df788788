use Rattle.std.proofs.Common.{sym, ◌∙◌}
use Rattle.router_promises.proofs.Cares.{full-so}
use Rattle.router_promises.proofs.Refusals.{kept-at, never}
use Rattle.router_promises.proofs.careless.keeps_too_many_bytes.Goals as goal

pub returns : goal.returns
returns c = λ terms before e k client has within is measured much goes_on.
    never (sym (full-so terms before e k client (kept-at _ before has.more e has.keeps.ends) within is measured much) ∙ goes_on)
