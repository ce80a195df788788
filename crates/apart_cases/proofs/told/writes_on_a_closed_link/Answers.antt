use Rattle.mx_wire.specs.Tells.{Fits}
use Rattle.std.proofs.Common.{sym, ◌∙◌}
use Rattle.router_promises.proofs.Refusals.{kept-at, never}
use Rattle.apart_cases.proofs.told.writes_on_a_closed_link.Goals as goal

pub returns : goal.returns
returns c = λ terms before link tag bytes has closed. never (sym (kept-at Fits before has.more _ has.keeps.fits).opened ∙ closed)
