use Rattle.router_promises.specs.Headline.{SaysSo}
use Rattle.router_promises.proofs.Refusals.{held-at, query-front}
use Rattle.router_promises.proofs.misled.writes_other_bytes.Goals as goal

pub returns : goal.returns
returns c = λ terms before more link n due text keeps there entered query at other. other
    (query-front terms before link n due text entered query at (held-at (SaysSo terms) before more keeps.said link there))
