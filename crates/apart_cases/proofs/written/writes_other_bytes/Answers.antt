use Rattle.router_promises.proofs.Refusals.{query-front}
use Rattle.apart_cases.proofs.Kept.{says-at}
use Rattle.apart_cases.proofs.written.writes_other_bytes.Goals as goal

pub returns : goal.returns
returns c = λ terms before more link n due text keeps there entered query at other. other
    (query-front terms before link n due text entered query at (says-at terms before more keeps link there))
