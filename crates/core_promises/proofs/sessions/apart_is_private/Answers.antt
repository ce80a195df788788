use Rattle.mx_wire.specs.Moments.{moment-last}
use Rattle.router_promises.specs.Headline.{IsLawfulSo}
use Rattle.core_promises.proofs.sessions.apart_is_private.Goals as goal

pub returns : goal.returns
returns c = λ terms tests server log tame accepted keeps servers.
    c.written_is_private.ensures _ _ tests server log tame accepted (moment-last (IsLawfulSo terms) log keeps.lawful) keeps.said servers keeps.due
