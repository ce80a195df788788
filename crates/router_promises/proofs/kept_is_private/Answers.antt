use Rattle.router_promises.proofs.Saying.{lawful-last}
use Rattle.router_promises.proofs.kept_is_private.Goals as goal

pub returns : goal.returns
returns c = λ terms tests server log tame accepted keeps servers.
    c.private_bytes.ensures _ _ tests server log tame accepted (lawful-last terms log keeps.lawful) (c.said_log.ensures terms log keeps) servers
