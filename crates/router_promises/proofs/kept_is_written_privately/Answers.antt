use Rattle.router_promises.proofs.Saying.{lawful-last}
use Rattle.router_promises.proofs.kept_is_written_privately.Goals as goal

pub returns : goal.returns
returns c = λ terms tests server log tame accepted keeps servers.
    c.written_is_private.ensures _ _ tests server log tame accepted (lawful-last terms log keeps.lawful) (c.said_log.ensures terms log keeps) servers keeps.due
