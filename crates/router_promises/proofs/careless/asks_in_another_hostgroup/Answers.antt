use Rattle.router_promises.proofs.Cares.{stands-so}
use Rattle.router_promises.proofs.Refusals.{kept-at}
use Rattle.router_promises.proofs.careless.asks_in_another_hostgroup.Goals as goal

pub returns : goal.returns
returns c = λ terms before link tag bytes question hostgroup has there begins asked in_group apart.
    apart (stands-so terms before link tag bytes question hostgroup (kept-at _ before has.more _ has.keeps.tagged) there begins asked
    in_group)
