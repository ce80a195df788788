use Rattle.router_laws.proofs.OfRouters.Entering.{router_enters}
use Rattle.router_laws.proofs.routers.enters.routers_enter.Goals as goal

pub returns : goal.returns
returns c = λ service texts admin log e login begun t now roomy room router may quiet waits enters opened.
    router_enters service log e login begun t now roomy room router may quiet waits enters opened
