use Rattle.router_promises.specs.Terms.{plan_in}
use Rattle.std.proofs.Common.{refl}
use Rattle.apart_cases.proofs.told.quotes_a_server.Goals as goal

pub returns : goal.returns
returns c = λ terms log m from state text keeps is.
    c.answers_with_a_servers_error.ensures keeps.rules (plan_in terms) m from 1064 state text keeps.speaks is refl
