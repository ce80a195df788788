use Rattle.std.specs.Prelude.{nat_le, length}
use Rattle.std.proofs.Common.{arith}
use Rattle.log_story.specs.Plan.{Closes}
use Rattle.router_promises.specs.Now.{now_at}
use Rattle.router_promises.specs.Steps.{IsClose, live_keys}
use Rattle.router_promises.specs.Terms.{setup_in}
use Rattle.router_promises.proofs.Cares.{may-step}
use Rattle.router_promises.proofs.Refusals.{kept-at, neither}
use Rattle.router_promises.proofs.careless.closes_a_statement_in_vain.Goals as goal

pub returns : goal.returns
returns c = λ terms before link number bytes has there begins is few unneeded.
    let close : IsClose terms (now_at terms before) link number =
    may-step terms before link (Closes number) bytes (kept-at _ before has.more _ has.keeps.steps) there begins is in
    neither (nat_le 1000 (length (live_keys (setup_in terms) (now_at terms before) link))) _ (grind arith)
    (unneeded close.key close.live) close.needed
